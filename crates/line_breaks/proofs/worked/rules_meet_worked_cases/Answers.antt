use Rattle.line_breaks.specs.Worked.{worked_rules}
use Rattle.line_breaks.specs.Worked.Classes.{worked_classes}
use Rattle.line_breaks.proofs.worked.rules_meet_worked_cases.Goals as goal

pub returns-clause-rules : goal.returns-clause-rules
returns-clause-rules c = worked_rules

pub returns-clause-classes : goal.returns-clause-classes
returns-clause-classes c = worked_classes
