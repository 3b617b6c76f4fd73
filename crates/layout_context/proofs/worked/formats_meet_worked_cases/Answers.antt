use Rattle.layout_context.specs.Worked.Formats.{worked_chained_classes, worked_backwards, worked_flags}
use Rattle.layout_context.proofs.worked.formats_meet_worked_cases.Goals as goal

pub returns-clause-chained_classes : goal.returns-clause-chained_classes
returns-clause-chained_classes c = worked_chained_classes

pub returns-clause-backwards : goal.returns-clause-backwards
returns-clause-backwards c = worked_backwards

pub returns-clause-flags : goal.returns-clause-flags
returns-clause-flags c = worked_flags
