use Rattle.line_breaks.specs.Worked.Texts.{worked_letters, worked_class_one, worked_units, worked_text, worked_breaks}
use Rattle.line_breaks.proofs.worked.texts_meet_worked_cases.Goals as goal

pub returns-clause-letters : goal.returns-clause-letters
returns-clause-letters c = worked_letters

pub returns-clause-resolved : goal.returns-clause-resolved
returns-clause-resolved c = worked_class_one

pub returns-clause-units : goal.returns-clause-units
returns-clause-units c = worked_units

pub returns-clause-text : goal.returns-clause-text
returns-clause-text c = worked_text

pub returns-clause-breaks : goal.returns-clause-breaks
returns-clause-breaks c = worked_breaks
