use Rattle.script_shapers.specs.Worked.Modifiers.{worked_modifiers}
use Rattle.script_shapers.proofs.arabic.modifiers_meet_worked_cases.Goals as goal

pub returns : goal.returns
returns c = worked_modifiers
