use Rattle.font_shaping.specs.Worked.{worked_strings}
use Rattle.font_shaping.proofs.laws.strings_meet_worked_cases.Goals as goal

pub returns : goal.returns
returns c = worked_strings
