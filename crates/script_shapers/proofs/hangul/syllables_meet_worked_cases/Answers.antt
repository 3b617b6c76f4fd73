use Rattle.script_shapers.specs.Worked.Hangul.{worked_hangul}
use Rattle.script_shapers.proofs.hangul.syllables_meet_worked_cases.Goals as goal

pub returns : goal.returns
returns c = worked_hangul
