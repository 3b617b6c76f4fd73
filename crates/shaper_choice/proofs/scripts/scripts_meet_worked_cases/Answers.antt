use Rattle.shaper_choice.specs.Worked.Scripts.{worked_scripts}
use Rattle.shaper_choice.proofs.scripts.scripts_meet_worked_cases.Goals as goal

pub returns : goal.returns
returns c = worked_scripts
