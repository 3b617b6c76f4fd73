use Rattle.shaper_choice.specs.Worked.Choice.{worked_choice}
use Rattle.shaper_choice.proofs.choice.choices_meet_worked_cases.Goals as goal

pub returns : goal.returns
returns c = worked_choice
