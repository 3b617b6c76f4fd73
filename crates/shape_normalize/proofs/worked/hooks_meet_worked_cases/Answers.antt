use Rattle.shape_normalize.specs.Worked.Hooks.{hooks_worked}
use Rattle.shape_normalize.proofs.worked.hooks_meet_worked_cases.Goals as goal

pub returns : goal.returns
returns c = hooks_worked
