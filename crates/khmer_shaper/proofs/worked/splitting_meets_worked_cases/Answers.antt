use Rattle.khmer_shaper.specs.Worked.Splitting.{worked_splitting}
use Rattle.khmer_shaper.proofs.worked.splitting_meets_worked_cases.Goals as goal

pub returns : goal.returns
returns c = worked_splitting
