use Rattle.std.proofs.Common.{refl}
use Rattle.opentype_layout.proofs.stage.skip.Goals as goal

pub returns-then-stage-lt2-clause-skipped : goal.returns-then-stage-lt2-clause-skipped
returns-then-stage-lt2-clause-skipped c = λ items held many b spot is. refl
