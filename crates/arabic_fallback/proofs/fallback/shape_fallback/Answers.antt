use Rattle.arabic_fallback.proofs.MadeLemmas.{Outcome-made}
use Rattle.arabic_fallback.proofs.fallback.shape_fallback.Goals as goal

pub returns : goal.returns
returns g c = record { outcome = Outcome-made _ _ _ c.requires c.shape_all.result c.shape_all.ensures.ok c.shape_all.ensures.memory }
