use Rattle.std.proofs.Common.{rules}
use Rattle.indic_shaper.specs.Settling.Bases.{mended}
use Rattle.indic_shaper.proofs.settling.base.mend_all.Goals as goal

pub returns : goal.returns
returns c = c.update_items.ensures (mended c.args.virama) (λ x y said. search rules)
