use Rattle.std.proofs.Common.{rules}
use Rattle.shape_prepare.specs.Ranges.{with_feature}
use Rattle.shape_prepare.proofs.ranges.set_masks.Goals as goal

pub returns : goal.returns
returns c = c.update_items.ensures (with_feature c.args.feature.now (c.args.bits, c.args.shift)) (λ x y said. search rules)
