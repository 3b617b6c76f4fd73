use Rattle.std.proofs.Common.{◌≡◌, ◌+◌, ◌-◌, length, drop, slice_range, arith}
use Rattle.std.proofs.lemmas.Grind.{common_steps}
use Rattle.std.proofs.lemmas.List.{length-drop, length-take-le}
use Rattle.shape_common.proofs.WrappingLemmas.{kept_bits}
use Rattle.shape_items.proofs.clusters.glyph_clusters.cluster_between.Goals as goal

pub returns : goal.returns
returns c =
    let long : c.args.start + length (slice_range c.args.infos.now c.args.start c.args.end) ≡ c.args.end = rw
    (length-take-le (c.args.end - c.args.start) (drop c.args.start c.args.infos.now)
    (rw (length-drop c.args.start c.args.infos.now) (omega (arith, c.requires.within))))
    (omega (arith, c.requires.ordered)) in
    grind (arith, common_steps, kept_bits)
