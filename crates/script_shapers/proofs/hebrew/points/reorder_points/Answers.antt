use Rattle.std.proofs.Common.{◌+◌, ◌-◌, length, arith, ap, sym, ◌∙◌}
use Rattle.script_shapers.specs.HebrewPoints.{place_in_range}
use Rattle.script_shapers.proofs.hebrew.points.reorder_points.Goals as goal
use Rattle.shape_items.proofs.Merging.KeyLemmas.{length-merge_clusters}

pub exchange-requires-clause-first : goal.exchange-requires-clause-first
exchange-requires-clause-first c =
    let kept = ap (λ b. length b.items) c.merge_clusters.ensures.merged
    ∙ length-merge_clusters (c.args.start + c.in-Some.place - 1) (c.args.start + c.in-Some.place + 1) c.args.buffer.now in
    let same = ap length c.infos.ensures in
    let at = place_in_range c.infos.result.now c.args.start c.args.end c.in-Some.place c.requires.ordered
    (omega (arith, same, c.requires.within)) (sym c.third_place.ensures ∙ c.in-Some.is) in
    omega (arith, kept, at.0, at.1, c.requires.within)

pub exchange-requires-clause-second : goal.exchange-requires-clause-second
exchange-requires-clause-second c =
    let kept = ap (λ b. length b.items) c.merge_clusters.ensures.merged
    ∙ length-merge_clusters (c.args.start + c.in-Some.place - 1) (c.args.start + c.in-Some.place + 1) c.args.buffer.now in
    let same = ap length c.infos.ensures in
    let at = place_in_range c.infos.result.now c.args.start c.args.end c.in-Some.place c.requires.ordered
    (omega (arith, same, c.requires.within)) (sym c.third_place.ensures ∙ c.in-Some.is) in
    omega (arith, kept, at.0, at.1, c.requires.within)
