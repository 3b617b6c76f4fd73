use Rattle.std.proofs.Common.{arith, ap, sym, rules, ◌∙◌, FitsSigned}
use Rattle.std.proofs.lemmas.Grind.{common_steps}
use Rattle.std.proofs.lemmas.Int.{to_z-of_z}
use Rattle.font_variations.specs.Coordinates.{axis_coordinate}
use Rattle.font_variations.specs.Segments as segments
use Rattle.font_variations.proofs.SegmentLemmas.{one_more, segments_next}
use Rattle.font_variations.proofs.coordinates.by_segments.Goals as goal
use mir.Syntax.{w32}

pub loop-axis-preserved : goal.loop-axis-preserved
loop-axis-preserved c =
    let so_far = c.loop-axis.invariant in
    let f = axis_coordinate c.args.fvar.now c.args.avar.now c.args.wanted.now.instance c.args.wanted.now.wishes.now in
    let fits : FitsSigned w32 c.axis_coordinate.result = search rules in
    let is = to_z-of_z w32 c.axis_coordinate.result fits ∙ c.axis_coordinate.ensures in
    record {
      so_far = one_more f _ _ _ c.loop-axis.axis so_far.so_far is c.in_ok-push.ensures.items;
      counted = grind (arith, common_steps, so_far.counted);
      there = c.next_segments-at.ensures.value ∙ ap (segments.next_at c.args.avar.now) so_far.there ∙ sym (segments_next c.args.avar.now c.loop-axis.axis);
      near = omega (arith, c.next_segments-at.ensures.near, so_far.near);
    }
