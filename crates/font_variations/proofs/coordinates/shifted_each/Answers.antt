use Rattle.std.proofs.Common.{rules, ◌∙◌, FitsSigned}
use Rattle.std.proofs.lemmas.Int.{to_z-of_z}
use Rattle.font_variations.specs.Coordinates as coordinates
use Rattle.font_variations.proofs.SegmentLemmas.{one_more}
use Rattle.font_variations.proofs.coordinates.shifted_each.Goals as goal
use mir.Syntax.{w32}

pub loop-axis-preserved : goal.loop-axis-preserved
loop-axis-preserved c =
    let fits : FitsSigned w32 c.shifted.result = search rules in
    let is = to_z-of_z w32 c.shifted.result fits ∙ c.shifted.ensures in
    one_more (coordinates.shifted c.args.avar.now c.args.coordinates.now) _ _ _ c.loop-axis.axis c.loop-axis.invariant is c.in_ok-push.ensures.items
