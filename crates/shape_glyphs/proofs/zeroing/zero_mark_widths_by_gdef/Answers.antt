use Rattle.std.proofs.Common.{◌≡◌, ap, arith}
use Rattle.std.specs.Prelude.{◌&&◌}
use Rattle.shape_common.specs.Direction.{is_forward}
use Rattle.shape_buffer.specs.PositionWalks.{positions_mapped}
use Rattle.shape_glyphs.specs.Zeroing.{marks_zeroed, zeroed_mark}
use Rattle.shape_glyphs.proofs.StepLemmas.{Made-as}
use Rattle.shape_glyphs.proofs.zeroing.zero_mark_widths_by_gdef.Goals as goal
use Rattle.shape_glyphs.proofs.zeroing.zero_mark_widths_by_gdef.Goals.{then-adjust_offsets, else-adjust_offsets}

pub returns : goal.returns
unfolding marks_zeroed
returns c =
    let adjust = c.if-adjust_offsets.adjust in
    let is : adjust
    ≡ (c.args.adjust_offsets
    && is_forward c.args.buffer.now.direction) = elim c.if-adjust_offsets.branch [
      | then-adjust_offsets w ↦ grind
          (arith, w.adjust-is, w.is_forward-adjust.ensures, w.direction.ensures)
      | else-adjust_offsets w ↦ grind (arith, w.adjust-is)
    ] in
    Made-as (marks_zeroed c.args.adjust_offsets) c.zero_marks.ensures
    (ap (λ a. positions_mapped (zeroed_mark a) c.args.buffer.now) is)
