use Rattle.std.proofs.Common.{◌≡◌, ◌+◌, ◌<◌, ◌≤◌, Bool, length, get_or, sym, ap, ◌∙◌, arith, rules}
use Rattle.std.proofs.lemmas.List.{take_all}
use Rattle.shape_lines.specs.Spots.{spots_of}
use Rattle.shape_lines.specs.TextOrder.{text_order}
use Rattle.shape_lines.proofs.SpotLemmas.{length-marks, mark-at, length-spots_of, spot-read, spots_push, spot_same}
use Rattle.shape_lines.proofs.TextOrderLemmas.{length-text}
use Rattle.shape_lines.proofs.spots.spots.Goals as goal

pub loop-place-init : goal.loop-place-init
loop-place-init c =
    let gs = text_order c.args.glyphs.now in
    let long = length-text c.args.glyphs.now in
    record {
      spots_are = c.in_ok-spots.ensures.items;
      allowed_long =
          let len = c.in_ok-marks.marks.allowed.ok.0 in
          omega (arith, len, ap length c.in_ok-marks.ensures.allowed, length-marks c.args.breaks.now.allowed.now gs, long);
      mandatory_long =
          let len = c.in_ok-marks.marks.mandatory.ok.0 in
          omega (arith, len, ap length c.in_ok-marks.ensures.mandatory, length-marks c.args.breaks.now.mandatory.now gs, long);
      spaces_long =
          let len = c.in_ok-marks.marks.spaces.ok.0 in
          omega (arith, len, ap length c.in_ok-marks.ensures.spaces, length-marks c.args.breaks.now.spaces.now gs, long);
    }

pub loop-place-preserved : goal.loop-place-preserved
loop-place-preserved c =
    let b = c.args.glyphs.now in
    let gs = text_order b in
    let a = c.args.breaks.now.allowed.now in
    let m = c.args.breaks.now.mandatory.now in
    let s = c.args.breaks.now.spaces.now in
    let n = c.loop-place.place in
    let lt : n < length b.items = omega (arith, c.loop-place-test.true, c.len-place-end.ensures) in
    let short : n < length gs = omega (arith, length-text b, lt) in
    let many : n < length (spots_of b a m s) = omega (arith, length-spots_of b a m s, lt) in
    let am = c.index.result.now in
    let mm = c.index-in-loop-place.result.now in
    let sm = c.index-in-loop-place-2.result.now in
    let am_is = c.index.ensures ∙ ap (λ l. get_or l n am) c.in_ok-marks.ensures.allowed ∙ mark-at a gs n am short in
    let mm_is = c.index-in-loop-place.ensures ∙ ap (λ l. get_or l n mm) c.in_ok-marks.ensures.mandatory ∙ mark-at m gs n mm short in
    let sm_is = c.index-in-loop-place-2.ensures ∙ ap (λ l. get_or l n sm) c.in_ok-marks.ensures.spaces ∙ mark-at s gs n sm short in
    record {
      spots_are = spots_push (spots_of b a m s) c.loop-place.spots.items c.push.new.self.items n _ c.in_ok-push.ensures.items c.loop-place.invariant.spots_are
          (spot_same _ _ _ _ _ _ _ _ (search rules) c.both.ensures c.both-in-loop-place.ensures
          ∙ spot-read b a m s n _ c.piece_at-piece.result c.begins_cluster-begins.result am mm sm lt c.piece_at-piece.ensures.value
          c.begins_cluster-begins.ensures am_is mm_is sm_is)
          many;
      allowed_long = c.loop-place.invariant.allowed_long;
      mandatory_long = c.loop-place.invariant.mandatory_long;
      spaces_long = c.loop-place.invariant.spaces_long;
    }

pub returns : goal.returns
returns c =
    let b = c.args.glyphs.now in
    let a = c.args.breaks.now.allowed.now in
    let m = c.args.breaks.now.mandatory.now in
    let s = c.args.breaks.now.spaces.now in
    c.loop-place.invariant.spots_are
    ∙ take_all c.loop-place.place (spots_of b a m s) (omega (arith, c.loop-place-test.false, c.len-place-end.ensures, length-spots_of b a m s))
