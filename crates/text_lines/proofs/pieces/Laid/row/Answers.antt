use Rattle.std.proofs.Common.{◌≡◌, ◌<◌, [], ◌∷◌, ◌++◌, length, get_or, sym, ap, ap₂, ◌∙◌, arith}
use Rattle.std.proofs.lemmas.List.{get_or_read, map_more}
use Rattle.text_lines.specs.Pieces.{no_piece, shown_of}
use Rattle.text_lines.proofs.pieces.Laid.row.Goals as goal

pub loop-place-preserved : goal.loop-place-preserved
loop-place-preserved g c =
    let order = c.in_ok-order.order.items in
    let lt : c.loop-place.place < length order = omega (arith, c.loop-place-test.true, c.len-place-end.ensures) in
    let read : c.index.result.now ≡ get_or order c.loop-place.place 0 =
    get_or_read order c.loop-place.place c.index.result.now lt c.index.ensures 0 in
    let is : shown_of c.piece_at-piece.result ≡ shown_of (get_or c.args.pieces.now (get_or order c.loop-place.place 0) no_piece) =
    ap shown_of (c.piece_at-piece.ensures ∙ ap (λ k. get_or c.args.pieces.now k no_piece) read) in
    record {
      shown = c.in_ok-push.ensures.shown
          ∙ ap₂ (λ ls t. ls ++ t ∷ []) c.loop-place.invariant.shown (c.in_ok-run.ensures.shown ∙ is)
          ∙ sym (map_more (λ k. shown_of (get_or c.args.pieces.now k no_piece)) order c.loop-place.place 0 lt);
      logical = c.in_ok-push.ensures.logical ∙ c.loop-place.invariant.logical;
      follow = c.in_ok-push.ensures.follow c.loop-place.invariant.follow;
    }
