use Rattle.std.proofs.Common.{◌≡◌, pos, length, to_z, of_z, false, true, sym, ap, ◌∙◌, arith, rules}
use Rattle.shape_lines.specs.Pieces.{pieces_of, is_end}
use Rattle.shape_lines.specs.Walked.{least, line_of}
use Rattle.shape_lines.specs.declared.reading.Piece.{Piece}
use Rattle.shape_lines.proofs.PieceLemmas.{length-pieces_of}
use Rattle.shape_lines.proofs.TotalLemmas.{is_end-cut, is_end-last}
use Rattle.shape_lines.proofs.LeastLemmas.{least_kept, length-leasts, drop_all}
use Rattle.shape_lines.proofs.WalkedLemmas.{IsWalked-past, IsWalked-all}
use Rattle.shape_lines.proofs.cutting.walked_lines.Goals as goal
use Rattle.shape_lines.proofs.cutting.walked_lines.Goals.{then-piece_at+in_ok-meet_end, else-piece_at}
use mir.Syntax.{w128}

pub loop-place-init : goal.loop-place-init
loop-place-init c = record {
  sums =
      let len = c.in_ok-least.least.ok.0 in
      omega (arith, len, ap length c.in_ok-least.ensures.least, length-leasts (pieces_of c.args.glyphs.now), length-pieces_of c.args.glyphs.now);
  walked = c.add.ensures;
}

pub meet_end-requires-clause-may_end : goal.meet_end-requires-clause-may_end
meet_end-requires-clause-may_end c =
    let ps = pieces_of c.args.glyphs.now in
    is_end-cut ps c.loop-place.place c.piece_at.result (omega (arith, length-pieces_of c.args.glyphs.now, c.len-place-end.ensures, c.loop-place-test.true))
    ∙ ap (λ (p : Piece). p.cut) (sym c.piece_at.ensures.value) ∙ c.if-piece_at.true

pub meet_end-requires-clause-least : goal.meet_end-requires-clause-least
meet_end-requires-clause-least c =
    let ps = pieces_of c.args.glyphs.now in
    let at = least_kept ps _ c.loop-place.place c.index.result.now c.in_ok-least.ensures.least (omega (arith, length-pieces_of c.args.glyphs.now, c.len-place-end.ensures, c.loop-place-test.true)) c.index.ensures in
    let fits : to_z w128 (of_z w128 c.index.result.now) ≡ c.index.result.now = search rules in
    fits ∙ at

pub add-requires-in-loop-place-clause-walked : goal.add-requires-in-loop-place-clause-walked
add-requires-in-loop-place-clause-walked c =
    let b = c.args.glyphs.now in
    let ps = pieces_of b in
    elim c.if-piece_at.branch [
      | then-piece_at+in_ok-meet_end w ↦ rw w.walk-is w.in_ok-meet_end.ensures.walked
      | else-piece_at w ↦
          rw w.walk-is (IsWalked-past ps (pos c.args.width) (line_of b c.args.text_end) _ _ _ _ _ c.loop-place.place c.loop-place.invariant.walked
          (is_end-cut ps c.loop-place.place c.piece_at.result (omega (arith, length-pieces_of b, c.len-place-end.ensures, c.loop-place-test.true))
          ∙ ap (λ (p : Piece). p.cut) (sym c.piece_at.ensures.value) ∙ w.if-piece_at.false))
    ]

pub meet_end-requires-2-clause-may_end : goal.meet_end-requires-2-clause-may_end
meet_end-requires-2-clause-may_end c =
    let ps = pieces_of c.args.glyphs.now in
    ap (is_end ps) (c.len.ensures ∙ sym (length-pieces_of c.args.glyphs.now)) ∙ is_end-last ps

pub meet_end-requires-2-clause-least : goal.meet_end-requires-2-clause-least
meet_end-requires-2-clause-least c =
    let ps = pieces_of c.args.glyphs.now in
    sym (ap least (drop_all ps c.len.result (c.len.ensures ∙ sym (length-pieces_of c.args.glyphs.now))))

pub returns : goal.returns
returns c =
    let b = c.args.glyphs.now in
    let met = c.in_ok-meet_end-2.ensures in
    rw (c.in_ok-push.ensures.items, c.line_between.ensures)
    (IsWalked-all (pieces_of b) (pos c.args.width) (line_of b c.args.text_end) _ _ _ _ _ _ _ (c.len.ensures ∙ sym (length-pieces_of b)) met.taken met.some
    met.walked)
