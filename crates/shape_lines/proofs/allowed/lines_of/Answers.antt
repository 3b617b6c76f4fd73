use Rattle.std.proofs.Common.{◌≡◌, ◌∷◌, [], ◌++◌, pos, length, sym, ap, subst, ◌∙◌, arith, append_assoc}
use Rattle.std.proofs.lemmas.List.{append-nil}
use Rattle.shape_lines.specs.LinesAt.{AreLinesFrom, line_at}
use Rattle.shape_lines.proofs.allowed.lines_of.Goals as goal

pub loop-start-preserved : goal.loop-start-preserved
loop-start-preserved c =
    let b = c.args.glyphs.now in
    let ss = c.args.measures.now.spots.items in
    let any = c.args.measures.now.anywhere in
    let at = c.line_at.result in
    let end = c.line_end-end.result in
    let is = c.line_at.ensures ∙ ap (λ l. line_at b c.args.text_end l c.loop-start.start end) c.deref.ensures.value in
    record {
      within = c.line_end-end.ensures.within;
      lines_on = λ rest later.
          let more = c.loop-start.invariant.lines_on (at ∷ rest) (end, c.line_end-end.ensures.end, is, later) in
          subst (λ l. AreLinesFrom b c.args.text_end any ss (pos c.args.width) 0 (l ++ rest)) (sym c.in_ok-push.ensures.items)
          (subst (AreLinesFrom b c.args.text_end any ss (pos c.args.width) 0) (sym (append_assoc c.loop-start.lines.items (at ∷ []) rest)) more);
    }

pub returns : goal.returns
returns c =
    let m = c.args.measures.now in
    let len = m.spots.ok.0 in
    let all : c.loop-start.start ≡ length m.spots.items =
    omega (arith, len, c.len.ensures, c.loop-start.invariant.within, c.loop-start-test.false) in
    subst (AreLinesFrom c.args.glyphs.now c.args.text_end m.anywhere m.spots.items (pos c.args.width) 0) (append-nil c.loop-start.lines.items)
    (c.loop-start.invariant.lines_on [] all)
