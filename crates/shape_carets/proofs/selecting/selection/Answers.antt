use Rattle.std.proofs.Common.{◌≡◌, ◌-◌, ◌+◌, drop, pos, sym, ap, ◌∙◌, arith}
use Rattle.shape_carets.specs.Carets.{caret}
use Rattle.shape_carets.specs.Selections.{selection_of}
use Rattle.shape_carets.proofs.SelectionLemmas.{selection-last}
use Rattle.shape_carets.proofs.selecting.selection.Goals as goal

pub loop-place-preserved : goal.loop-place-preserved
loop-place-preserved c =
    let cs = c.args.carets.now in
    let n = c.loop-place.place - 1 in
    let up : n + 1 ≡ c.loop-place.place = omega arith in
    c.loop-place.invariant
    ∙ ap (λ k. selection_of (drop k cs) c.args.start c.args.end) (sym up)
    ∙ sym (selection-last cs n c.args.start c.args.end (caret 0 (pos 0)) (omega arith) (omega arith))
