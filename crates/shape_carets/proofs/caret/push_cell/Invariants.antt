use Rattle.std.proofs.Common.{◌≡◌, ◌++◌, drop}
use Rattle.shape_carets.specs.Carets.{spread, cell_carets}
use Rattle.shape_carets.proofs.caret.push_cell.Given as goal

abbrev pub invariant-loop-stop : goal.invariant-loop-stop
invariant-loop-stop l =
    l.carets.items ++ spread l.x l.step (drop l.stop-index l.inside)
    ≡ l.fn.carets.items ++ cell_carets l.fn.cell l.fn.x l.inside
