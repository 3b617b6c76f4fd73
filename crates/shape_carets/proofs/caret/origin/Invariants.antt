use Rattle.std.proofs.Common.{◌≡◌, pos, drop}
use Rattle.std.specs.List.{fold}
use Rattle.shape_common.specs.Wrapping.{◌+ʷ◌}
use Rattle.shape_carets.specs.declared.cells.Cell.{Cell}
use Rattle.shape_carets.proofs.caret.origin.Given as goal

abbrev pub invariant-loop-cell : goal.invariant-loop-cell
invariant-loop-cell l =
    fold (λ total (c : Cell). total +ʷ c.advance) l.total (drop l.cell-index l.cells)
    ≡ fold (λ total (c : Cell). total +ʷ c.advance) (pos 0) l.cells
