use Rattle.std.proofs.Common.{◌≡◌, ◌++◌, pos, drop}
use Rattle.shape_carets.specs.Cells.{cells_after}
use Rattle.shape_carets.proofs.cells.cells.Given as goal

abbrev pub invariant-loop-cluster : goal.invariant-loop-cluster
invariant-loop-cluster l =
    l.cells.items ++ cells_after l.backward l.text_end l.cell.offset l.cell.advance (drop l.cluster-index l.clusters)
    ≡ cells_after l.backward l.text_end l.text_start (pos 0) l.clusters
