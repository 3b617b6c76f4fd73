use Rattle.std.proofs.Common.{◌≡◌, drop}
use Rattle.shape_carets.specs.Selections.{selection_of}
use Rattle.shape_carets.proofs.selecting.selection.Given as goal

abbrev pub invariant-loop-place : goal.invariant-loop-place
invariant-loop-place l = l.selected ≡ selection_of (drop l.place l.carets) l.start l.end
