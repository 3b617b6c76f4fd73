use Rattle.shape_carets.specs.Places.{IsNearestOf}
use Rattle.shape_carets.proofs.places.nearest.Given as goal

abbrev pub invariant-loop-place : goal.invariant-loop-place
invariant-loop-place l = IsNearestOf l.carets l.x l.place l.nearest
