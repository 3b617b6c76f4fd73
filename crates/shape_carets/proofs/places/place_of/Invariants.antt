use Rattle.std.proofs.Common.{ℕ, ◌<◌, ◌≤◌}
use Rattle.shape_carets.specs.Carets.{offset_at}
use Rattle.shape_carets.proofs.places.place_of.Given as goal

abbrev pub invariant-loop-place : goal.invariant-loop-place
invariant-loop-place l = (k : ℕ) → 0 < k → k < l.place → offset_at l.carets k ≤ l.offset
