use Rattle.std.proofs.Common.{◌≡◌, ℕ, ◌+◌, ◌≤◌, pos, length, get_or}
use Rattle.shape_lines.specs.Spots.{reach}
use Rattle.shape_lines.proofs.measuring.reaches.Given as goal

abbrev pub invariant-loop-place : goal.invariant-loop-place
invariant-loop-place l = record {
  reach_is : l.reach ≡ reach l.spots l.place;
  as_many : length l.reaches.items ≡ l.place + 1;
  each : (k : ℕ) → k ≤ l.place → get_or l.reaches.items k (pos 0) ≡ reach l.spots k;
}
