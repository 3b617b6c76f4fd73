use Rattle.std.proofs.Common.{◌≡◌, ℕ, ◌+◌, ◌<◌, ◌≤◌, pos, length, get_or}
use Rattle.shape_lines.specs.Measured.{IsLeastReach}
use Rattle.shape_lines.specs.Spots.{reach}
use Rattle.shape_lines.proofs.measuring.least_reaches.Given as goal

abbrev pub invariant-loop-place : goal.invariant-loop-place
invariant-loop-place l = record {
  as_many : length l.least.items ≡ length l.spots + 1;
  done : (k : ℕ) → l.place ≤ k → k ≤ length l.spots → IsLeastReach l.anywhere l.spots k (get_or l.least.items k (pos 0));
  still : (k : ℕ) → k < l.place → get_or l.least.items k (pos 0) ≡ reach l.spots k;
}
