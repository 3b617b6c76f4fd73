use Rattle.std.proofs.Common.{◌≡◌, ℕ, ◌+◌, ◌<◌, pos, ◌≤ℤ◌, false, get_or}
use Rattle.shape_lines.specs.Spots.{spot_at}
use Rattle.shape_lines.proofs.allowed.longest.Given as goal

abbrev pub invariant-loop-place : goal.invariant-loop-place
invariant-loop-place l = record {
  none : (k : ℕ) → l.start < k → k < l.place → (spot_at l.spots k).mandatory ≡ false;
  fit : (k : ℕ) → l.start < k → k < l.place → get_or l.least (k + 1) (pos 0) ≤ℤ l.limit;
}
