use Rattle.std.proofs.Common.{◌≡◌, ℕ, ◌+◌, ◌*◌, ◌≤◌, pos, ◌+ℤ◌, ◌≤ℤ◌, length, get_or}
use Rattle.shape_lines.specs.Spots.{pen}
use Rattle.shape_lines.proofs.measuring.pens.Given as goal

abbrev pub invariant-loop-place : goal.invariant-loop-place
invariant-loop-place l = record {
  pen_is : l.pen ≡ pen l.spots l.place;
  as_many : length l.pens.items ≡ l.place + 1;
  each : (k : ℕ) → k ≤ l.place → get_or l.pens.items k (pos 0) ≡ pen l.spots k;
  small : (k : ℕ) → k ≤ l.place → pen l.spots k ≤ℤ pos (k * 9223372036854775808);
  above : pos 0 ≤ℤ (l.pen +ℤ pos (l.place * 9223372036854775808));
  below : l.pen ≤ℤ pos (l.place * 9223372036854775808);
}
