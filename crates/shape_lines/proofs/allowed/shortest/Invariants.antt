use Rattle.std.proofs.Common.{◌≡◌, ℕ, ◌<◌, false}
use Rattle.shape_lines.specs.LinesAt.{ends_before}
use Rattle.shape_lines.specs.Spots.{spot_at}
use Rattle.shape_lines.proofs.allowed.shortest.Given as goal

abbrev pub invariant-loop-place : goal.invariant-loop-place
invariant-loop-place l = (k : ℕ) → l.start < k → k < l.place → ends_before l.anywhere (spot_at l.spots k) ≡ false
