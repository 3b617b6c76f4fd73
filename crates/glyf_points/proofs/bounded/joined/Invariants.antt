use Rattle.std.proofs.Common.{◌≡◌, ◌++◌, drop}
use Rattle.arrayvec.specs.ArrayVec.{array_vec_len}
use Rattle.glyf_points.specs.Simple
use Rattle.glyf_points.proofs.bounded.joined.Given as goal

-- what was joined, and what is still to be joined, is the whole
abbrev pub invariant-loop-i : goal.invariant-loop-i
invariant-loop-i l = record {
  each : array_vec_len l.points ≡ l.i;
  whole : l.points.items ++ Simple.joined (drop l.i l.flags) (drop l.i l.xs) (drop l.i l.ys) ≡ Simple.joined l.flags l.xs l.ys;
}
