use Rattle.std.proofs.Common.{◌≡◌, ◌≤◌, ◌+◌, ◌++◌, ◌-◌, length}
use Rattle.arrayvec.specs.ArrayVec.{array_vec_len}
use Rattle.glyf_points.specs.Composite.{components_from}
use Rattle.glyf_points.proofs.bounded.components_within.Given as goal

-- what was read, and what is still to be read, is the whole
abbrev pub invariant-loop-i : goal.invariant-loop-i
invariant-loop-i l = record {
  each : array_vec_len l.components ≡ l._i;
  near : l.at ≤ length l.glyph + 10;
  whole : l.components.items ++ components_from l.glyph (l.most - l._i) l.at ≡ components_from l.glyph l.most 10;
}
