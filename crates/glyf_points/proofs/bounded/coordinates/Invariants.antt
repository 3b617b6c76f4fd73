use Rattle.std.proofs.Common.{◌≡◌, ◌≤◌, length, drop}
use Rattle.std.specs.Prelude.{pos}
use Rattle.arrayvec.specs.ArrayVec.{array_vec_len}
use Rattle.std.specs.Option.{option_map}
use Rattle.glyf_points.specs.Axes.{values_of}
use Rattle.glyf_points.proofs.AxisLemmas.{after}
use Rattle.glyf_points.proofs.bounded.coordinates.Given as goal

-- what was read, and what is still to be read, is the whole
abbrev pub invariant-loop-flag : goal.invariant-loop-flag
invariant-loop-flag l = record {
  inside : l.at ≤ length l.glyph;
  each : array_vec_len l.values ≡ l.flag-index;
  whole : option_map (after l.values.items) (values_of l.glyph l.axis (drop l.flag-index l.flags) l.at l.value)
      ≡ values_of l.glyph l.axis l.flags l.start (pos 0);
}
