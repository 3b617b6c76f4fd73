use Rattle.std.proofs.Common.{◌≡◌, ◌≤◌, ◌-◌, length}
use Rattle.arrayvec.specs.ArrayVec.{array_vec_len}
use Rattle.std.specs.Option.{option_map}
use Rattle.glyf_points.specs.Flags.{flags_of, first}
use Rattle.glyf_points.proofs.FlagLemmas.{after}
use Rattle.glyf_points.proofs.bounded.flags.Given as goal

-- what was read, and what is still to be read, is the whole
abbrev pub invariant-loop-i : goal.invariant-loop-i
invariant-loop-i l = record {
  each : array_vec_len l.flags ≡ l._i;
  inside : l.last.next ≤ length l.glyph;
  whole : option_map (after l.flags.items) (flags_of l.glyph (l.count - l._i) l.last) ≡ flags_of l.glyph l.count (first l.start);
}
