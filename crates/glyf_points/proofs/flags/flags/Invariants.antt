use Rattle.std.proofs.Common.{◌≡◌, ◌≤◌, ◌-◌, length}
use Rattle.std.specs.Option.{option_map}
use Rattle.glyf_points.specs.Flags.{flags_of, first}
use Rattle.glyf_points.proofs.FlagLemmas.{after}
use Rattle.glyf_points.proofs.flags.flags.Given as goal

-- what was read, and what is still to be read, is the whole
abbrev pub invariant-loop-i : goal.invariant-loop-i
invariant-loop-i l = record {
  inside : l.last.next ≤ length l.glyph;
  whole : option_map (after l.flags.items) (flags_of l.glyph (l.count - l._i) l.last) ≡ flags_of l.glyph l.count (first l.start);
}
