use Rattle.std.proofs.Common.{◌≡◌, ◌≤◌, ◌+◌, ◌++◌, ◌-◌, length}
use Rattle.glyf_points.specs.Composite.{components_from}
use Rattle.glyf_points.proofs.composite.components.Given as goal

-- what was read, and what is still to be read, is the whole
abbrev pub invariant-loop-i : goal.invariant-loop-i
invariant-loop-i l = record {
  near : l.at ≤ length l.glyph + 10;
  whole : l.components.items ++ components_from l.glyph (l.most - l._i) l.at ≡ components_from l.glyph l.most 10;
}
