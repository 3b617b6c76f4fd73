use Rattle.std.proofs.Common.{◌≡◌, ◌-◌, ◌+◌, ◌*◌, ◌≤◌}
use Rattle.cff_tables.specs.Charset
use Rattle.cff_tables.proofs.charset.ranged_name.Given as goal

-- the name from here on is the one from the start
abbrev pub invariant-loop-i : goal.invariant-loop-i
invariant-loop-i l = record {
  same : Charset.ranged_name (l.glyph + 1 - l._i) l.table l.format l.at l.glyph_left ≡ Charset.ranged_name (l.glyph + 1) l.table l.format l.start l.glyph;
  near : l.at ≤ l.start + 4 * l._i;
}
