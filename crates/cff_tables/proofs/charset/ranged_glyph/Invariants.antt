use Rattle.std.proofs.Common.{◌≡◌, ◌-◌, ◌+◌, ◌*◌, ◌≤◌}
use Rattle.cff_tables.specs.Charset
use Rattle.cff_tables.proofs.charset.ranged_glyph.Given as goal

-- the glyph from here on is the one from the start
abbrev pub invariant-loop-i : goal.invariant-loop-i
invariant-loop-i l = record {
  same : Charset.ranged_glyph (l.count - l._i) l.table l.format l.count l.name l.at l.glyph ≡ Charset.ranged_glyph l.count l.table l.format l.count l.name l.start 1;
  near : l.at ≤ l.start + 4 * l._i;
  few : l.glyph ≤ 65536 * l._i + 1;
}
