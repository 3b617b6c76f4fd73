use Rattle.std.proofs.Common.{◌≡◌, ◌-◌}
use Rattle.bitmap_tables.specs.Cblc.{record_from}
use Rattle.bitmap_tables.proofs.cblc.record.Given as goal

-- what is found from here on is what is found from the start
abbrev pub invariant-loop-i : goal.invariant-loop-i
invariant-loop-i l = record_from l.cblc l.list l.glyph l.count 0 ≡ record_from l.cblc l.list l.glyph (l.count - l.i) l.i
