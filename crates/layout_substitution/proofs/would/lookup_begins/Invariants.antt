use Rattle.std.proofs.Common.{◌≡◌, ◌-◌}
use Rattle.layout_matching.specs.Loops.{some_passes}
use Rattle.layout_substitution.specs.Would.{begins_at}
use Rattle.layout_tables.specs.Lookups.{subtable_count_of}
use Rattle.layout_substitution.proofs.would.lookup_begins.Given as goal

-- whether one of all subtables begins at the glyph is whether one from here on does
abbrev pub invariant-loop-i : goal.invariant-loop-i
invariant-loop-i l =
    let n = subtable_count_of l.table l.place in
    some_passes (begins_at l.table l.place l.glyph) n 0 ≡ some_passes (begins_at l.table l.place l.glyph) (n - l.i) l.i
