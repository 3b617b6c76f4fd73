use Rattle.std.proofs.Common.{◌≡◌, ◌-◌}
use Rattle.layout_matching.specs.Loops.{some_passes}
use Rattle.layout_substitution.specs.Would.{would_at}
use Rattle.layout_tables.specs.Lookups.{subtable_count_of}
use Rattle.layout_substitution.proofs.would.some_would.Given as goal

-- whether one of all subtables would is whether one from here on would
abbrev pub invariant-loop-i : goal.invariant-loop-i
invariant-loop-i l =
    let n = subtable_count_of l.table l.place in
    some_passes (would_at l.table l.place l.alone.glyphs.now l.alone.zero_context) n 0
    ≡ some_passes (would_at l.table l.place l.alone.glyphs.now l.alone.zero_context) (n - l.i) l.i
