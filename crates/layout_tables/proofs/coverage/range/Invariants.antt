use Rattle.std.proofs.Common.{◌≡◌, ◌<◌, ◌≤◌, ◌+◌, ◌-◌}
use Rattle.shape_font.specs.Search.{found_in}
use Rattle.layout_tables.specs.Coverage.{side_of_range, ranged}
use Rattle.layout_tables.proofs.coverage.range.Given as goal

-- what is found from here on is what is found in all ranges
abbrev pub invariant-loop-from : goal.invariant-loop-from
invariant-loop-from l = record {
  one : 0 < l.from;
  within : l.end ≤ l.count;
  same : found_in (side_of_range l.table l.start l.glyph) (l.end - (l.from - 1)) (l.from - 1) l.end ≡ ranged l.table l.start l.glyph;
}

abbrev pub decreases-loop-from : goal.decreases-loop-from
decreases-loop-from l = l.end + 1 - l.from
