use Rattle.std.proofs.Common.{◌-◌, ◌≤◌, pos, List, ◌++◌, length}
use Rattle.shape_lines.specs.LinesAt.{AreLinesFrom}
use Rattle.shape_lines.specs.declared.allowed.LineAt.{LineAt}
use Rattle.shape_lines.proofs.allowed.lines_of.Given as goal

abbrev pub decreases-loop-start : goal.decreases-loop-start
decreases-loop-start l = length l.measures.spots.items - l.start

abbrev pub invariant-loop-start : goal.invariant-loop-start
invariant-loop-start l = record {
  within : l.start ≤ length l.measures.spots.items;
  lines_on : (rest : List LineAt) → AreLinesFrom l.glyphs l.text_end l.measures.anywhere l.measures.spots.items (pos l.width) l.start rest
      → AreLinesFrom l.glyphs l.text_end l.measures.anywhere l.measures.spots.items (pos l.width) 0 (l.lines.items ++ rest);
}
