use Rattle.std.proofs.Common.{◌-◌, ◌≤◌, map, All}
use Rattle.text_lines.specs.Levels.{HasLevel}
use Rattle.text_lines.specs.Lines.{AreParts}
use Rattle.text_lines.specs.Pieces.{shown_of}
use Rattle.text_lines.proofs.pieces.Laid.pieces.Given as goal

abbrev pub decreases-loop-at : goal.decreases-loop-at
decreases-loop-at l = l.line.last - l.at

abbrev pub invariant-loop-at : goal.invariant-loop-at
invariant-loop-at l = record {
  within : l.start ≤ l.line.end;
  parts : AreParts l.line.start l.start (map shown_of l.pieces.items);
  levels : All (HasLevel l.levels.items l.base l.line.start) (map shown_of l.pieces.items);
}
