use Rattle.std.proofs.Common.{◌≡◌, map, take, All}
use Rattle.text_lines.specs.Lines.{AreLines, cut_text, line_text}
use Rattle.text_lines.specs.Levels.{IsLevelled}
use Rattle.text_lines.specs.Pieces.{bytes_in}
use Rattle.text_lines.specs.Reach.{Reaches}
use Rattle.text_lines.proofs.layout.lines.Given as goal

abbrev pub invariant-loop-place : goal.invariant-loop-place
invariant-loop-place g l = record {
  follow : AreLines 0 l.start l.lines.items;
  texts : map line_text l.lines.items ≡ map cut_text (take l.place l.cut);
  reach : All (Reaches l.laid.reaches.now) l.lines.items;
  levels : All (IsLevelled (bytes_in l.laid.levels.now)) l.lines.items;
}
