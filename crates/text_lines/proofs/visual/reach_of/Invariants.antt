use Rattle.std.proofs.Common.{◌≡◌, drop, map, pos}
use Rattle.text_lines.specs.Reach.{font_of, highest, lowest}
use Rattle.text_lines.proofs.visual.reach_of.Given as goal

abbrev pub invariant-loop-place : goal.invariant-loop-place
invariant-loop-place l = record {
  above : highest l.reaches l.ascent (map font_of (drop l.place l.runs)) ≡ highest l.reaches (pos 0) (map font_of l.runs);
  below : lowest l.reaches l.descent (map font_of (drop l.place l.runs)) ≡ lowest l.reaches (pos 0) (map font_of l.runs);
}
