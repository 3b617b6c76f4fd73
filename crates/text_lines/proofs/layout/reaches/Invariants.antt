use Rattle.std.proofs.Common.{◌≡◌, map, take}
use Rattle.text_lines.specs.Reach.{reach_in}
use Rattle.text_lines.proofs.layout.reaches.Given as goal

abbrev pub invariant-loop-font : goal.invariant-loop-font
invariant-loop-font g l = l.reaches.items ≡ map (reach_in l.size) (take l.font (g.S.PartShaper.fonts l.shaper))
