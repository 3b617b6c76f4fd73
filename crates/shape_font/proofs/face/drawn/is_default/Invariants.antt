use Rattle.std.proofs.Common.{◌≡◌, drop}
use Rattle.shape_font.specs.Face.{is_default}
use Rattle.shape_font.proofs.face.drawn.is_default.Given as goal

abbrev pub invariant-loop-coordinate : goal.invariant-loop-coordinate
invariant-loop-coordinate l = is_default (drop l.coordinate-index l.coordinates) ≡ is_default l.coordinates
