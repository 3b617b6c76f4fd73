use Rattle.std.proofs.Common.{◌≡◌}
use Rattle.glyph_variations.specs.Times.{steps}
use Rattle.shape_font.specs.BoxesAt as boxes
use Rattle.shape_font.proofs.face.boxes.Gathering.bounds_with.Given as goal

abbrev pub invariant-loop-i : goal.invariant-loop-i
invariant-loop-i l = l.bounds ≡ steps (boxes.bounds_step l.self.parts.items l.part l.self.shift l.places) l.i l.self.bounds
