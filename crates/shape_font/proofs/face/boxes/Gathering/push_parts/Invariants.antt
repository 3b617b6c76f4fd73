use Rattle.std.proofs.Common.{◌≡◌, ◌+◌, length}
use Rattle.glyph_variations.specs.Times.{steps}
use Rattle.shape_font.specs.BoxesAt as boxes
use Rattle.shape_font.proofs.face.boxes.Gathering.push_parts.Given as goal

abbrev pub invariant-loop-i : goal.invariant-loop-i
invariant-loop-i l = record {
  each : length l.self.parts.items ≡ length l.initial.self.parts.items + l.i;
  pushed : l.self.parts.items ≡ steps (boxes.component_step l.part l.depth l.components l.places) l.i l.initial.self.parts.items;
  left : l.self.left ≡ l.initial.self.left;
  shift : l.self.shift ≡ l.initial.self.shift;
  bounds : l.self.bounds ≡ l.initial.self.bounds;
}
