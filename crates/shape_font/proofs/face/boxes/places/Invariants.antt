use Rattle.std.proofs.Common.{◌≡◌, length, []}
use Rattle.glyph_variations.specs.Times.{steps}
use Rattle.shape_font.specs.BoxesAt as boxes
use Rattle.shape_font.proofs.face.boxes.places.Given as goal

abbrev pub invariant-loop-i : goal.invariant-loop-i
invariant-loop-i l = record {
  each : length l.places.items ≡ l.i;
  placed : l.places.items ≡ steps (boxes.place_step l.across l.upwards) l.i [];
}
