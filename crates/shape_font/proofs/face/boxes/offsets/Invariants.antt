use Rattle.std.proofs.Common.{◌≡◌, ◌++◌, length, drop}
use Rattle.std.specs.Prelude.{map}
use Rattle.shape_font.specs.BoxesAt as boxes
use Rattle.shape_font.proofs.face.boxes.offsets.Given as goal

abbrev pub invariant-loop-component : goal.invariant-loop-component
invariant-loop-component l = record {
  each : length l.offsets.items ≡ l.component-index;
  whole : l.offsets.items ++ map boxes.offset_of (drop l.component-index l.components) ≡ map boxes.offset_of l.components;
}
