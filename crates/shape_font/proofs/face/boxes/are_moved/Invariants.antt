use Rattle.std.proofs.Common.{◌≡◌, drop}
use Rattle.shape_font.specs.BoxesAt as boxes
use Rattle.shape_font.proofs.face.boxes.are_moved.Given as goal

abbrev pub invariant-loop-component : goal.invariant-loop-component
invariant-loop-component l = boxes.all_moved (drop l.component-index l.components) ≡ boxes.all_moved l.components
