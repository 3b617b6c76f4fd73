use Rattle.std.proofs.Common.{◌≡◌, ◌+◌, ◌-◌}
use Rattle.shape_font.specs.Face.{layers_from, no_layer}
use Rattle.shape_font.proofs.face.FontFace.layers_walked.Given as goal

-- what the layers from here on make of the box is what all make of none
abbrev pub invariant-loop-k : goal.invariant-loop-k
invariant-loop-k l = layers_from l.self (l.layers.first + l.k) (l.layers.count - l.k) l.walked
    ≡ layers_from l.self l.layers.first l.layers.count no_layer
