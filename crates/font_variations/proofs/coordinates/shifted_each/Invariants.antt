use Rattle.std.proofs.Common.{◌≡◌, map}
use Rattle.std.specs.List.{range_with_len}
use Rattle.font_variations.specs.Coordinates as coordinates
use Rattle.font_variations.proofs.coordinates.shifted_each.Given as goal

abbrev pub invariant-loop-axis : goal.invariant-loop-axis
invariant-loop-axis l = l.out.items ≡ map (coordinates.shifted l.avar l.coordinates) (range_with_len 0 l.axis)
