use Rattle.std.proofs.Common.{◌≡◌, ◌≤◌, ◌+◌, ◌*◌}
use Rattle.font_variations.specs.Segments as segments
use Rattle.font_variations.proofs.coordinates.segments_at.Given as goal

abbrev pub invariant-loop-axis : goal.invariant-loop-axis
invariant-loop-axis l = record {
  there : l.at ≡ segments.segments_at l.avar l._axis;
  near : l.at ≤ 8 + 262144 * l._axis;
}
