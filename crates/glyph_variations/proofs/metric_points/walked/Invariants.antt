use Rattle.std.proofs.Common.{◌≡◌, ◌≤◌, ◌+◌, ◌*◌}
use Rattle.glyph_variations.specs.MetricPoints as points
use Rattle.glyph_variations.specs.Times.{times}
use Rattle.glyph_variations.proofs.metric_points.walked.Given as goal

abbrev pub invariant-loop-i : goal.invariant-loop-i
invariant-loop-i l = record {
  read : l.walk ≡ times (points.component_step l.glyph) l._i points.begun;
  near : l.walk.at ≤ 10 + 16 * l._i;
  few : l.walk.count ≤ l._i;
}
