use Rattle.std.proofs.Common.{◌≡◌, ◌≤◌, ◌+◌, ◌*◌, map}
use Rattle.std.specs.List.{range_with_len}
use Rattle.std.specs.Vec.{vec_len}
use Rattle.font_variations.specs.Segments as segments
use Rattle.font_variations.specs.Coordinates.{axis_coordinate}
use Rattle.font_variations.proofs.coordinates.by_segments.Given as goal

abbrev pub invariant-loop-axis : goal.invariant-loop-axis
invariant-loop-axis l = record {
  so_far : l.coordinates.items ≡ map (axis_coordinate l.fvar l.avar l.wanted.instance l.wanted.wishes.now) (range_with_len 0 l.axis);
  counted : vec_len l.coordinates ≡ l.axis;
  there : l.at ≡ segments.segments_at l.avar l.axis;
  near : l.at ≤ 8 + 262144 * l.axis;
}
