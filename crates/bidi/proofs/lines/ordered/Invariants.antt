use Rattle.std.proofs.Common.{◌≡◌, ◌+◌, ◌-◌, ◌≤◌}
use Rattle.bidi.specs.Lines.{highest, lowest_odd, places_from, reordered}
use Rattle.bidi.proofs.lines.ordered.Given as goal

abbrev pub invariant-loop-count : goal.invariant-loop-count
invariant-loop-count l = record {
  same : reordered l.lowest l.count l.places.items
      ≡ reordered (lowest_odd l.levels) (highest l.levels + 1 - lowest_odd l.levels) (places_from 0 l.levels);
  within : l.count ≤ 256;
}

abbrev pub decreases-loop-count : goal.decreases-loop-count
decreases-loop-count l = l.count
