use Rattle.std.proofs.Common.{◌≡◌, ◌<◌, ◌-◌, ◌++◌, length}
use Rattle.layout_matching.specs.Seeking.{places_after}
use Rattle.layout_matching.proofs.seeking.push_places.Given as goal

abbrev pub invariant-loop-k : goal.invariant-loop-k
invariant-loop-k l = record {
  made : l.places.items ++ places_after l.lookup l.seek l.items (l.n - l.k) l.k l.last
      ≡ l.fn.places.items ++ places_after l.lookup l.seek l.items l.n 0 l.at;
  inside : l.last < length l.items;
}
