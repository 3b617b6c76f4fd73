use Rattle.std.proofs.Common.{◌≡◌, ◌≤◌}
use Rattle.layout_positions.specs.Marks.{places_searched}
use Rattle.layout_positions.proofs.bases.places_searched.Given as goal

abbrev pub invariant-loop-d : goal.invariant-loop-d
invariant-loop-d l = record {
  searched : l.searched ≡ places_searched l.lookup l.subtable l.items l.i l.d;
  few : l.searched ≤ l.d;
}
