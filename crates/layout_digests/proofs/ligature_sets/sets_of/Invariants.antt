use Rattle.std.proofs.Common.{◌≡◌, ◌≤◌, ℕ, Some, length}
use Rattle.layout_matching.specs.LigatureSets.{AreSets, first_start}
use Rattle.layout_digests.specs.LigatureSets.{AreBelow}
use Rattle.layout_digests.proofs.ligature_sets.sets_of.Given as goal

-- a number, or none, is stored for each glyph so far
abbrev pub invariant-loop-i : goal.invariant-loop-i
invariant-loop-i l = record {
  held : (place : ℕ) → first_start l.table place ≡ Some l.start → AreSets l.table place l.stored;
  below : AreBelow l.stored;
  first : l.stored.first ≡ l.reach.first;
  count : length l.stored.numbers.items ≡ l.i;
  few : length l.stored.sets.items ≤ l.i;
}
