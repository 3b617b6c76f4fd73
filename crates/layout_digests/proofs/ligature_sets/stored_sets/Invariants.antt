use Rattle.std.proofs.Common.{◌≡◌, length}
use Rattle.layout_digests.specs.LigatureSets.{HoldSets}
use Rattle.layout_digests.proofs.ligature_sets.stored_sets.Given as goal

-- those of each index so far are stored
abbrev pub invariant-loop-index : goal.invariant-loop-index
invariant-loop-index l = record {
  held : HoldSets l.table l.all.items;
  count : length l.all.items ≡ l.index;
}
