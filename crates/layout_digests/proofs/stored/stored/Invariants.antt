use Rattle.std.proofs.Common.{◌≡◌, length}
use Rattle.layout_digests.specs.Stored.{AreStored, AreInside}
use Rattle.layout_digests.proofs.stored.stored.Given as goal

abbrev pub invariant-loop-index : goal.invariant-loop-index
invariant-loop-index l = record {
  so_far : length l.all.items ≡ l.index;
  ok : AreStored l.lookups.table.now l.lookups.positioning l.firsts.items l.all.items;
  inside : AreInside l.firsts.items l.all.items;
}
