use Rattle.std.proofs.Common.{◌≡◌, ◌+◌, length}
use Rattle.layout_digests.specs.Stored.{HoldsFirsts, Extends}
use Rattle.layout_digests.proofs.stored.push_subtables.Given as goal

abbrev pub invariant-loop-i : goal.invariant-loop-i
invariant-loop-i l = record {
  so_far : length l.firsts.items ≡ l.span.from + l.i;
  held : HoldsFirsts l.lookups.table.now l.lookups.positioning l.place l.firsts.items l.span.from l.i;
  kept : Extends l.fn.firsts.items l.firsts.items;
}
