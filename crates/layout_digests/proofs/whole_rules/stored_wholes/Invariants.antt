use Rattle.std.proofs.Common.{◌≡◌, length}
use Rattle.layout_digests.specs.WholeRules.{HoldWholes}
use Rattle.layout_digests.proofs.whole_rules.stored_wholes.Given as goal

-- those of each index so far are stored
abbrev pub invariant-loop-index : goal.invariant-loop-index
invariant-loop-index l = record {
  held : HoldWholes l.lookups.table.now l.lookups.positioning l.all.items;
  count : length l.all.items ≡ l.index;
}
