use Rattle.std.proofs.Common.{◌≡◌, length}
use Rattle.layout_digests.specs.WholeRules.{AreWholesOf}
use Rattle.layout_digests.proofs.whole_rules.wholes_of.Given as goal

-- one is stored for each subtable so far
abbrev pub invariant-loop-i : goal.invariant-loop-i
invariant-loop-i l = record {
  held : AreWholesOf l.lookups.table.now l.lookups.positioning l.place l.wholes.items;
  count : length l.wholes.items ≡ l.i;
}
