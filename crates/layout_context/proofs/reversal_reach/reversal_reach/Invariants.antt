use Rattle.std.proofs.Common.{◌≡◌, ◌-◌}
use Rattle.layout_tables.specs.Lookups.{subtable_count_of}
use Rattle.layout_matching.specs.Tried.{untried, until_matched}
use Rattle.layout_context.specs.Reverse.{reversal_reach_in}
use Rattle.layout_context.proofs.reversal_reach.reversal_reach.Given as goal

abbrev pub invariant-loop-i : goal.invariant-loop-i
invariant-loop-i l =
    let n = subtable_count_of l.lookup.table.now l.lookup.place in
    until_matched (reversal_reach_in l.lookup l.items l.at) n 0 (untried l.at)
    ≡ until_matched (reversal_reach_in l.lookup l.items l.at) (n - l.i) l.i l.reach
