use Rattle.std.proofs.Common.{◌≡◌, ◌-◌}
use Rattle.layout_tables.specs.Lookups.{subtable_count_of}
use Rattle.layout_matching.specs.Tried.{untried, until_matched, reach_at_subtable}
use Rattle.layout_matching.proofs.reaching.reach_at.Given as goal

abbrev pub invariant-loop-i : goal.invariant-loop-i
invariant-loop-i l =
    let n = subtable_count_of l.lookup.table.now l.lookup.place in
    until_matched (reach_at_subtable l.lookup l.items l.origin) n 0 (untried l.origin.at)
    ≡ until_matched (reach_at_subtable l.lookup l.items l.origin) (n - l.i) l.i l.reach
