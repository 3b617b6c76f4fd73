use Rattle.std.proofs.Common.{◌≡◌, ◌-◌}
use Rattle.layout_tables.specs.Lookups.{subtable_count_of}
use Rattle.layout_matching.specs.Loops.{first_some}
use Rattle.layout_context.specs.Reverse.{reversal_in}
use Rattle.layout_context.proofs.reverse.find_reversal.Given as goal

abbrev pub invariant-loop-i : goal.invariant-loop-i
invariant-loop-i l =
    let n = subtable_count_of l.lookup.table.now l.lookup.place in
    first_some (reversal_in l.lookup l.items l.at) n 0 ≡ first_some (reversal_in l.lookup l.items l.at) (n - l.i) l.i
