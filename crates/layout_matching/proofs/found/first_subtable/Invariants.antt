use Rattle.std.proofs.Common.{◌≡◌, ◌-◌}
use Rattle.layout_matching.specs.Found.{subtable_at}
use Rattle.layout_matching.specs.Loops.{first_some}
use Rattle.layout_tables.specs.Lookups.{subtable_count_of}
use Rattle.layout_matching.proofs.found.first_subtable.Given as goal

abbrev pub invariant-loop-i : goal.invariant-loop-i
invariant-loop-i l =
    let n = subtable_count_of l.lookup.table.now l.lookup.place in
    first_some (subtable_at l.lookup) n 0 ≡ first_some (subtable_at l.lookup) (n - l.i) l.i
