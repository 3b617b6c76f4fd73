use Rattle.std.proofs.Common.{◌≡◌, ◌-◌, ◌<◌, length}
use Rattle.shape_buffer.specs.Outcome.{IsWithinLimit}
use Rattle.layout_tables.specs.Lookups.{subtable_count_of}
use Rattle.layout_substitution.specs.Kinds.{subtables_applied}
use Rattle.layout_substitution.proofs.kinds.first_applied.Given as goal

-- subtables that don't apply leave marks alone
abbrev pub invariant-loop-i : goal.invariant-loop-i
invariant-loop-i l =
    let n = subtable_count_of l.indexed.lookup.now.table.now l.indexed.lookup.now.place in
    record {
      inside : l.spot.at < length l.buffer.items;
      within : IsWithinLimit l.buffer;
      made : subtables_applied l.indexed.lookup.now l.spot n 0 l.fn.buffer ≡ subtables_applied l.indexed.lookup.now l.spot (n - l.i) l.i l.buffer;
    }
