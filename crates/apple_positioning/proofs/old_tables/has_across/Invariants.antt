use Rattle.std.proofs.Common.{◌≡◌, ◌-◌, ◌≤◌}
use Rattle.kern_table.specs.Headers.{most_bytes}
use Rattle.kern_table.specs.Tables.{subtable_count_of}
use Rattle.apple_positioning.specs.OldTables.{has_across, is_across, some_from}
use Rattle.apple_positioning.proofs.old_tables.has_across.Given as goal

-- what is so of some subtable from here on is so of some one of all
abbrev pub invariant-loop-i : goal.invariant-loop-i
invariant-loop-i l = record {
  some : some_from (is_across l.kern) l.kern (subtable_count_of l.kern - l._i) l.start ≡ has_across l.kern;
  near : l.start ≤ most_bytes;
}
