use Rattle.std.proofs.Common.{◌≡◌, ◌-◌, ◌≤◌, false, length}
use Rattle.kern_table.specs.Headers.{first_start, most_bytes}
use Rattle.kern_table.specs.Tables.{subtable_count_of}
use Rattle.shape_items.specs.Buffer.{limit_of}
use Rattle.apple_positioning.specs.OldTables.{font_of, runs_on}
use Rattle.apple_positioning.proofs.old_tables.run_each.Given as goal

-- what the subtables from here on make of the line is what all make of the first one
abbrev pub invariant-loop-i : goal.invariant-loop-i
invariant-loop-i l = record {
  made : runs_on (font_of l.table) (subtable_count_of l.table.kern.now - l.i) l.start l.is_chained l.buffer
      ≡ runs_on (font_of l.table) (subtable_count_of l.table.kern.now) (first_start l.table.kern.now) false l.fn.buffer;
  near : l.start ≤ most_bytes;
  no_longer : length l.buffer.items ≤ length l.fn.buffer.items;
  limit : limit_of l.buffer ≡ limit_of l.fn.buffer;
}
