use Rattle.std.proofs.Common.{◌≡◌, ◌-◌, ◌≤◌, length}
use Rattle.shape_items.specs.Buffer.{limit_of}
use Rattle.kern_table.specs.Headers.{first_start, most_bytes}
use Rattle.kern_table.specs.Tables.{subtable_count_of, kerned_from}
use Rattle.kern_table.proofs.tables.kern_table_by.Given as goal

-- what the subtables from here on make of the buffer is what all make of the first one
abbrev pub invariant-loop-i : goal.invariant-loop-i
invariant-loop-i l = record {
  made : kerned_from l.scale l.kern l.mask (subtable_count_of l.kern - l._i) l.start l.buffer
      ≡ kerned_from l.scale l.kern l.mask (subtable_count_of l.kern) (first_start l.kern) l.fn.buffer;
  near : l.start ≤ most_bytes;
  len : length l.buffer.items ≡ length l.fn.buffer.items;
  limit : limit_of l.buffer ≡ limit_of l.fn.buffer;
}
