use Rattle.std.proofs.Common.{◌≡◌, ◌+◌, ◌<◌, ◌≤◌, ◌^◌, false, length}
use Rattle.shape_items.specs.Buffer.{limit_of}
use Rattle.apple_positioning.specs.Chains.{rest_of, subtable_count, subtables_of}
use Rattle.apple_positioning.specs.Tables.{font_of, runs_from}
use Rattle.apple_positioning.proofs.tables.run_each.Given as goal

-- what the subtables from here on make of the line is what all make of the first one
abbrev pub invariant-loop-i : goal.invariant-loop-i
invariant-loop-i l = record {
  made : runs_from (font_of l.table) (rest_of l.chain) l.is_chained l.buffer
      ≡ runs_from (font_of l.table) (subtables_of l.table.kerx.now) false l.fn.buffer;
  left : l.chain.left + l._i ≡ subtable_count l.table.kerx.now;
  near : l.chain.start < 2 ^ 34;
  no_longer : length l.buffer.items ≤ length l.fn.buffer.items;
  limit : limit_of l.buffer ≡ limit_of l.fn.buffer;
}
