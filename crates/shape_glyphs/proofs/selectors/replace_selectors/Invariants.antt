use Rattle.std.proofs.Common.{◌≡◌, ◌++◌, map, take, drop, length}
use Rattle.shape_buffer.specs.PositionWalks.{positions_over}
use Rattle.shape_glyphs.specs.Selectors.{not_found_item, not_found_position}
use Rattle.shape_glyphs.proofs.selectors.replace_selectors.Given as goal

abbrev pub invariant-loop-i : goal.invariant-loop-i
invariant-loop-i l = record {
  same_length : length l.buffer.items ≡ length l.fn.buffer.items;
  as_many : length l.fn.buffer.positions ≡ length l.fn.buffer.items;
  updated : l.buffer ≡ record l.fn.buffer {
    items = map (not_found_item l.glyph) (take l.i l.fn.buffer.items) ++ drop l.i l.fn.buffer.items;
    positions = positions_over not_found_position (take l.i l.fn.buffer.items) (take l.i l.fn.buffer.positions)
        ++ drop l.i l.fn.buffer.positions;
  };
}
