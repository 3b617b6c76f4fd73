use Rattle.std.proofs.Common.{◌≡◌, ◌++◌, take, drop, length}
use Rattle.shape_items.specs.Items.{Item}
use Rattle.shape_buffer.specs.PositionWalks.{positions_over}
use Rattle.shape_common.specs.declared.positions.GlyphPosition.{GlyphPosition}
use Rattle.shape_buffer.proofs.position_walks.update_positions.Given as goal

abbrev pub invariant-loop-i : goal.invariant-loop-i
invariant-loop-i g l = record {
  same_length : length l.buffer.items ≡ length l.fn.buffer.items;
  as_many : length l.fn.buffer.positions ≡ length l.fn.buffer.items;
  updated : (f : Item → GlyphPosition → GlyphPosition)
      → ((x : _) (p q : GlyphPosition) → g.C.Fn.post l.change (x, (p, tt)) q → q ≡ f x.now p)
      → l.buffer ≡ record l.fn.buffer {
        positions = positions_over f (take l.i l.fn.buffer.items) (take l.i l.fn.buffer.positions) ++ drop l.i l.fn.buffer.positions;
      };
}
