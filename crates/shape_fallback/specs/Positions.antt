-- Positions that are made from those before and from the items that they belong to.
use Rattle.std.specs.Prelude.{ℕ, List, ◌++◌, take, drop, slice_range}
use Rattle.shape_items.specs.Buffer.{Buffer}
use Rattle.shape_items.specs.Items.{Item}
use Rattle.shape_common.specs.declared.positions.GlyphPosition.{GlyphPosition}

-- the buffer with what f makes of the items and positions from place `from` up to place `to`
abbrev pub with_positions : (List Item → List GlyphPosition → List GlyphPosition) → ℕ → ℕ → Buffer → Buffer
with_positions f from to b = record b {
  positions = take from b.positions ++ (f (slice_range b.items from to) (slice_range b.positions from to) ++ drop to b.positions);
}
