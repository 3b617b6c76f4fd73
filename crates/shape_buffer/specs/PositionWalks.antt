-- Steps that go over the positions one by one, each beside its item.
use Rattle.std.specs.Prelude.{List, [], ◌∷◌}
use Rattle.shape_items.specs.Buffer.{Buffer}
use Rattle.shape_items.specs.Items.{Item}
use Rattle.shape_common.specs.declared.positions.GlyphPosition.{GlyphPosition}

-- what a function makes of each item and its position
abbrev pub positions_over : (Item → GlyphPosition → GlyphPosition) → List Item → List GlyphPosition → List GlyphPosition
positions_over f [] positions = []
positions_over f (item ∷ items) [] = []
positions_over f (item ∷ items) (position ∷ positions) = f item position ∷ positions_over f items positions

-- in place of each position what a function makes of it and its item
unfoldable pub positions_mapped : (Item → GlyphPosition → GlyphPosition) → Buffer → Buffer
positions_mapped f b = record b { positions = positions_over f b.items b.positions }
