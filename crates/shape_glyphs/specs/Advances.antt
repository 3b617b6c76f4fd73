-- Positions before any table: zeros, then advances and origins by the face.
use Rattle.std.specs.Prelude.{◌≡◌, ℤ, ◌-ℤ◌, Bool, FitsSigned, if◌then◌else◌}
use Rattle.std.specs.Int.{w32}
use Rattle.shape_items.specs.Buffer.{Buffer}
use Rattle.shape_common.specs.Direction.{is_horizontal}
use Rattle.shape_common.specs.Face.{FaceMeaning}
use Rattle.shape_items.specs.Items.{Item}
use Rattle.shape_buffer.specs.PositionWalks.{positions_mapped}
use Rattle.shape_common.specs.Positions.{zero_position}
use Rattle.shape_common.specs.Wrapping.{◌-ʷ◌}
use Rattle.shape_common.specs.declared.positions.GlyphPosition.{GlyphPosition}
use Rattle.shape_common.specs.declared.text_types.GlyphId.{GlyphId}

-- each position with all six numbers 0
abbrev pub positions_cleared : Buffer → Buffer
positions_cleared = positions_mapped (λ _ _. zero_position)

-- the glyph of an item
abbrev pub glyph_of : Item → GlyphId
glyph_of item = record { 0 = item.glyph_id }

-- horizontal: the advance along the line; else the advance down the line, and the offsets lose the origin of vertical
-- lines
abbrev pub advanced_position : FaceMeaning → Bool → Item → GlyphPosition → GlyphPosition
advanced_position face horizontal item position =
    if horizontal then record position { x_advance = face.h_advance (glyph_of item) }
    else record position {
      y_advance = face.v_advance (glyph_of item);
      x_offset = position.x_offset -ʷ face.h_origin (glyph_of item);
      y_offset = position.y_offset -ʷ face.v_origin (glyph_of item);
    }

-- the advances and origins that the face returns
unfoldable pub advanced : FaceMeaning → Buffer → Buffer
advanced face b = positions_mapped (advanced_position face (is_horizontal b.direction)) b

-- an offset that has lost a number is the exact difference if that fits
abbrev pub IsExactDifference : ℤ → ℤ → ℤ → Type 0
IsExactDifference before lost after = FitsSigned w32 (before -ℤ lost) → after ≡ before -ℤ lost
