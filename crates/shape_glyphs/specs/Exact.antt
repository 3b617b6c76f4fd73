-- The exact numbers of positions, if they fit an i32.
use Rattle.std.specs.Prelude.{◌≡◌, pos, Bool, true, false}
use Rattle.shape_common.specs.Face.{FaceMeaning}
use Rattle.shape_items.specs.Items.{Item}
use Rattle.shape_common.specs.declared.positions.GlyphPosition.{GlyphPosition}
use Rattle.shape_glyphs.specs.Advances.{glyph_of, advanced_position, IsExactDifference}
use Rattle.shape_glyphs.specs.Zeroing.{is_mark_glyph, zeroed_mark}

-- advances are those of the face, and down a line the offsets have exactly lost the origin of vertical lines
pub record ExactAdvances : Type 0 where
  pub along : (face : FaceMeaning) (item : Item) (p : GlyphPosition)
      → (advanced_position face true item p).x_advance ≡ face.h_advance (glyph_of item)
  pub down : (face : FaceMeaning) (item : Item) (p : GlyphPosition)
      → (advanced_position face false item p).y_advance ≡ face.v_advance (glyph_of item)
  pub origin_right : (face : FaceMeaning) (item : Item) (p : GlyphPosition)
      → IsExactDifference p.x_offset (face.h_origin (glyph_of item)) (advanced_position face false item p).x_offset
  pub origin_up : (face : FaceMeaning) (item : Item) (p : GlyphPosition)
      → IsExactDifference p.y_offset (face.v_origin (glyph_of item)) (advanced_position face false item p).y_offset

-- a mark loses both advances; one that is adjusted is moved back by exactly what it loses
pub record ExactMarkWidths : Type 0 where
  pub no_width : (adjust : Bool) (item : Item) (p : GlyphPosition) → is_mark_glyph item ≡ true
      → (zeroed_mark adjust item p).x_advance ≡ pos 0
  pub no_height : (adjust : Bool) (item : Item) (p : GlyphPosition) → is_mark_glyph item ≡ true
      → (zeroed_mark adjust item p).y_advance ≡ pos 0
  pub moved_right : (item : Item) (p : GlyphPosition) → is_mark_glyph item ≡ true
      → IsExactDifference p.x_offset p.x_advance (zeroed_mark true item p).x_offset
  pub moved_up : (item : Item) (p : GlyphPosition) → is_mark_glyph item ≡ true
      → IsExactDifference p.y_offset p.y_advance (zeroed_mark true item p).y_offset
