-- the font of a table `CFF2` or `CFF `, and the boxes and names that it has for glyphs
use Rattle.std.specs.Prelude.{ℕ, List, Option, Some, None}
use Rattle.std.specs.Option.{option_map, option_and_then}
use Rattle.cff_tables.specs.Font.{cff_layout, cff2_layout, name_of}
use Rattle.cff_tables.specs.declared.font.CffFont.{CffFont}
use Rattle.cff_tables.specs.declared.font.Layout.{Layout}
use Rattle.charstrings.specs.Boxes.{glyph_box}
use Rattle.charstrings.specs.declared.boxes.GlyphBox.{GlyphBox}
use Rattle.shape_common.specs.declared.face.hb_glyph_extents_t.{hb_glyph_extents_t}
use Rattle.shape_font.specs.Directory.{bytes_of}
use Rattle.shape_font.specs.declared.tags.TheConstants.{CFF, CFF2}

-- `CFF2` is taken before `CFF `; a table without so many glyphs is not read
abbrev pub chosen_layout : List ℕ → ℕ → ℕ → Option Layout
chosen_layout bytes index count = elim (cff2_layout (bytes_of bytes index CFF2) count) [
  | Some l ↦ Some l
  | None ↦ cff_layout (bytes_of bytes index CFF) count
]

-- the table that it is read from
abbrev pub chosen_table : List ℕ → ℕ → ℕ → Option (List ℕ)
chosen_table bytes index count = elim (cff2_layout (bytes_of bytes index CFF2) count) [
  | Some l ↦ Some (bytes_of bytes index CFF2)
  | None ↦ option_map (λ l. bytes_of bytes index CFF) (cff_layout (bytes_of bytes index CFF) count)
]

abbrev pub extents_by : GlyphBox → hb_glyph_extents_t
extents_by b = record { x_bearing = b.x_bearing; y_bearing = b.y_bearing; width = b.width; height = b.height }

-- the box of a glyph's charstring
abbrev pub drawn_extents : Option CffFont → ℕ → Option hb_glyph_extents_t
drawn_extents font glyph = option_and_then (λ (c : CffFont). option_map extents_by (glyph_box c.table.now c.layout glyph)) font

-- the name that the charset gives a glyph
abbrev pub charset_name : Option CffFont → ℕ → Option (List ℕ)
charset_name font glyph = option_and_then (λ (c : CffFont). name_of c.table.now c.layout glyph) font
