-- What the tables of a face return.
use Rattle.std.specs.Prelude.{ℕ, ℤ, pos, false, List, Option, Some, None, ◌==◌, ◌&&◌, length, nat_lt, slice_get, slice_index, unwrap_or, if◌then◌else◌}
use Rattle.shape_common.specs.Face.{FaceMeaning}
use Rattle.shape_common.specs.declared.text_types.GlyphId.{GlyphId}
use Rattle.shape_common.specs.declared.face.hb_glyph_extents_t.{hb_glyph_extents_t}

-- 0 stands for no glyph
abbrev pub glyph_of : ℕ → Option GlyphId
glyph_of n = if n == 0 then None else Some (record { 0 = n })

-- 0 past the table
abbrev pub advance_of : List ℤ → GlyphId → ℤ
advance_of advances glyph = unwrap_or (slice_get advances glyph.0) (pos 0)

-- none past the table
abbrev pub extents_of : List hb_glyph_extents_t → GlyphId → Option hb_glyph_extents_t
extents_of boxes glyph = slice_get boxes glyph.0

-- what a face of tables returns; U+0061 with U+FE00 after it has glyph 7
abbrev pub table_face : List ℕ → List ℤ → List hb_glyph_extents_t → FaceMeaning
table_face glyphs advances boxes = record {
  nominal_glyph = λ c. if nat_lt c (length glyphs) then glyph_of (slice_index glyphs c) else None;
  variation_glyph = λ c selector. if c == 0x61 && selector == 0xFE00 then Some (record { 0 = 7 }) else None;
  h_advance = advance_of advances;
  v_advance = λ _. pos 0;
  h_origin = λ _. pos 0;
  v_origin = λ _. pos 0;
  extents = extents_of boxes;
  units_per_em = 1000;
  x_scale = pos 1000;
  y_scale = pos 1000;
  tables = record { gsub = false; gpos = false; morx = false; kerx = false; trak = false };
}
