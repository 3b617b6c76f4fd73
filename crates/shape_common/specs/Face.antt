-- What a face returns.
use Rattle.std.specs.Prelude.{ℕ, ℤ, Option}
use Rattle.shape_common.specs.declared.text_types.GlyphId.{GlyphId}
use Rattle.shape_common.specs.declared.face.hb_glyph_extents_t.{hb_glyph_extents_t}
use Rattle.shape_common.specs.declared.face.hb_tables_t.{hb_tables_t}

pub record FaceMeaning : Type 0 where
  pub nominal_glyph : ℕ → Option GlyphId
  -- of a character and the variation selector after it
  pub variation_glyph : ℕ → ℕ → Option GlyphId
  pub h_advance : GlyphId → ℤ
  pub v_advance : GlyphId → ℤ
  pub h_origin : GlyphId → ℤ
  pub v_origin : GlyphId → ℤ
  pub extents : GlyphId → Option hb_glyph_extents_t
  pub units_per_em : ℕ
  -- how wide and high the em square is at the size of the face
  pub x_scale : ℤ
  pub y_scale : ℤ
  pub tables : hb_tables_t
