-- What a face that is given glyph by glyph returns.
use Rattle.std.specs.Prelude.{ℤ, pos, neg_ℤ, int_div, false, None, Option}
use Rattle.std.specs.BTreeMap.{get}
use Rattle.std.specs.Option.{option_map_or}
use Rattle.std.specs.Ordering.{nat_cmp}
use Rattle.shape_common.specs.Face.{FaceMeaning}
use Rattle.shape_common.specs.declared.text_types.GlyphId.{GlyphId}
use Rattle.shape_common.specs.declared.face.hb_glyph_extents_t.{hb_glyph_extents_t}
use Rattle.shape_common.specs.declared.map_face.MapFace.{MapFace}
use Rattle.shape_common.specs.declared.map_face.Metrics.{Metrics}

-- what was said of a glyph last
abbrev pub metrics_of : MapFace → GlyphId → Option Metrics
metrics_of face glyph = get nat_cmp face.metrics glyph.0

-- the advance of a glyph, 0 if nothing was said of it
abbrev pub advance_of : MapFace → GlyphId → ℤ
advance_of face glyph = option_map_or (λ metrics. metrics.advance) (metrics_of face glyph) (pos 0)

-- its extents, if they were given
abbrev pub extents_of : MapFace → GlyphId → Option hb_glyph_extents_t
extents_of face glyph = option_map_or (λ metrics. metrics.extents) (metrics_of face glyph) None

-- vertical lines go down by the em square; their origin is at the middle of the glyph and the top of the square; there
-- are no tables and no variants
abbrev pub map_face : MapFace → FaceMeaning
map_face face = record {
  nominal_glyph = λ c. get nat_cmp face.glyphs c;
  variation_glyph = λ _ _. None;
  h_advance = advance_of face;
  v_advance = λ _. neg_ℤ (pos face.units_per_em);
  h_origin = λ glyph. int_div (advance_of face glyph) (pos 2);
  v_origin = λ _. pos face.units_per_em;
  extents = extents_of face;
  units_per_em = face.units_per_em;
  x_scale = pos face.units_per_em;
  y_scale = pos face.units_per_em;
  tables = record { gsub = false; gpos = false; morx = false; kerx = false; trak = false };
}
