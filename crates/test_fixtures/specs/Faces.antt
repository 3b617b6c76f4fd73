-- What the face of tests returns.
use Rattle.std.specs.Prelude.{pos, ℕ, ℤ, List, ◌==◌, ◌&&◌, Option, Some, None, find, if◌then◌else◌}
use Rattle.std.specs.Option.{option_map, option_flatten, option_or, unwrap_or}
use Rattle.shape_common.specs.Face.{FaceMeaning}
use Rattle.shape_common.specs.declared.face.hb_glyph_extents_t.{hb_glyph_extents_t}
use Rattle.shape_common.specs.declared.text_types.GlyphId.{GlyphId}
use Rattle.test_fixtures.specs.declared.face.KnownGlyph.{KnownGlyph}
use Rattle.test_fixtures.specs.declared.face.TestFace.{TestFace}

-- the glyph that is listed for a character
abbrev pub glyph_known : List KnownGlyph → ℕ → Option GlyphId
glyph_known known c = option_map (λ entry. entry.glyph) (find (λ entry. entry.character == c) known)

-- the first entry of a glyph
abbrev pub entry_of : List KnownGlyph → GlyphId → Option KnownGlyph
entry_of known glyph = find (λ entry. entry.glyph.0 == glyph.0) known

abbrev pub advance_known : List KnownGlyph → GlyphId → Option ℤ
advance_known known glyph = option_map (λ entry. entry.advance) (entry_of known glyph)

abbrev pub extents_known : List KnownGlyph → GlyphId → Option (Option hb_glyph_extents_t)
extents_known known glyph = option_map (λ entry. entry.extents) (entry_of known glyph)

-- the glyph of its own number, for those of the list
abbrev pub glyph_among : List ℕ → ℕ → Option GlyphId
glyph_among characters c = option_map (λ known. record { 0 = known }) (find (λ known. known == c) characters)

-- the glyph that is listed; else that of its own number, for every character or for those of the list
abbrev pub glyph_in : TestFace → ℕ → Option GlyphId
glyph_in face c =
    option_or (glyph_known face.known.now c)
    (if face.every then Some (record { 0 = c }) else glyph_among face.characters.now c)

-- U+0061 with U+FE00 after it has glyph 7 in a face with a variant
abbrev pub variant_in : TestFace → ℕ → ℕ → Option GlyphId
variant_in face c selector = if face.variant && (c == 0x61 && selector == 0xFE00) then Some (record { 0 = 7 }) else None

abbrev pub test_face : TestFace → FaceMeaning
test_face face = record {
  nominal_glyph = glyph_in face;
  variation_glyph = variant_in face;
  h_advance = λ glyph. unwrap_or (advance_known face.known.now glyph) face.h_advance;
  v_advance = λ _. face.v_advance;
  h_origin = λ _. face.h_origin;
  v_origin = λ _. face.v_origin;
  extents = λ glyph. option_flatten (extents_known face.known.now glyph);
  units_per_em = face.units_per_em;
  x_scale = pos face.units_per_em;
  y_scale = pos face.units_per_em;
  tables = face.tables;
}
