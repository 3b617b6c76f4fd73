-- Whole texts whose signs are stretched.
use Rattle.std.specs.Prelude.{◌≡◌, ℕ, ℤ, pos, negsuc, Some, List, [], ◌∷◌, map, reverse, refl}
use Rattle.std.specs.Int.{int_wrap}
use Rattle.shape_common.specs.Wrapping.{◌+ʷ◌, ◌-ʷ◌, ◌*ʷ◌}
use Rattle.shape_common.specs.declared.positions.GlyphPosition.{GlyphPosition}
use Rattle.shape_common.specs.declared.text_types.Direction.{Direction}
use Rattle.shape_common.specs.declared.text_types.Direction.TheVariants.{LeftToRight, RightToLeft}
use Rattle.shape_items.specs.Buffer.{Buffer, new_buffer}
use Rattle.shape_items.specs.Items.{Item}
use Rattle.arabic_stretching.specs.Fitting.{fit_by, fit_over}
use Rattle.arabic_stretching.specs.Stretching.{stretched, glyph_info, glyph_position}
use Rattle.arabic_stretching.specs.Worked.Fitting.{face, glyph}
use Rattle.arabic_stretching.specs.Worked.Tiles.{noted, letter}
use Rattle.arabic_stretching.specs.declared.fitting.Glyph.{Glyph}

abbrev pub buffer : Direction → List Glyph → Buffer
buffer direction gs = record new_buffer { items = map glyph_info gs; positions = map glyph_position gs; direction = direction }

-- glyphs in the order of the text, which stand the other way round from right to left
abbrev pub ltr : List Glyph → Buffer
ltr gs = stretched face (buffer LeftToRight gs)

abbrev pub rtl : List Glyph → Buffer
rtl gs = stretched face (buffer RightToLeft (reverse gs))

-- in a run that may make so many glyphs
abbrev pub within : ℕ → List Glyph → Buffer
within limit gs = stretched face (record (buffer LeftToRight gs) { length_limit = Some limit })

abbrev pub glyphs : Buffer → List ℕ
glyphs b = map (λ (x : Item). x.glyph_id) b.items

abbrev pub offsets : Buffer → List ℤ
offsets b = map (λ (p : GlyphPosition). p.x_offset) b.positions

abbrev pub advances : Buffer → List ℤ
advances b = map (λ (p : GlyphPosition). p.x_advance) b.positions

abbrev pub masks : Buffer → List ℕ
masks b = map (λ (x : Item). x.mask) b.items

-- tiles of 100, 50 and 100 over a word of 520
abbrev pub sign : List Glyph
sign = glyph 1 (pos 7) (noted 2) ∷ glyph 2 (pos 7) (noted 3) ∷ glyph 3 (pos 7) (noted 2) ∷ glyph 4 (pos 260) (letter 1)
    ∷ glyph 5 (pos 260) (letter 2) ∷ []

-- two signs of one repeating tile, over words of 60
abbrev pub two : List Glyph
two = glyph 2 (pos 7) (noted 3) ∷ glyph 4 (pos 60) (letter 1) ∷ glyph 2 (pos 7) (noted 3) ∷ glyph 4 (pos 60) (letter 2) ∷ []

abbrev pub plain : List Glyph
plain = glyph 4 (pos 260) (letter 1) ∷ glyph 5 (pos 260) (letter 2) ∷ []

pub record WorkedStretching : Type 0 where
  pub rtl_glyphs : glyphs (rtl sign) ≡ 5 ∷ 4 ∷ 3 ∷ 2 ∷ 2 ∷ 2 ∷ 2 ∷ 2 ∷ 2 ∷ 2 ∷ 1 ∷ []
  -- -520, -420, -375, -330, -285, -240, -195, -150, -100 in place of 7
  pub rtl_offsets : offsets (rtl sign)
      ≡ pos 0 ∷ pos 0 ∷ negsuc 519 ∷ negsuc 419 ∷ negsuc 374 ∷ negsuc 329 ∷ negsuc 284 ∷ negsuc 239 ∷ negsuc 194 ∷ negsuc 149 ∷ negsuc 99 ∷ []
  pub rtl_advances : advances (rtl sign)
      ≡ pos 260 ∷ pos 260 ∷ pos 0 ∷ pos 0 ∷ pos 0 ∷ pos 0 ∷ pos 0 ∷ pos 0 ∷ pos 0 ∷ pos 0 ∷ pos 0 ∷ []
  pub rtl_flags : masks (rtl sign) ≡ 3 ∷ 3 ∷ 0 ∷ 0 ∷ 0 ∷ 0 ∷ 0 ∷ 0 ∷ 0 ∷ 0 ∷ 0 ∷ []
  pub ltr_glyphs : glyphs (ltr sign) ≡ 1 ∷ 2 ∷ 2 ∷ 2 ∷ 2 ∷ 2 ∷ 2 ∷ 2 ∷ 3 ∷ 4 ∷ 5 ∷ []
  pub ltr_offsets : offsets (ltr sign)
      ≡ pos 0 ∷ pos 100 ∷ pos 150 ∷ pos 195 ∷ pos 240 ∷ pos 285 ∷ pos 330 ∷ pos 375 ∷ pos 420 ∷ pos 0 ∷ pos 0 ∷ []
  -- each sign begins anew
  pub two_glyphs : glyphs (ltr two) ≡ 2 ∷ 2 ∷ 4 ∷ 2 ∷ 2 ∷ 4 ∷ []
  pub two_offsets : offsets (ltr two) ≡ pos 0 ∷ pos 50 ∷ pos 0 ∷ pos 0 ∷ pos 50 ∷ pos 0 ∷ []
  pub two_from_the_right : offsets (rtl two) ≡ pos 0 ∷ negsuc 59 ∷ negsuc 49 ∷ pos 0 ∷ negsuc 59 ∷ negsuc 49 ∷ []
  -- a sign without a word, 100 wide
  pub no_word : offsets (rtl (glyph 1 (pos 7) (noted 2) ∷ [])) ≡ negsuc 149 ∷ []
  pub no_word_ltr : offsets (ltr (glyph 1 (pos 7) (noted 2) ∷ [])) ≡ negsuc 49 ∷ []
  pub no_tile : rtl plain ≡ buffer RightToLeft (reverse plain)
  -- 11 glyphs, where the run may make 11, and 10: then all stays, and nothing is marked
  pub just_as_many : glyphs (within 11 sign) ≡ 1 ∷ 2 ∷ 2 ∷ 2 ∷ 2 ∷ 2 ∷ 2 ∷ 2 ∷ 3 ∷ 4 ∷ 5 ∷ []
  pub too_many : glyphs (within 10 sign) ≡ 1 ∷ 2 ∷ 3 ∷ 4 ∷ 5 ∷ []
  pub too_many_marks : masks (within 10 sign) ≡ 0 ∷ 0 ∷ 0 ∷ 0 ∷ 0 ∷ []

pub worked_stretching : WorkedStretching
unfolding ◌+ʷ◌ ◌-ʷ◌ ◌*ʷ◌ int_wrap fit_by fit_over
worked_stretching = record {
  rtl_glyphs = refl;
  rtl_offsets = refl;
  rtl_advances = refl;
  rtl_flags = refl;
  ltr_glyphs = refl;
  ltr_offsets = refl;
  two_glyphs = refl;
  two_offsets = refl;
  two_from_the_right = refl;
  no_word = refl;
  no_word_ltr = refl;
  no_tile = refl;
  just_as_many = refl;
  too_many = refl;
  too_many_marks = refl;
}
