-- How often tiles are repeated, how far they overlap and where they begin.
use Rattle.std.specs.Prelude.{◌≡◌, ◌==◌, ◌||◌, if◌then◌else◌, ℕ, ℤ, false, pos, negsuc, None, List, [], ◌∷◌, refl}
use Rattle.std.specs.Int.{int_wrap}
use Rattle.shape_common.specs.Face.{FaceMeaning}
use Rattle.shape_common.specs.Positions.{zero_position}
use Rattle.shape_common.specs.Wrapping.{◌+ʷ◌, ◌-ʷ◌, ◌*ʷ◌}
use Rattle.shape_common.specs.declared.text_types.GlyphId.{GlyphId}
use Rattle.shape_items.specs.Items.{Item}
use Rattle.arabic_stretching.specs.Fitting.{widths_of, word_width, fit_by, fit_over, fit_at}
use Rattle.arabic_stretching.specs.Worked.Tiles.{noted, letter, space}
use Rattle.arabic_stretching.specs.declared.fitting.Fit.{Fit}
use Rattle.arabic_stretching.specs.declared.fitting.Glyph.{Glyph}
use Rattle.arabic_stretching.specs.declared.fitting.Widths.{Widths}

abbrev widths_by : ℕ → ℤ
widths_by g = if (g == 1) || (g == 3) then pos 100 else (if g == 2 then pos 50 else pos 999)

-- glyphs 1 and 3 are 100 wide, glyph 2 is 50, all others 999
abbrev pub face : FaceMeaning
face = record {
  nominal_glyph = λ c. None;
  variation_glyph = λ c s. None;
  h_advance = λ (g : GlyphId). widths_by g.0;
  v_advance = λ g. pos 0;
  h_origin = λ g. pos 0;
  v_origin = λ g. pos 0;
  extents = λ g. None;
  units_per_em = 1000;
  x_scale = pos 1000;
  y_scale = pos 1000;
  tables = record { gsub = false; gpos = false; morx = false; kerx = false; trak = false };
}

abbrev pub glyph : ℕ → ℤ → Item → Glyph
glyph g advance item = record { info = record item { glyph_id = g }; position = record zero_position { x_advance = advance } }

-- a fixed tile, a repeating one and another fixed one, which tables have given other advances
abbrev pub tiles : List Glyph
tiles = glyph 1 (pos 7) (noted 2) ∷ glyph 2 (pos 7) (noted 3) ∷ glyph 3 (pos 7) (noted 2) ∷ []

-- a word of two letters
abbrev pub word : List Glyph
word = glyph 4 (pos 260) (letter 1) ∷ glyph 5 (pos 260) (letter 2) ∷ []

abbrev pub widths : ℤ → ℤ → Widths
widths repeating count = record { fixed = pos 200; repeating = repeating; count = count }

abbrev pub fit : ℕ → ℤ → ℤ → Fit
fit copies overlap offset = record { copies = copies; overlap = overlap; offset = offset }

pub record WorkedFitting : Type 0 where
  -- by the face, and by positions
  pub of_tiles : widths_of face tiles ≡ widths (pos 50) (pos 1)
  pub of_word : word_width word ≡ pos 520
  -- 6 of 50 in 300; 7 of 50 in 320, of which 6 overlap by 5
  pub exact : fit_by (pos 300) (widths (pos 50) (pos 1)) ≡ fit 5 (pos 0) (pos 150)
  pub squeezed : fit_by (pos 320) (widths (pos 50) (pos 1)) ≡ fit 6 (pos 5) (pos 0)
  pub once_more : fit_by (pos 60) (widths (pos 50) (pos 1)) ≡ fit 1 (pos 40) (pos 0)
  pub as_wide : fit_by (pos 50) (widths (pos 50) (pos 1)) ≡ fit 0 (pos 0) (pos 25)
  -- a word that is narrower than the tiles, and than the fixed ones alone
  pub narrow : fit_by (pos 40) (widths (pos 50) (pos 1)) ≡ fit 0 (pos 0) (pos 20)
  pub narrower : fit_by (negsuc 29) (widths (pos 50) (pos 1)) ≡ fit 0 (pos 0) (negsuc 14)
  -- two tiles repeat together: 3 times 100 in 250, of which 4 copies overlap by 12
  pub two_repeat : fit_by (pos 250) (widths (pos 100) (pos 2)) ≡ fit 2 (pos 12) (pos 0)
  pub none_repeats : fit_by (pos 100) (widths (pos 0) (pos 0)) ≡ fit 0 (pos 0) (pos 50)
  pub no_width : fit_by (pos 100) (widths (pos 0) (pos 1)) ≡ fit 1 (pos 0) (pos 50)
  -- the word ends at a space
  pub whole : fit_at face (glyph 1 (pos 7) (noted 2) ∷ glyph 2 (pos 7) (noted 3) ∷ glyph 3 (pos 7) (noted 2)
      ∷ glyph 4 (pos 260) (letter 1) ∷ glyph 5 (pos 260) (letter 2) ∷ glyph 6 (pos 90) (space 3) ∷ glyph 4 (pos 260) (letter 4) ∷ [])
      ≡ fit 6 (pos 5) (pos 0)
  pub at_the_end : fit_at face (glyph 1 (pos 7) (noted 2) ∷ []) ≡ fit 0 (pos 0) (negsuc 49)

pub worked_fitting : WorkedFitting
unfolding ◌+ʷ◌ ◌-ʷ◌ ◌*ʷ◌ int_wrap fit_by fit_over
worked_fitting = record {
  of_tiles = refl;
  of_word = refl;
  exact = refl;
  squeezed = refl;
  once_more = refl;
  as_wide = refl;
  narrow = refl;
  narrower = refl;
  two_repeat = refl;
  none_repeats = refl;
  no_width = refl;
  whole = refl;
  at_the_end = refl;
}
