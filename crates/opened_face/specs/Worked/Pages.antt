-- What an opened face stores, on tables that were read by hand.
use Prim.Native.Nat.{zero}
use Rattle.std.specs.Prelude.{None, ◌≡◌, ◌<◌, ◌≤◌, ◌+◌, ℕ, suc, ℤ, pos, negsuc, List, [], ◌∷◌, length, slice_index, slice_index_or, refl}
use Rattle.std.proofs.Common.{lit<, ◌∙◌, arith, subst}
use Rattle.kern_table.specs.declared.sides.PairGlyphs.{PairGlyphs}
use Rattle.shape_font.specs.Face.{width_in}
use Rattle.shape_font.specs.Metrics.{as_short}
use Rattle.shape_font.specs.Worked.Glyphs.{words, short_list}
use Rattle.shape_font.specs.declared.face.FontFace.{FontFace}
use Rattle.shape_font.specs.declared.font_pages.FontPage.TheVariants.{Unicode}
use Rattle.opened_face.specs.Pages.{IsIndexOf, glyph_in, AreGlyphsOf, AreStored, AreAdvances, IsStoredCount, steps_below, IsOpened}
use Rattle.opened_face.specs.declared.advances.TheConstants.{MOST_STEPS}

pub record WorkedPages : Type 0 where
  -- page 5 is the second of the stored ones
  pub place : (pages : List ℕ) → IsIndexOf pages (9 ∷ 9 ∷ 9 ∷ 0 ∷ 9 ∷ 1 ∷ []) → 1 < length pages → slice_index pages 1 ≡ 5
  -- U+0041 has glyph 7; page 0 is the second of the stored ones
  pub filled : (f : FontFace) (glyphs : List ℕ) → f.font_page ≡ Unicode → f.cmap.now ≡ short_list
      → AreGlyphsOf f (3 ∷ 0 ∷ []) glyphs → 321 < length glyphs → slice_index glyphs 321 ≡ 7
  pub found : (f : FontFace) (glyphs : List ℕ) → f.font_page ≡ Unicode → f.cmap.now ≡ short_list
      → AreStored f (1 ∷ []) glyphs → 321 < length glyphs → slice_index glyphs 321 ≡ 7
  -- U+0141 has none
  pub found_in_page_1 : (f : FontFace) (glyphs : List ℕ) → f.font_page ≡ Unicode → f.cmap.now ≡ short_list
      → AreStored f (1 ∷ 0 ∷ []) glyphs → 65 < length glyphs → slice_index glyphs 65 ≡ 0
  -- the second of two long metrics serves all later glyphs
  pub advance : (f : FontFace) (advances : List ℤ) → f.scale ≡ None → f.coordinates.now ≡ [] → f.glyph_count ≡ 7 → f.h_count ≡ 2
      → f.hmtx.now ≡ words (500 ∷ 50 ∷ 600 ∷ 60 ∷ []) → AreAdvances f advances → 6 < length advances
      → slice_index_or advances 6 (pos 0) ≡ pos 600
  -- 65483 is -53 as a number of 16 bits with a sign
  pub below_0 : (f : FontFace) (advances : List ℤ) → f.scale ≡ None → f.coordinates.now ≡ [] → f.glyph_count ≡ 7 → f.h_count ≡ 1
      → f.hmtx.now ≡ words (65483 ∷ 50 ∷ []) → AreAdvances f advances → 6 < length advances
      → slice_index_or advances 6 (pos 0) ≡ negsuc 52
  -- by `gvar` 16,384 steps are counted for each advance, of 16,777,216
  pub steps : (f : FontFace) → f.coordinates.now ≡ pos 1 ∷ [] → f.hvar.now ≡ [] → f.gvar.now ≡ 0 ∷ [] → steps_below f 2 ≡ 32768
  pub no_steps : (f : FontFace) → f.coordinates.now ≡ pos 1 ∷ [] → f.hvar.now ≡ [] → f.gvar.now ≡ [] → steps_below f 2 ≡ 0
  pub most_steps : MOST_STEPS ≡ 0x1000000
  pub all_at_the_default : (f : FontFace) (n : ℕ) → f.coordinates.now ≡ [] → IsStoredCount f n → n ≡ f.glyph_count
  -- 512 pages of 256 glyphs, the 4352 pages of Unicode, and an advance for each glyph that has a number of 16 bits but the last
  pub most_glyphs : (f : FontFace) (index glyphs : List ℕ) (advances : List ℤ) (pairs : PairGlyphs)
      → IsOpened f index glyphs advances pairs → length glyphs ≤ 131072
  pub most_pages : (f : FontFace) (index glyphs : List ℕ) (advances : List ℤ) (pairs : PairGlyphs)
      → IsOpened f index glyphs advances pairs → length index ≤ 4352
  pub most_advances : (f : FontFace) (index glyphs : List ℕ) (advances : List ℤ) (pairs : PairGlyphs)
      → IsOpened f index glyphs advances pairs → length advances ≤ 65535
  pub most_lefts : (f : FontFace) (index glyphs : List ℕ) (advances : List ℤ) (pairs : PairGlyphs) → IsOpened f index glyphs advances pairs
      → length pairs.lefts.items ≤ 65535
  pub most_rights : (f : FontFace) (index glyphs : List ℕ) (advances : List ℤ) (pairs : PairGlyphs) → IsOpened f index glyphs advances pairs
      → length pairs.rights.items ≤ 65535

none_below : (f : FontFace) → f.coordinates.now ≡ [] → (n : ℕ) → steps_below f n ≡ 0
none_below f c zero = refl
none_below f c (suc n) = rw (none_below f c n, c) refl

all_stored : (f : FontFace) (n : ℕ) → f.coordinates.now ≡ [] → IsStoredCount f n → n ≡ f.glyph_count
all_stored f n c is =
    let none : steps_below f (suc n) ≡ 0 = none_below f c (suc n) in
    let within : n ≤ f.glyph_count = is.within in
    let most : n < f.glyph_count → MOST_STEPS < 0 = λ less. subst (λ (k : ℕ). MOST_STEPS < k) none (is.most less) in
    grind arith

pub worked_pages : WorkedPages
unfolding glyph_in width_in as_short
worked_pages = record {
  place = λ pages h inside. h 5 (lit< tt) inside;
  filled = λ f glyphs s c h inside. h 321 inside ∙ rw (s, c) refl;
  found = λ f glyphs s c h inside. h 0x41 (lit< tt) inside ∙ rw (s, c) refl;
  found_in_page_1 = λ f glyphs s c h inside. h 0x141 (lit< tt) inside ∙ rw (s, c) refl;
  advance = λ f advances s c e n t h inside. h 6 inside ∙ rw (s, c, e, n, t) refl;
  below_0 = λ f advances s c e n t h inside. h 6 inside ∙ rw (s, c, e, n, t) refl;
  steps = λ f c h g. rw (c, h, g) refl;
  no_steps = λ f c h g. rw (c, h, g) refl;
  most_steps = refl;
  all_at_the_default = all_stored;
  most_glyphs = λ f index glyphs advances pairs is. is.few_glyphs;
  most_pages = λ f index glyphs advances pairs is. is.few_pages;
  most_advances = λ f index glyphs advances pairs is. is.few_advances;
  most_lefts = λ f index glyphs advances pairs is. is.few_lefts;
  most_rights = λ f index glyphs advances pairs is. is.few_rights;
}
