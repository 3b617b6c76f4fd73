-- Which bytes are a glyph's, by its place and that of the next one.
use Rattle.std.specs.Prelude.{◌≡◌, ℕ, List, [], ◌∷◌, true, false, refl}
use Rattle.shape_font.specs.Worked.Glyphs.{words}
use Rattle.glyph_outlines.specs.Places.{outline_bytes}
use Rattle.glyph_outlines.specs.declared.outlines.Outlines.{Outlines}

-- six bytes, of which short places 0, 1, 1, 3 and 4 are halves
abbrev pub six : List ℕ
six = 10 ∷ 11 ∷ 12 ∷ 13 ∷ 14 ∷ 15 ∷ []

abbrev pub halves : List ℕ
halves = words (0 ∷ 1 ∷ 1 ∷ 3 ∷ 4 ∷ [])

pub record WorkedPlaces : Type 0 where
  pub first : (o : Outlines) → o.long ≡ false → o.loca.now ≡ halves → o.glyf.now ≡ six → outline_bytes o 0 ≡ 10 ∷ 11 ∷ []
  pub none : (o : Outlines) → o.long ≡ false → o.loca.now ≡ halves → outline_bytes o 1 ≡ []
  pub up_to_the_end : (o : Outlines) → o.long ≡ false → o.loca.now ≡ halves → o.glyf.now ≡ six → outline_bytes o 2 ≡ 12 ∷ 13 ∷ 14 ∷ 15 ∷ []
  -- the table has six bytes, and not eight
  pub not_all_there : (o : Outlines) → o.long ≡ false → o.loca.now ≡ halves → o.glyf.now ≡ six → outline_bytes o 3 ≡ []
  -- the next one's place isn't there, and reads as 0
  pub past_the_last : (o : Outlines) → o.long ≡ false → o.loca.now ≡ halves → outline_bytes o 4 ≡ []
  pub by_long_places : (o : Outlines) → o.long ≡ true → o.loca.now ≡ words (0 ∷ 1 ∷ 0 ∷ 4 ∷ []) → o.glyf.now ≡ six
      → outline_bytes o 0 ≡ 11 ∷ 12 ∷ 13 ∷ []

pub worked_places : WorkedPlaces
worked_places = record {
  first = λ o l p g. rw (l, p, g) refl;
  none = λ o l p. rw (l, p) refl;
  up_to_the_end = λ o l p g. rw (l, p, g) refl;
  not_all_there = λ o l p g. rw (l, p, g) refl;
  past_the_last = λ o l p. rw (l, p) refl;
  by_long_places = λ o l p g. rw (l, p, g) refl;
}
