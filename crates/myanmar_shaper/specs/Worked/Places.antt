-- The positions of a syllable's items, worked out by hand on their categories.
use Rattle.std.specs.Prelude.{◌≡◌, true, ℕ, List, [], ◌∷◌, length, map, refl}
use Rattle.shape_items.specs.Items.{Item}
use Rattle.syllabic.specs.Worked.Items.{of_category, buffer}
use Rattle.syllables.specs.IndicCategories.{A, Asat, C, CS, DOTTED_CIRCLE, H, MH, MR, MW, MY, N, PLACEHOLDER, Ra, V, VAbv, VBlw, VPre, VPst, VS}
use Rattle.myanmar_shaper.specs.Places.{each_placed}
use Rattle.myanmar_shaper.specs.Turning.{place_of}

abbrev of_items : List Item → List ℕ
of_items items = map place_of (each_placed (buffer items) 0 (length items)).items

abbrev of : List ℕ → List ℕ
of categories = of_items (map of_category categories)

-- a consonant that lookups have joined to others
abbrev ligated : Item
ligated = let item = of_category C in record item { properties = record item.properties { ligated = true } }

pub record WorkedPlaces : Type 0 where
  -- the base is the first consonant (4); what follows it comes after it (5)
  pub base : of (C ∷ C ∷ VAbv ∷ []) ≡ 4 ∷ 5 ∷ 5 ∷ []
  pub vowel_alone : of (V ∷ N ∷ []) ≡ 4 ∷ 5 ∷ []
  pub below_it : of (C ∷ H ∷ C ∷ []) ≡ 4 ∷ 5 ∷ 5 ∷ []
  -- what stands before it comes before it (3); joined consonants are no base
  pub before_base : of (H ∷ Asat ∷ PLACEHOLDER ∷ []) ≡ 3 ∷ 3 ∷ 4 ∷ []
  pub joined : of_items (ligated ∷ of_category C ∷ []) ≡ 3 ∷ 4 ∷ []
  pub no_base : of (VAbv ∷ VPre ∷ []) ≡ 4 ∷ 2 ∷ []
  pub ra_is_a_base : of (H ∷ Ra ∷ C ∷ []) ≡ 3 ∷ 4 ∷ 5 ∷ []
  pub stacker_is_a_base : of (H ∷ CS ∷ C ∷ []) ≡ 3 ∷ 4 ∷ 5 ∷ []
  pub circle_is_a_base : of (H ∷ DOTTED_CIRCLE ∷ C ∷ []) ≡ 3 ∷ 4 ∷ 5 ∷ []
  -- kinzi comes after the base, also if there is none
  pub kinzi : of (Ra ∷ Asat ∷ H ∷ C ∷ VPst ∷ []) ≡ 5 ∷ 5 ∷ 5 ∷ 4 ∷ 5 ∷ []
  pub kinzi_further : of (Ra ∷ Asat ∷ H ∷ VS ∷ C ∷ []) ≡ 5 ∷ 5 ∷ 5 ∷ 3 ∷ 4 ∷ []
  pub kinzi_alone : of (Ra ∷ Asat ∷ H ∷ VPre ∷ VPre ∷ []) ≡ 5 ∷ 5 ∷ 5 ∷ 4 ∷ 2 ∷ []
  pub no_kinzi : of (Ra ∷ H ∷ C ∷ []) ≡ 4 ∷ 5 ∷ 5 ∷ []
  -- medial RA comes before the base, and vowels before it come first (2); the other medials follow it
  pub medial_ra : of (C ∷ MY ∷ MR ∷ MW ∷ MH ∷ []) ≡ 4 ∷ 5 ∷ 3 ∷ 5 ∷ 5 ∷ []
  pub vowel_before : of (C ∷ MR ∷ VPre ∷ VAbv ∷ []) ≡ 4 ∷ 3 ∷ 2 ∷ 5 ∷ []
  -- a selector comes with what it follows
  pub selector_of_base : of (C ∷ VS ∷ VAbv ∷ []) ≡ 4 ∷ 4 ∷ 5 ∷ []
  pub selector_of_vowel : of (C ∷ VPre ∷ VS ∷ VAbv ∷ VS ∷ []) ≡ 4 ∷ 2 ∷ 2 ∷ 5 ∷ 5 ∷ []
  -- vowels below (8); anusvara after one comes before it (7), and all others after (9), once one of these has come anusvara as well
  pub vowel_below : of (C ∷ VAbv ∷ VBlw ∷ VBlw ∷ []) ≡ 4 ∷ 5 ∷ 8 ∷ 8 ∷ []
  pub anusvara : of (C ∷ VBlw ∷ A ∷ A ∷ []) ≡ 4 ∷ 8 ∷ 7 ∷ 7 ∷ []
  pub anusvara_above : of (C ∷ VAbv ∷ A ∷ []) ≡ 4 ∷ 5 ∷ 5 ∷ []
  pub below_again : of (C ∷ VBlw ∷ A ∷ VBlw ∷ N ∷ Asat ∷ []) ≡ 4 ∷ 8 ∷ 7 ∷ 8 ∷ 9 ∷ 9 ∷ []
  pub after_below : of (C ∷ VBlw ∷ N ∷ A ∷ VBlw ∷ []) ≡ 4 ∷ 8 ∷ 9 ∷ 9 ∷ 9 ∷ []
  -- a kinzi without anything is one; a virama that follows other letters makes none
  pub kinzi_only : of (Ra ∷ Asat ∷ H ∷ []) ≡ 5 ∷ 5 ∷ 5 ∷ []
  pub virama_third : of (C ∷ C ∷ H ∷ C ∷ []) ≡ 4 ∷ 5 ∷ 5 ∷ 5 ∷ []
  pub asat_second : of (C ∷ Asat ∷ H ∷ C ∷ []) ≡ 4 ∷ 5 ∷ 5 ∷ 5 ∷ []
  pub ra_first : of (Ra ∷ C ∷ H ∷ C ∷ []) ≡ 4 ∷ 5 ∷ 5 ∷ 5 ∷ []
  -- a syllable's own items alone get positions
  pub within : map place_of (each_placed (buffer (map of_category (C ∷ C ∷ C ∷ []))) 1 2).items ≡ 0 ∷ 4 ∷ 0 ∷ []

pub worked_places : WorkedPlaces
worked_places = record {
  base = refl;
  vowel_alone = refl;
  below_it = refl;
  before_base = refl;
  joined = refl;
  no_base = refl;
  ra_is_a_base = refl;
  stacker_is_a_base = refl;
  circle_is_a_base = refl;
  kinzi = refl;
  kinzi_further = refl;
  kinzi_alone = refl;
  no_kinzi = refl;
  medial_ra = refl;
  vowel_before = refl;
  selector_of_base = refl;
  selector_of_vowel = refl;
  vowel_below = refl;
  anusvara = refl;
  anusvara_above = refl;
  below_again = refl;
  after_below = refl;
  kinzi_only = refl;
  virama_third = refl;
  asat_second = refl;
  ra_first = refl;
  within = refl;
}
