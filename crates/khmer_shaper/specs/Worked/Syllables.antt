-- The syllables of Khmer, worked out by hand on categories: the kind of the first one (0 with a base, 1 broken, 2 other) and how many
-- characters it has.
use Rattle.std.specs.Prelude.{◌≡◌, ℕ, List, [], ◌∷◌, refl}
use Rattle.syllables.specs.Grammar.{first_syllable}
use Rattle.syllables.specs.IndicCategories.{X, C, V, H, ZWNJ, ZWJ, PLACEHOLDER, DOTTED_CIRCLE, Ra, VAbv, VBlw, VPre, VPst, Robatic, Xgroup, Ygroup}
use Rattle.syllables.specs.KhmerGrammar.{khmer_grammar}
use Rattle.syllables.specs.declared.scanner.Syllable.{Syllable}

abbrev first : List ℕ → Syllable
first categories = first_syllable khmer_grammar 2 categories

abbrev of : (kind count : ℕ) → Syllable
of kind count = record { kind = kind; count = count }

pub record WorkedSyllables : Type 0 where
  -- a base may be a letter, a vowel by itself, a placeholder or a dotted circle; it takes one vowel of each place
  pub letter : first (C ∷ C ∷ []) ≡ of 0 1
  pub vowel_alone : first (V ∷ VPst ∷ []) ≡ of 0 2
  pub placeholder : first (PLACEHOLDER ∷ VAbv ∷ []) ≡ of 0 2
  pub circle : first (DOTTED_CIRCLE ∷ VPre ∷ []) ≡ of 0 2
  pub vowels : first (C ∷ VPre ∷ VBlw ∷ VAbv ∷ VPst ∷ []) ≡ of 0 5
  pub vowels_turned : first (C ∷ VPst ∷ VAbv ∷ []) ≡ of 0 2
  -- letters below the base; the last one may follow the vowels
  pub below : first (C ∷ H ∷ C ∷ H ∷ Ra ∷ VPre ∷ []) ≡ of 0 6
  pub below_last : first (C ∷ VPre ∷ H ∷ C ∷ []) ≡ of 0 4
  pub coeng_last : first (C ∷ H ∷ X ∷ []) ≡ of 0 2
  -- robatic after its letter, with a joiner between
  pub robatic : first (C ∷ ZWNJ ∷ Robatic ∷ VPst ∷ []) ≡ of 0 4
  -- signs of the two groups, joiners before the first
  pub signs : first (C ∷ Xgroup ∷ VAbv ∷ ZWJ ∷ ZWJ ∷ Xgroup ∷ Ygroup ∷ Ygroup ∷ []) ≡ of 0 8
  pub sign_after_last : first (C ∷ Ygroup ∷ Xgroup ∷ []) ≡ of 0 2
  pub joiner_above : first (C ∷ ZWNJ ∷ VAbv ∷ []) ≡ of 0 3
  pub joiner_below : first (C ∷ ZWNJ ∷ VBlw ∷ []) ≡ of 0 1
  -- a tail without a base is broken
  pub vowel_first : first (VPre ∷ VPst ∷ C ∷ []) ≡ of 1 2
  pub coeng_first : first (H ∷ C ∷ VPre ∷ []) ≡ of 1 3
  pub robatic_first : first (Robatic ∷ C ∷ []) ≡ of 1 1
  pub sign_first : first (Ygroup ∷ C ∷ []) ≡ of 1 1
  -- joiners and all others are alone
  pub joiner : first (ZWNJ ∷ C ∷ []) ≡ of 2 1
  pub other : first (X ∷ VPre ∷ []) ≡ of 2 1

pub worked_syllables : WorkedSyllables
worked_syllables = record {
  letter = refl;
  vowel_alone = refl;
  placeholder = refl;
  circle = refl;
  vowels = refl;
  vowels_turned = refl;
  below = refl;
  below_last = refl;
  coeng_last = refl;
  robatic = refl;
  signs = refl;
  sign_after_last = refl;
  joiner_above = refl;
  joiner_below = refl;
  vowel_first = refl;
  coeng_first = refl;
  robatic_first = refl;
  sign_first = refl;
  joiner = refl;
  other = refl;
}
