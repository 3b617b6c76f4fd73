-- The first syllables of texts by `khmer_grammar`, found by hand with its rules.
use Rattle.std.specs.Prelude.{◌≡◌, ℕ, List, [], ◌∷◌, refl}
use Rattle.syllables.specs.Grammar.{first_syllable}
use Rattle.syllables.specs.IndicCategories.{X, C, V, H, ZWNJ, ZWJ, PLACEHOLDER, DOTTED_CIRCLE, Ra, VAbv, VBlw, VPre, VPst, Robatic, Xgroup, Ygroup}
use Rattle.syllables.specs.KhmerGrammar.{khmer_grammar}
use Rattle.syllables.specs.declared.scanner.Syllable.{Syllable}

abbrev first : List ℕ → Syllable
first = first_syllable khmer_grammar 2

abbrev found : (kind count : ℕ) → Syllable
found kind count = record { kind = kind; count = count }

pub record WorkedKhmer : Type 0 where
  -- a base: a consonant, an independent vowel, a placeholder, a dotted circle
  pub consonant : first (C ∷ C ∷ []) ≡ found 0 1
  pub ra : first (Ra ∷ []) ≡ found 0 1
  pub vowel : first (V ∷ []) ≡ found 0 1
  pub placeholder : first (PLACEHOLDER ∷ []) ≡ found 0 1
  pub circle : first (DOTTED_CIRCLE ∷ VPre ∷ []) ≡ found 0 2
  -- a consonant syllable with something of each group, in the order of the rule; the order counts
  pub whole : first
      (C ∷ Robatic ∷ H ∷ C ∷ Xgroup ∷ VPre ∷ Xgroup ∷ VBlw ∷ ZWNJ ∷ VAbv ∷ Xgroup ∷ VPst ∷ Xgroup ∷ H ∷ Ra ∷ Ygroup ∷ [])
      ≡ found 0 16
  pub out_of_order : first (C ∷ VAbv ∷ VBlw ∷ []) ≡ found 0 2
  pub twice : first (C ∷ VBlw ∷ VBlw ∷ []) ≡ found 0 2
  -- letters below the base, and a coeng that nothing follows
  pub below : first (C ∷ H ∷ C ∷ H ∷ Ra ∷ ZWJ ∷ Robatic ∷ []) ≡ found 0 7
  pub coeng : first (C ∷ H ∷ []) ≡ found 0 2
  pub two_coengs : first (C ∷ H ∷ H ∷ []) ≡ found 0 2
  -- joiners before signs of the group x, and one before a vowel above; else they stay apart
  pub joined : first (C ∷ ZWJ ∷ ZWNJ ∷ Xgroup ∷ []) ≡ found 0 4
  pub joined_vowel : first (C ∷ ZWNJ ∷ VAbv ∷ []) ≡ found 0 3
  pub apart : first (C ∷ ZWJ ∷ ZWJ ∷ VAbv ∷ []) ≡ found 0 1
  -- broken: without a base
  pub vowel_sign : first (VAbv ∷ []) ≡ found 1 1
  pub coeng_alone : first (H ∷ C ∷ []) ≡ found 1 2
  pub robatic : first (Robatic ∷ H ∷ Ra ∷ VPst ∷ []) ≡ found 1 4
  pub last_signs : first (Ygroup ∷ Ygroup ∷ []) ≡ found 1 2
  -- other
  pub other : first (X ∷ C ∷ []) ≡ found 2 1
  pub joiner : first (ZWJ ∷ ZWJ ∷ []) ≡ found 2 1
  -- a letter below with a robatic right behind it
  pub below_robatic : first (C ∷ H ∷ C ∷ Robatic ∷ []) ≡ found 0 4
  -- any number of signs of the group x, and signs between all vowels
  pub signs : first (C ∷ Xgroup ∷ Xgroup ∷ Xgroup ∷ Xgroup ∷ Xgroup ∷ Xgroup ∷ []) ≡ found 0 7
  pub sign_below : first (C ∷ VPre ∷ Xgroup ∷ VBlw ∷ []) ≡ found 0 4
  pub sign_above : first (C ∷ VBlw ∷ Xgroup ∷ VAbv ∷ []) ≡ found 0 4
  pub sign_after : first (C ∷ VAbv ∷ Xgroup ∷ VPst ∷ []) ≡ found 0 4

pub worked_khmer : WorkedKhmer
worked_khmer = record {
  consonant = refl;
  ra = refl;
  vowel = refl;
  placeholder = refl;
  circle = refl;
  whole = refl;
  out_of_order = refl;
  twice = refl;
  below = refl;
  coeng = refl;
  two_coengs = refl;
  joined = refl;
  joined_vowel = refl;
  apart = refl;
  vowel_sign = refl;
  coeng_alone = refl;
  robatic = refl;
  last_signs = refl;
  other = refl;
  joiner = refl;
  below_robatic = refl;
  signs = refl;
  sign_below = refl;
  sign_above = refl;
  sign_after = refl;
}
