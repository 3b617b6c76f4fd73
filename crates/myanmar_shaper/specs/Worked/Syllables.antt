-- The syllables of Myanmar, worked out by hand on categories: the kind of the first one (0 with a base, 1 broken, 2 other) and how many
-- characters it has.
use Rattle.std.specs.Prelude.{◌≡◌, ℕ, List, [], ◌∷◌, refl}
use Rattle.syllables.specs.Grammar.{first_syllable}
use Rattle.syllables.specs.IndicCategories.{X, C, V, N, H, ZWNJ, ZWJ, SM, A, PLACEHOLDER, DOTTED_CIRCLE, Ra, CS, SMPst, VAbv, VBlw, VPre, VPst, Asat}
use Rattle.syllables.specs.IndicCategories.{MH, MR, MW, MY, PT, VS, ML}
use Rattle.syllables.specs.MyanmarGrammar.{myanmar_grammar}
use Rattle.syllables.specs.declared.scanner.Syllable.{Syllable}

abbrev first : List ℕ → Syllable
first categories = first_syllable myanmar_grammar 2 categories

abbrev of : (kind count : ℕ) → Syllable
of kind count = record { kind = kind; count = count }

pub record WorkedSyllables : Type 0 where
  -- a base may be a consonant, a vowel by itself, a placeholder or a dotted circle, with a selector
  pub consonant : first (C ∷ C ∷ []) ≡ of 0 1
  pub vowel_alone : first (V ∷ VBlw ∷ []) ≡ of 0 2
  pub placeholder : first (PLACEHOLDER ∷ VAbv ∷ []) ≡ of 0 2
  pub circle : first (DOTTED_CIRCLE ∷ VPre ∷ []) ≡ of 0 2
  pub selector : first (C ∷ VS ∷ VAbv ∷ []) ≡ of 0 3
  -- kinzi and a consonant with stacker stand before the base
  pub kinzi : first (Ra ∷ Asat ∷ H ∷ C ∷ VPst ∷ []) ≡ of 0 5
  pub stacker : first (CS ∷ C ∷ VAbv ∷ []) ≡ of 0 3
  -- letters below the base, each with a selector, and a virama at the end
  pub below : first (C ∷ H ∷ C ∷ VS ∷ H ∷ V ∷ VAbv ∷ []) ≡ of 0 7
  pub virama_last : first (C ∷ H ∷ X ∷ []) ≡ of 0 2
  -- medial YA, RA, WA, HA and LA in this order, asat after YA and after the last
  pub medials : first (C ∷ MY ∷ Asat ∷ MR ∷ MW ∷ MH ∷ ML ∷ Asat ∷ []) ≡ of 0 8
  pub medials_turned : first (C ∷ MH ∷ MW ∷ []) ≡ of 0 2
  -- vowels before, above and below the base, anusvara and dot below with asat; a vowel after it begins a group of its own
  pub vowels : first (C ∷ VPre ∷ VS ∷ VPre ∷ VAbv ∷ VBlw ∷ A ∷ N ∷ Asat ∷ []) ≡ of 0 9
  pub vowels_turned : first (C ∷ VBlw ∷ VAbv ∷ []) ≡ of 0 2
  pub after_base : first (C ∷ VPst ∷ MH ∷ ML ∷ Asat ∷ VAbv ∷ A ∷ N ∷ Asat ∷ VPst ∷ []) ≡ of 0 10
  -- tones and signs, and one joiner at the end
  pub tones : first (C ∷ SM ∷ PT ∷ A ∷ N ∷ Asat ∷ SMPst ∷ ZWJ ∷ ZWJ ∷ []) ≡ of 0 8
  pub joiner_last : first (C ∷ ZWNJ ∷ C ∷ []) ≡ of 0 2
  -- a tail without a base is broken, and kinzi without one
  pub vowel_first : first (VPre ∷ VAbv ∷ C ∷ []) ≡ of 1 2
  pub asat_first : first (Asat ∷ Asat ∷ C ∷ []) ≡ of 1 2
  pub virama_first : first (H ∷ C ∷ VAbv ∷ []) ≡ of 1 3
  pub kinzi_alone : first (Ra ∷ Asat ∷ H ∷ []) ≡ of 1 3
  pub kinzi_and_vowel : first (Ra ∷ Asat ∷ H ∷ VPre ∷ []) ≡ of 1 4
  -- a joiner, a sign after syllables and any other character are alone
  pub joiner : first (ZWJ ∷ C ∷ []) ≡ of 2 1
  pub sign_after : first (SMPst ∷ C ∷ []) ≡ of 2 1
  pub other : first (X ∷ VPre ∷ []) ≡ of 2 1

pub worked_syllables : WorkedSyllables
worked_syllables = record {
  consonant = refl;
  vowel_alone = refl;
  placeholder = refl;
  circle = refl;
  selector = refl;
  kinzi = refl;
  stacker = refl;
  below = refl;
  virama_last = refl;
  medials = refl;
  medials_turned = refl;
  vowels = refl;
  vowels_turned = refl;
  after_base = refl;
  tones = refl;
  joiner_last = refl;
  vowel_first = refl;
  asat_first = refl;
  virama_first = refl;
  kinzi_alone = refl;
  kinzi_and_vowel = refl;
  joiner = refl;
  sign_after = refl;
  other = refl;
}
