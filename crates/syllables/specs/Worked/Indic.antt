-- The first syllables of texts by `indic_grammar`, found by hand with its rules.
use Rattle.std.specs.Prelude.{◌≡◌, ℕ, List, [], ◌∷◌, refl}
use Rattle.syllables.specs.Grammar.{first_syllable}
use Rattle.syllables.specs.IndicCategories.{X, C, V, N, H, ZWNJ, ZWJ, M, SM, A, PLACEHOLDER, DOTTED_CIRCLE, RS, MPst, Repha, Ra, CM, Symbol, CS, SMPst}
use Rattle.syllables.specs.IndicGrammar.{indic_grammar}
use Rattle.syllables.specs.declared.scanner.Syllable.{Syllable}

abbrev first : List ℕ → Syllable
first = first_syllable indic_grammar 5

abbrev found : (kind count : ℕ) → Syllable
found kind count = record { kind = kind; count = count }

pub record WorkedIndic : Type 0 where
  -- a consonant
  pub consonant : first (C ∷ C ∷ []) ≡ found 0 1
  pub joined : first (Ra ∷ H ∷ C ∷ M ∷ []) ≡ found 0 4
  pub stacked : first (CS ∷ C ∷ []) ≡ found 0 2
  -- a consonant syllable with something of each group, in the order of the rule
  pub whole : first (Repha ∷ C ∷ N ∷ N ∷ H ∷ ZWJ ∷ N ∷ Ra ∷ CM ∷ M ∷ N ∷ H ∷ SM ∷ SMPst ∷ ZWNJ ∷ A ∷ A ∷ []) ≡ found 0 17
  pub shifter : first (C ∷ ZWNJ ∷ RS ∷ N ∷ []) ≡ found 0 4
  pub matra_after_modifier : first (C ∷ SM ∷ MPst ∷ []) ≡ found 0 3
  -- a halant at the end, with a non-joiner or a joiner
  pub halant : first (C ∷ H ∷ []) ≡ found 0 2
  pub halant_non_joiner : first (C ∷ H ∷ ZWNJ ∷ C ∷ []) ≡ found 0 3
  pub halant_joiner : first (C ∷ H ∷ ZWJ ∷ C ∷ []) ≡ found 0 4
  -- joiners before a matra that comes, or does not
  pub joiners_matra : first (C ∷ ZWNJ ∷ ZWJ ∷ ZWNJ ∷ M ∷ []) ≡ found 0 5
  pub joiners : first (C ∷ ZWNJ ∷ ZWJ ∷ ZWNJ ∷ []) ≡ found 0 1
  -- an independent vowel
  pub vowel : first (V ∷ M ∷ []) ≡ found 1 2
  pub vowel_joiner : first (Ra ∷ H ∷ V ∷ ZWJ ∷ []) ≡ found 1 4
  pub vowel_joined : first (Repha ∷ V ∷ H ∷ C ∷ []) ≡ found 1 4
  -- standalone: a placeholder or a dotted circle
  pub placeholder : first (PLACEHOLDER ∷ []) ≡ found 2 1
  pub repha_placeholder : first (Repha ∷ PLACEHOLDER ∷ M ∷ []) ≡ found 2 3
  pub circle : first (Ra ∷ H ∷ DOTTED_CIRCLE ∷ H ∷ []) ≡ found 2 4
  -- a symbol
  pub symbol : first (Symbol ∷ N ∷ SM ∷ A ∷ []) ≡ found 3 4
  -- a modifier that may stand alone, alone
  pub modifier : first (SMPst ∷ []) ≡ found 5 1
  pub modifier_tone : first (SMPst ∷ A ∷ []) ≡ found 4 2
  -- broken: without a base
  pub matra : first (M ∷ SM ∷ []) ≡ found 4 2
  pub repha : first (Repha ∷ M ∷ []) ≡ found 4 2
  pub halant_alone : first (H ∷ C ∷ M ∷ []) ≡ found 4 3
  pub nukta : first (N ∷ []) ≡ found 4 1
  pub joiner_matra : first (ZWJ ∷ M ∷ []) ≡ found 4 2
  -- other
  pub other : first (X ∷ C ∷ []) ≡ found 5 1
  pub joiner : first (ZWJ ∷ X ∷ []) ≡ found 5 1

pub worked_indic : WorkedIndic
worked_indic = record {
  consonant = refl;
  joined = refl;
  stacked = refl;
  whole = refl;
  shifter = refl;
  matra_after_modifier = refl;
  halant = refl;
  halant_non_joiner = refl;
  halant_joiner = refl;
  joiners_matra = refl;
  joiners = refl;
  vowel = refl;
  vowel_joiner = refl;
  vowel_joined = refl;
  placeholder = refl;
  repha_placeholder = refl;
  circle = refl;
  symbol = refl;
  modifier = refl;
  modifier_tone = refl;
  matra = refl;
  repha = refl;
  halant_alone = refl;
  nukta = refl;
  joiner_matra = refl;
  other = refl;
  joiner = refl;
}
