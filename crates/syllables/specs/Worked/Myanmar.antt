-- The first syllables of texts by `myanmar_grammar`, found by hand with its rules.
use Rattle.std.specs.Prelude.{◌≡◌, ℕ, List, [], ◌∷◌, refl}
use Rattle.syllables.specs.Grammar.{first_syllable}
use Rattle.syllables.specs.IndicCategories.{X, C, V, N, H, ZWNJ, ZWJ, SM, A, PLACEHOLDER, DOTTED_CIRCLE, Ra, CS, SMPst, VAbv, VBlw, VPre, VPst, Asat}
use Rattle.syllables.specs.IndicCategories.{MH, MR, MW, MY, PT, VS, ML}
use Rattle.syllables.specs.MyanmarGrammar.{myanmar_grammar}
use Rattle.syllables.specs.declared.scanner.Syllable.{Syllable}

abbrev first : List ℕ → Syllable
first = first_syllable myanmar_grammar 2

abbrev found : (kind count : ℕ) → Syllable
found kind count = record { kind = kind; count = count }

pub record WorkedMyanmar : Type 0 where
  -- a base: a consonant, an independent vowel, a placeholder, a dotted circle
  pub consonant : first (C ∷ C ∷ []) ≡ found 0 1
  pub vowel : first (V ∷ []) ≡ found 0 1
  pub placeholder : first (PLACEHOLDER ∷ VS ∷ []) ≡ found 0 2
  pub circle : first (DOTTED_CIRCLE ∷ MH ∷ []) ≡ found 0 2
  -- kinzi or a consonant with stacker before it; RA with asat alone is a base, and with a virama a kinzi without a base
  pub kinzi : first (Ra ∷ Asat ∷ H ∷ C ∷ []) ≡ found 0 4
  pub stacked : first (CS ∷ C ∷ []) ≡ found 0 2
  pub ra : first (Ra ∷ Asat ∷ []) ≡ found 0 2
  pub kinzi_alone : first (Ra ∷ Asat ∷ H ∷ []) ≡ found 1 3
  -- letters below the base, and a virama that nothing follows
  pub below : first (C ∷ VS ∷ H ∷ Ra ∷ VS ∷ H ∷ V ∷ []) ≡ found 0 7
  pub virama : first (C ∷ H ∷ Ra ∷ H ∷ []) ≡ found 0 4
  pub two_viramas : first (C ∷ H ∷ H ∷ []) ≡ found 0 2
  -- a tail with something of each group, in the order of the rule; the order counts
  pub whole : first
      (V ∷ Asat ∷ MY ∷ Asat ∷ MR ∷ MW ∷ MH ∷ ML ∷ Asat ∷ VPre ∷ VS ∷ VAbv ∷ VBlw ∷ A ∷ N ∷ Asat ∷ VPst ∷ MH ∷ ML ∷ Asat ∷ VAbv ∷ A ∷ N
      ∷ Asat ∷ SM ∷ PT ∷ A ∷ N ∷ Asat ∷ ZWNJ ∷ [])
      ≡ found 0 30
  pub out_of_order : first (C ∷ MH ∷ MW ∷ []) ≡ found 0 2
  pub vowels : first (C ∷ VPre ∷ VPre ∷ VAbv ∷ VBlw ∷ VPst ∷ VPst ∷ []) ≡ found 0 7
  pub tones : first (C ∷ SM ∷ SMPst ∷ PT ∷ []) ≡ found 0 4
  -- a joiner or a modifier that may stand alone, alone
  pub joiner : first (ZWJ ∷ ZWJ ∷ []) ≡ found 2 1
  pub modifier : first (SMPst ∷ []) ≡ found 2 1
  pub modifier_tone : first (SMPst ∷ SM ∷ []) ≡ found 1 2
  -- broken: without a base
  pub vowel_sign : first (VAbv ∷ []) ≡ found 1 1
  pub virama_alone : first (VS ∷ H ∷ []) ≡ found 1 2
  pub asat_joiner : first (Asat ∷ ZWNJ ∷ []) ≡ found 1 2
  -- other
  pub other : first (X ∷ C ∷ []) ≡ found 2 1
  -- a dot below with or without asat; the medial letters WA, HA and LA by themselves and in pairs
  pub dot : first (C ∷ N ∷ C ∷ []) ≡ found 0 2
  pub dot_asat : first (C ∷ N ∷ Asat ∷ []) ≡ found 0 3
  pub wa : first (C ∷ MW ∷ []) ≡ found 0 2
  pub wa_ha : first (C ∷ MW ∷ MH ∷ []) ≡ found 0 3
  pub wa_la : first (C ∷ MW ∷ ML ∷ []) ≡ found 0 3
  pub ha_la : first (C ∷ MH ∷ ML ∷ []) ≡ found 0 3
  pub la : first (C ∷ ML ∷ []) ≡ found 0 2
  -- any number of asats, vowels of one place and anusvaras, of vowels after the base and of tones, too
  pub asats : first (C ∷ Asat ∷ Asat ∷ Asat ∷ []) ≡ found 0 4
  pub vowels_above : first (C ∷ VAbv ∷ VAbv ∷ []) ≡ found 0 3
  pub vowels_below : first (C ∷ VBlw ∷ VBlw ∷ []) ≡ found 0 3
  pub anusvaras : first (C ∷ A ∷ A ∷ []) ≡ found 0 3
  pub after_asats : first (C ∷ VPst ∷ Asat ∷ Asat ∷ []) ≡ found 0 4
  pub after_above : first (C ∷ VPst ∷ VAbv ∷ VAbv ∷ []) ≡ found 0 4
  pub after_anusvaras : first (C ∷ VPst ∷ A ∷ A ∷ []) ≡ found 0 4
  pub tone_anusvaras : first (C ∷ PT ∷ A ∷ A ∷ []) ≡ found 0 4

pub worked_myanmar : WorkedMyanmar
worked_myanmar = record {
  consonant = refl;
  vowel = refl;
  placeholder = refl;
  circle = refl;
  kinzi = refl;
  stacked = refl;
  ra = refl;
  kinzi_alone = refl;
  below = refl;
  virama = refl;
  two_viramas = refl;
  whole = refl;
  out_of_order = refl;
  vowels = refl;
  tones = refl;
  joiner = refl;
  modifier = refl;
  modifier_tone = refl;
  vowel_sign = refl;
  virama_alone = refl;
  asat_joiner = refl;
  other = refl;
  dot = refl;
  dot_asat = refl;
  wa = refl;
  wa_ha = refl;
  wa_la = refl;
  ha_la = refl;
  la = refl;
  asats = refl;
  vowels_above = refl;
  vowels_below = refl;
  anusvaras = refl;
  after_asats = refl;
  after_above = refl;
  after_anusvaras = refl;
  tone_anusvaras = refl;
}
