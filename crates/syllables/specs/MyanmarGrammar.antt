-- The syllables of Myanmar, as HarfBuzz has them.
use Rattle.std.specs.Prelude.{[], ◌∷◌}
use Rattle.syllables.specs.Pattern.{Pattern, One, Or, Star, opt, one, in_turn, any_of}
use Rattle.syllables.specs.Grammar.{Grammar}
use Rattle.syllables.specs.IndicCategories.{C, V, N, H, ZWNJ, ZWJ, SM, A, PLACEHOLDER, DOTTED_CIRCLE, Ra, CS, SMPst, VAbv, VBlw, VPre, VPst, Asat, MH}
use Rattle.syllables.specs.IndicCategories.{MR, MW, MY, PT, VS, ML}

abbrev pub joiner : Pattern
joiner = One (ZWJ ∷ ZWNJ ∷ [])

-- RA that stands above the base: kinzi
abbrev pub kinzi : Pattern
kinzi = in_turn (one Ra ∷ one Asat ∷ one H ∷ [])

abbrev pub consonant : Pattern
consonant = One (C ∷ Ra ∷ [])

abbrev pub modifier : Pattern
modifier = One (SM ∷ SMPst ∷ [])

-- dot below, which an asat may follow
abbrev pub dot_below : Pattern
dot_below = in_turn (one N ∷ opt (one Asat) ∷ [])

-- one or more of the medial letters WA, HA and LA in this order
abbrev pub last_medials : Pattern
last_medials = any_of (in_turn (one MW ∷ opt (one MH) ∷ opt (one ML) ∷ []) ∷ in_turn (one MH ∷ opt (one ML) ∷ []) ∷ one ML ∷ [])

-- medial YA and RA, and the others
abbrev pub medial_group : Pattern
medial_group = in_turn (opt (one MY) ∷ opt (one Asat) ∷ opt (one MR) ∷ opt (in_turn (last_medials ∷ opt (one Asat) ∷ [])) ∷ [])

-- vowels before, above and below the base, with tones
abbrev pub main_vowel_group : Pattern
main_vowel_group = in_turn
    (Star (in_turn (one VPre ∷ opt (one VS) ∷ [])) ∷ Star (one VAbv) ∷ Star (one VBlw) ∷ Star (one A) ∷ opt dot_below ∷ [])

-- a vowel after the base, with what may follow it
abbrev pub post_vowel_group : Pattern
post_vowel_group = in_turn (one VPst ∷ opt (one MH) ∷ opt (one ML) ∷ Star (one Asat) ∷ Star (one VAbv) ∷ Star (one A) ∷ opt dot_below ∷ [])

abbrev pub tone_group : Pattern
tone_group = Or modifier (in_turn (one PT ∷ Star (one A) ∷ opt (one N) ∷ opt (one Asat) ∷ []))

abbrev pub complex_tail : Pattern
complex_tail = in_turn (Star (one Asat) ∷ medial_group ∷ main_vowel_group ∷ Star post_vowel_group ∷ Star tone_group ∷ opt joiner ∷ [])

-- letters below the base, and a virama or vowels
abbrev pub syllable_tail : Pattern
syllable_tail = in_turn (Star (in_turn (one H ∷ Or consonant (one V) ∷ opt (one VS) ∷ [])) ∷ Or (one H) complex_tail ∷ [])

abbrev pub base : Pattern
base = any_of (consonant ∷ one V ∷ one PLACEHOLDER ∷ one DOTTED_CIRCLE ∷ [])

abbrev pub consonant_syllable : Pattern
consonant_syllable = in_turn (opt (Or kinzi (one CS)) ∷ base ∷ opt (one VS) ∷ syllable_tail ∷ [])

-- a tail without a base
abbrev pub broken_cluster : Pattern
broken_cluster = in_turn (opt kinzi ∷ opt (one VS) ∷ syllable_tail ∷ [])

-- kinds: 0 consonant, 1 broken, 2 other
abbrev pub myanmar_grammar : Grammar
myanmar_grammar = (0, consonant_syllable) ∷ (2, Or joiner (one SMPst)) ∷ (1, broken_cluster) ∷ []
