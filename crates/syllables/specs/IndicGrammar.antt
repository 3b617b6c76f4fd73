-- The syllables of the scripts of India, as HarfBuzz has them.
use Rattle.std.specs.Prelude.{[], ◌∷◌}
use Rattle.syllables.specs.Pattern.{Pattern, One, Or, Star, opt, one, in_turn}
use Rattle.syllables.specs.Grammar.{Grammar}
use Rattle.syllables.specs.IndicCategories.{C, V, N, H, ZWNJ, ZWJ, M, SM, A, PLACEHOLDER, DOTTED_CIRCLE, RS, MPst, Repha, Ra, CM, Symbol, CS, SMPst}

abbrev pub letter : Pattern
letter = One (C ∷ Ra ∷ [])

abbrev pub joiner : Pattern
joiner = One (ZWNJ ∷ ZWJ ∷ [])

-- a register shifter and nuktas
abbrev pub shifter_and_nuktas : Pattern
shifter_and_nuktas = in_turn (opt (in_turn (opt (one ZWNJ) ∷ one RS ∷ [])) ∷ opt (in_turn (one N ∷ opt (one N) ∷ [])) ∷ [])

-- Ra and a halant, or a sign of its own
abbrev pub reph : Pattern
reph = Or (in_turn (one Ra ∷ one H ∷ [])) (one Repha)

abbrev pub modifier : Pattern
modifier = One (SM ∷ SMPst ∷ [])

abbrev pub consonant : Pattern
consonant = in_turn (letter ∷ opt (one ZWJ) ∷ shifter_and_nuktas ∷ [])

abbrev pub matra_group : Pattern
matra_group = in_turn (Star joiner ∷ Or (one M) (in_turn (opt modifier ∷ one MPst ∷ [])) ∷ opt (one N) ∷ opt (one H) ∷ [])

abbrev pub syllable_tail : Pattern
syllable_tail = in_turn (opt (in_turn (opt joiner ∷ modifier ∷ opt modifier ∷ opt (one ZWNJ) ∷ [])) ∷ Star (one A) ∷ [])

abbrev pub halant_group : Pattern
halant_group = in_turn (opt joiner ∷ one H ∷ opt (in_turn (one ZWJ ∷ opt (one N) ∷ [])) ∷ [])

abbrev pub final_halant_group : Pattern
final_halant_group = Or halant_group (in_turn (one H ∷ one ZWNJ ∷ []))

-- what follows the first letter: more of them with halants, a medial one, and a halant or matras
abbrev pub complex_tail : Pattern
complex_tail = in_turn
    (Star (in_turn (halant_group ∷ consonant ∷ [])) ∷ opt (one CM) ∷ Or final_halant_group (Star matra_group) ∷ syllable_tail ∷ [])

abbrev pub prefix : Pattern
prefix = opt (One (Repha ∷ CS ∷ []))

abbrev pub consonant_syllable : Pattern
consonant_syllable = in_turn (prefix ∷ consonant ∷ complex_tail ∷ [])

abbrev pub vowel_syllable : Pattern
vowel_syllable = in_turn (opt reph ∷ one V ∷ shifter_and_nuktas ∷ Or (one ZWJ) complex_tail ∷ [])

-- on a placeholder or a dotted circle
abbrev pub standalone_cluster : Pattern
standalone_cluster = in_turn
    (Or (in_turn (prefix ∷ one PLACEHOLDER ∷ [])) (in_turn (opt reph ∷ one DOTTED_CIRCLE ∷ [])) ∷ shifter_and_nuktas ∷ complex_tail ∷ [])

abbrev pub symbol_cluster : Pattern
symbol_cluster = in_turn (one Symbol ∷ opt (one N) ∷ syllable_tail ∷ [])

-- a tail without a base
abbrev pub broken_cluster : Pattern
broken_cluster = in_turn (opt reph ∷ shifter_and_nuktas ∷ complex_tail ∷ [])

-- kinds: 0 consonant, 1 vowel, 2 standalone, 3 symbol, 4 broken, 5 other
abbrev pub indic_grammar : Grammar
indic_grammar =
    (0, consonant_syllable) ∷ (1, vowel_syllable) ∷ (2, standalone_cluster) ∷ (3, symbol_cluster) ∷ (5, one SMPst)
    ∷ (4, broken_cluster) ∷ []
