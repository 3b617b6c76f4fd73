-- The syllables of Khmer, as HarfBuzz has them.
use Rattle.std.specs.Prelude.{[], ◌∷◌}
use Rattle.syllables.specs.Pattern.{Pattern, One, Or, Star, opt, one, in_turn, any_of}
use Rattle.syllables.specs.Grammar.{Grammar}
use Rattle.syllables.specs.IndicCategories.{C, V, H, ZWNJ, ZWJ, PLACEHOLDER, DOTTED_CIRCLE, Ra, VAbv, VBlw, VPre, VPst, Robatic, Xgroup, Ygroup}

-- a consonant, or an independent vowel, which Khmer joins alike
abbrev pub letter : Pattern
letter = One (C ∷ Ra ∷ V ∷ [])

abbrev pub joiner : Pattern
joiner = One (ZWJ ∷ ZWNJ ∷ [])

-- a letter with a robatic
abbrev pub robatic_letter : Pattern
robatic_letter = in_turn (letter ∷ opt (in_turn (opt joiner ∷ one Robatic ∷ [])) ∷ [])

-- signs of the group x, each after any joiners
abbrev pub x_group : Pattern
x_group = Star (in_turn (Star joiner ∷ one Xgroup ∷ []))

abbrev pub y_group : Pattern
y_group = Star (one Ygroup)

-- at most one vowel of each place, and signs between them
abbrev pub matra_group : Pattern
matra_group = in_turn
    (opt (one VPre) ∷ x_group ∷ opt (one VBlw) ∷ x_group ∷ opt (in_turn (opt joiner ∷ one VAbv ∷ [])) ∷ x_group ∷ opt (one VPst) ∷ [])

-- vowels and signs, a letter below them, and the last signs
abbrev pub syllable_tail : Pattern
syllable_tail = in_turn (x_group ∷ matra_group ∷ x_group ∷ opt (in_turn (one H ∷ letter ∷ [])) ∷ y_group ∷ [])

-- what follows a base: letters below it, and a coeng or a tail
abbrev pub broken_cluster : Pattern
broken_cluster = in_turn (opt (one Robatic) ∷ Star (in_turn (one H ∷ robatic_letter ∷ [])) ∷ Or (one H) syllable_tail ∷ [])

abbrev pub consonant_syllable : Pattern
consonant_syllable = in_turn (any_of (robatic_letter ∷ one PLACEHOLDER ∷ one DOTTED_CIRCLE ∷ []) ∷ broken_cluster ∷ [])

-- kinds: 0 consonant, 1 broken, 2 other
abbrev pub khmer_grammar : Grammar
khmer_grammar = (0, consonant_syllable) ∷ (1, broken_cluster) ∷ []
