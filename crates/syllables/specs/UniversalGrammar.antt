-- The syllables of the Universal Shaping Engine, by the rules of its specification as HarfBuzz has them.
use Rattle.std.specs.Prelude.{ℕ, List, [], ◌∷◌}
use Rattle.syllables.specs.Pattern.{Pattern, One, Then, Or, Star, opt, plus, in_turn, any_of}
use Rattle.syllables.specs.Grammar.{Grammar}
use Rattle.syllables.specs.UniversalCategories.{O, B, N, GB, CGJ, SUB, H, HN, ZWNJ, WJ, R, VPre, VMPre, FAbv, FBlw, FPst, MAbv, MBlw, MPst, MPre}
use Rattle.syllables.specs.UniversalCategories.{CMAbv, CMBlw, VAbv, VBlw, VPst, VMAbv, VMBlw, VMPst, SMAbv, SMBlw, CS, IS, FMAbv, FMBlw, FMPst, Sk, G}
use Rattle.syllables.specs.UniversalCategories.{J, SB, SE, HVM, HM, HR, RK}

-- a character of one of some categories; CGJs behind it stay with it
abbrev pub one_of : List ℕ → Pattern
one_of cs = Then (One cs) (Star (One (CGJ ∷ [])))

abbrev pub one : ℕ → Pattern
one c = one_of (c ∷ [])

-- at most one, and any number
abbrev pub maybe : ℕ → Pattern
maybe c = opt (one c)

abbrev pub many : ℕ → Pattern
many c = Star (one c)

-- what makes a consonant join the next one
abbrev pub halant : Pattern
halant = one_of (H ∷ HVM ∷ IS ∷ Sk ∷ [])

abbrev pub own_modifiers : Pattern
own_modifiers = in_turn (many CMAbv ∷ many CMBlw ∷ [])

-- modifiers of the base, and the consonants below it, each with its own
abbrev pub consonant_modifiers : Pattern
consonant_modifiers = in_turn (own_modifiers ∷ Star (in_turn (Or (in_turn (halant ∷ one B ∷ [])) (one SUB) ∷ own_modifiers ∷ [])) ∷ [])

abbrev pub medial_consonants : Pattern
medial_consonants = in_turn (maybe MPre ∷ maybe MAbv ∷ maybe MBlw ∷ maybe MPst ∷ [])

-- vowels, or a halant that shows
abbrev pub dependent_vowels : Pattern
dependent_vowels = Or (in_turn (many VPre ∷ many VAbv ∷ many VBlw ∷ many VPst ∷ [])) (one H)

abbrev pub vowel_modifiers : Pattern
vowel_modifiers = in_turn (maybe HVM ∷ many VMPre ∷ many VMAbv ∷ many VMBlw ∷ many VMPst ∷ [])

abbrev pub final_consonants : Pattern
final_consonants = in_turn (many FAbv ∷ many FBlw ∷ many FPst ∷ [])

abbrev pub final_modifiers : Pattern
final_modifiers = Or (in_turn (many FMAbv ∷ many FMBlw ∷ [])) (maybe FMPst)

-- a base, after a repha or a consonant with stacker
abbrev pub start : Pattern
start = in_turn (opt (one_of (R ∷ CS ∷ [])) ∷ one_of (B ∷ GB ∷ []) ∷ [])

-- up to the modifiers of vowels, and consonants that sakot joins behind them
abbrev pub middle : Pattern
middle = in_turn (consonant_modifiers ∷ medial_consonants ∷ dependent_vowels ∷ vowel_modifiers ∷ Star (in_turn (one Sk ∷ one B ∷ [])) ∷ [])

-- what follows the base of a standard cluster
abbrev pub standard_tail : Pattern
standard_tail = in_turn (middle ∷ final_consonants ∷ final_modifiers ∷ [])

-- of one that an invisible stacker or a killer that repeats ends
abbrev pub virama_terminated_tail : Pattern
virama_terminated_tail = in_turn (consonant_modifiers ∷ one_of (IS ∷ RK ∷ []) ∷ [])

-- of one that sakot ends
abbrev pub sakot_terminated_tail : Pattern
sakot_terminated_tail = in_turn (middle ∷ one Sk ∷ [])

-- of a symbol
abbrev pub symbol_tail : Pattern
symbol_tail = Or (in_turn (plus (one SMAbv) ∷ many SMBlw ∷ [])) (plus (one SMBlw))

-- of a number that a joiner ends
abbrev pub number_joiner_terminated_tail : Pattern
number_joiner_terminated_tail = in_turn (Star (in_turn (one HN ∷ one N ∷ [])) ∷ one HN ∷ [])

-- of a number
abbrev pub numeral_tail : Pattern
numeral_tail = plus (in_turn (one HN ∷ one N ∷ []))

abbrev pub any_tail : Pattern
any_tail = any_of (standard_tail ∷ sakot_terminated_tail ∷ symbol_tail ∷ virama_terminated_tail ∷ [])

-- a hieroglyph in segments, turned and modified
abbrev pub hieroglyph : Pattern
hieroglyph = in_turn (one G ∷ maybe HR ∷ maybe HM ∷ many SE ∷ [])

-- each kind of syllable but two may end with a ZWNJ
abbrev pub ended : Pattern → Pattern
ended p = in_turn (p ∷ maybe ZWNJ ∷ [])

abbrev pub virama_terminated_cluster : Pattern
virama_terminated_cluster = ended (in_turn (start ∷ virama_terminated_tail ∷ []))

abbrev pub sakot_terminated_cluster : Pattern
sakot_terminated_cluster = ended (in_turn (start ∷ sakot_terminated_tail ∷ []))

abbrev pub standard_cluster : Pattern
standard_cluster = ended (in_turn (start ∷ standard_tail ∷ []))

abbrev pub number_joiner_terminated_cluster : Pattern
number_joiner_terminated_cluster = ended (in_turn (one N ∷ number_joiner_terminated_tail ∷ []))

abbrev pub numeral_cluster : Pattern
numeral_cluster = ended (in_turn (one N ∷ opt numeral_tail ∷ []))

abbrev pub symbol_cluster : Pattern
symbol_cluster = ended (in_turn (one_of (O ∷ GB ∷ SB ∷ []) ∷ opt any_tail ∷ []))

-- hieroglyphs that joiners hold together
abbrev pub hieroglyph_cluster : Pattern
hieroglyph_cluster = ended (in_turn (many SB ∷ hieroglyph ∷ Star (in_turn (one J ∷ many SB ∷ opt hieroglyph ∷ [])) ∷ []))

-- a tail without a base
abbrev pub broken_cluster : Pattern
broken_cluster = ended (in_turn (maybe R ∷ any_of (any_tail ∷ number_joiner_terminated_tail ∷ numeral_tail ∷ []) ∷ []))

-- a single character of any category
abbrev pub any_character : Pattern
any_character = one_of
    (O ∷ B ∷ N ∷ GB ∷ SUB ∷ H ∷ HN ∷ ZWNJ ∷ WJ ∷ R ∷ VPre ∷ VMPre ∷ FAbv ∷ FBlw ∷ FPst ∷ MAbv ∷ MBlw ∷ MPst ∷ MPre ∷ CMAbv ∷ CMBlw
    ∷ VAbv ∷ VBlw ∷ VPst ∷ VMAbv ∷ VMBlw ∷ VMPst ∷ SMAbv ∷ SMBlw ∷ CS ∷ IS ∷ FMAbv ∷ FMBlw ∷ FMPst ∷ Sk ∷ G ∷ J ∷ SB ∷ SE ∷ HVM ∷ HM
    ∷ HR ∷ RK ∷ [])

-- kinds: 0 virama-terminated, 1 sakot-terminated, 2 standard, 3 number joiner-terminated, 4 numeral, 5 symbol, 6 hieroglyph, 7 broken,
-- 8 no cluster
abbrev pub universal_grammar : Grammar
universal_grammar =
    (0, virama_terminated_cluster) ∷ (1, sakot_terminated_cluster) ∷ (2, standard_cluster) ∷ (3, number_joiner_terminated_cluster)
    ∷ (4, numeral_cluster) ∷ (5, symbol_cluster) ∷ (6, hieroglyph_cluster) ∷ (8, one FMPst) ∷ (7, broken_cluster) ∷ (8, any_character) ∷ []
