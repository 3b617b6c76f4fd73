-- Flags by name, and the number of each.
use Rattle.std.specs.Prelude.{ℕ}

-- ---- of a glyph, in its mask

abbrev pub UNSAFE_TO_BREAK : ℕ
UNSAFE_TO_BREAK = 1

abbrev pub UNSAFE_TO_CONCAT : ℕ
UNSAFE_TO_CONCAT = 2

abbrev pub SAFE_TO_INSERT_TATWEEL : ℕ
SAFE_TO_INSERT_TATWEEL = 4

-- both unsafe flags
abbrev pub UNSAFE : ℕ
UNSAFE = 3

-- all except UNSAFE_TO_CONCAT
abbrev pub NOT_FOR_CONCAT : ℕ
NOT_FOR_CONCAT = 5

-- all three
abbrev pub DEFINED : ℕ
DEFINED = 7

-- ---- that a caller asks for

abbrev pub BEGINNING_OF_TEXT : ℕ
BEGINNING_OF_TEXT = 2

abbrev pub END_OF_TEXT : ℕ
END_OF_TEXT = 4

abbrev pub PRESERVE_DEFAULT_IGNORABLES : ℕ
PRESERVE_DEFAULT_IGNORABLES = 8

abbrev pub REMOVE_DEFAULT_IGNORABLES : ℕ
REMOVE_DEFAULT_IGNORABLES = 16

abbrev pub DO_NOT_INSERT_DOTTED_CIRCLE : ℕ
DO_NOT_INSERT_DOTTED_CIRCLE = 32

abbrev pub PRODUCE_UNSAFE_TO_CONCAT : ℕ
PRODUCE_UNSAFE_TO_CONCAT = 64

abbrev pub PRODUCE_SAFE_TO_INSERT_TATWEEL : ℕ
PRODUCE_SAFE_TO_INSERT_TATWEEL = 128

-- ---- of what a run has seen, its scratch flags

abbrev pub HAS_NON_ASCII : ℕ
HAS_NON_ASCII = 1

abbrev pub HAS_DEFAULT_IGNORABLES : ℕ
HAS_DEFAULT_IGNORABLES = 2

abbrev pub HAS_SPACE_FALLBACK : ℕ
HAS_SPACE_FALLBACK = 4

abbrev pub HAS_CGJ : ℕ
HAS_CGJ = 8

abbrev pub HAS_VARIATION_SELECTOR_FALLBACK : ℕ
HAS_VARIATION_SELECTOR_FALLBACK = 16

abbrev pub HAS_GLYPH_FLAGS : ℕ
HAS_GLYPH_FLAGS = 32

-- ---- of the class of a glyph

abbrev pub BASE_GLYPH : ℕ
BASE_GLYPH = 2

abbrev pub LIGATURE : ℕ
LIGATURE = 4

abbrev pub MARK : ℕ
MARK = 8

-- ---- of a feature that a plan asks for

abbrev pub F_NONE : ℕ
F_NONE = 0

abbrev pub F_GLOBAL : ℕ
F_GLOBAL = 1

abbrev pub F_HAS_FALLBACK : ℕ
F_HAS_FALLBACK = 2

abbrev pub F_MANUAL_ZWNJ : ℕ
F_MANUAL_ZWNJ = 4

abbrev pub F_MANUAL_ZWJ : ℕ
F_MANUAL_ZWJ = 8

-- both of these
abbrev pub F_MANUAL_JOINERS : ℕ
F_MANUAL_JOINERS = 12

abbrev pub F_GLOBAL_SEARCH : ℕ
F_GLOBAL_SEARCH = 16

abbrev pub F_RANDOM : ℕ
F_RANDOM = 32

abbrev pub F_PER_SYLLABLE : ℕ
F_PER_SYLLABLE = 64

-- F_GLOBAL and F_MANUAL_JOINERS
abbrev pub F_GLOBAL_MANUAL_JOINERS : ℕ
F_GLOBAL_MANUAL_JOINERS = 13

-- F_GLOBAL and F_HAS_FALLBACK
abbrev pub F_GLOBAL_HAS_FALLBACK : ℕ
F_GLOBAL_HAS_FALLBACK = 3
