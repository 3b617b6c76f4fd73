-- Fields of bits side by side in a word, the lowest first, by their widths.
use Rattle.std.specs.Prelude.{ℕ, zero, suc, ◌<◌, ◌/◌, ◌%◌, ◌^◌, ◌*◌, ◌+◌, ◌==◌, Bool, List, [], ◌∷◌, if◌then◌else◌}

-- the values of the fields of a word
abbrev pub fields : List ℕ → ℕ → List ℕ
fields [] word = []
fields (width ∷ widths) word = word % 2 ^ width ∷ fields widths (word / 2 ^ width)

-- the word that has these values in its fields, and 0 in the bits above them
abbrev pub word_of : List ℕ → List ℕ → ℕ
word_of [] values = 0
word_of (width ∷ widths) [] = 0
word_of (width ∷ widths) (value ∷ values) = word_of widths values * 2 ^ width + value

-- where a field begins, and how wide it is
abbrev pub place_of : List ℕ → ℕ → ℕ
place_of [] k = 0
place_of (width ∷ widths) zero = 0
place_of (width ∷ widths) (suc k) = width + place_of widths k

abbrev pub width_of : List ℕ → ℕ → ℕ
width_of [] k = 0
width_of (width ∷ widths) zero = width
width_of (width ∷ widths) (suc k) = width_of widths k

-- how many bits the fields have
abbrev pub bits_of : List ℕ → ℕ
bits_of [] = 0
bits_of (width ∷ widths) = width + bits_of widths

-- the bits from one place on
abbrev pub field : ℕ → ℕ → ℕ → ℕ
field place width word = word / 2 ^ place % 2 ^ width

-- the word with this value in the bits from one place on
unfoldable pub with_field : ℕ → ℕ → ℕ → ℕ → ℕ
with_field place width value word = (word / 2 ^ (place + width) * 2 ^ width + value) * 2 ^ place + word % 2 ^ place

abbrev pub number_of : Bool → ℕ
number_of value = if value then 1 else 0

abbrev pub is_set : ℕ → Bool
is_set bit = bit == 1

-- values that have room in their fields, one for each
abbrev pub AreInFields : List ℕ → List ℕ → Type 0
AreInFields [] [] = Unit {0}
AreInFields [] (value ∷ values) = ⊥
AreInFields (width ∷ widths) [] = ⊥
AreInFields (width ∷ widths) (value ∷ values) = (value < 2 ^ width) × AreInFields widths values
