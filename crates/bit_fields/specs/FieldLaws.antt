-- What holds of fields side by side, for words of any number of bits.
use Rattle.std.specs.Prelude.{◌≡◌, ℕ, ◌<◌, ◌≤◌, ◌+◌, ◌-◌, ◌*◌, ◌^◌, List, ◌++◌, length, get_or, set}
use Rattle.std.specs.Int.RustNames.{bit_and, bit_or}
use Rattle.bit_fields.specs.Fields.{fields, word_of, place_of, width_of, bits_of, field, with_field, AreInFields}

-- the one law that every accessor rests on
abbrev pub PutFieldChangesAlone : Type 0
PutFieldChangesAlone =
    (widths : List ℕ) (k value word : ℕ) → k < length widths → value < 2 ^ width_of widths k
    → fields widths (with_field (place_of widths k) (width_of widths k) value word) ≡ set (fields widths word) k value

abbrev pub FieldIsReadAtItsPlace : Type 0
FieldIsReadAtItsPlace =
    (widths : List ℕ) (k word : ℕ) → k < length widths
    → get_or (fields widths word) k 0 ≡ field (place_of widths k) (width_of widths k) word

abbrev pub WordIsMadeOfItsFields : Type 0
WordIsMadeOfItsFields =
    (widths : List ℕ) (word : ℕ) → word < 2 ^ bits_of widths → word_of widths (fields widths word) ≡ word

abbrev pub FieldsAreThoseOfTheirWord : Type 0
FieldsAreThoseOfTheirWord =
    (widths values : List ℕ) → AreInFields widths values → fields widths (word_of widths values) ≡ values

abbrev pub EqualFieldsEqualWords : Type 0
EqualFieldsEqualWords =
    (widths : List ℕ) (word other : ℕ) → word < 2 ^ bits_of widths → other < 2 ^ bits_of widths
    → fields widths word ≡ fields widths other → word ≡ other

abbrev pub FieldsJoin : Type 0
FieldsJoin =
    (lower upper : List ℕ) (low high : ℕ) → low < 2 ^ bits_of lower
    → fields (lower ++ upper) (high * 2 ^ bits_of lower + low) ≡ fields lower low ++ fields upper high

abbrev pub PutFieldStaysInWord : Type 0
PutFieldStaysInWord =
    (bits place width value word : ℕ) → place + width ≤ bits → value < 2 ^ width → word < 2 ^ bits
    → with_field place width value word < 2 ^ bits

abbrev pub MaskPutsField : Type 0
MaskPutsField =
    (bits place width value word : ℕ) → place + width ≤ bits → word < 2 ^ bits → value < 2 ^ width
    → bit_or (bit_and word (2 ^ bits - 1 - (2 ^ width - 1) * 2 ^ place)) (value * 2 ^ place) ≡ with_field place width value word
