-- A text as a line writes it: a word for each character.
use Rattle.std.specs.Prelude.{◌≡◌, ℕ, ◌≤◌, ◌<◌, ◌^◌, List, [], ◌∷◌, ◌++◌, map, length}
use Rattle.std.specs.Char.{IsScalar, len_utf8}
use Rattle.std.specs.List.{AllByRecursion, sum_by}
use Rattle.std.specs.Str.Parse.{IsNumeral, digits_value}

-- one to six hexadecimal digits of a character
abbrev pub IsCharacterWord : List ℕ → Type 0
IsCharacterWord word = (length word ≤ 6) × IsNumeral 16 word × IsScalar (digits_value 16 word)

-- the characters that words write
abbrev pub characters : List (List ℕ) → List ℕ
characters words = map (digits_value 16) words

-- how many bytes they take in UTF-8
abbrev pub utf8_len : List (List ℕ) → ℕ
utf8_len words = sum_by len_utf8 (characters words)

-- each word writes a character, and 32 bits can count the bytes
abbrev pub IsText : List (List ℕ) → Type 0
IsText words = AllByRecursion IsCharacterWord words × (utf8_len words < 2 ^ 32)

-- two texts with a word `/` (47) between them, which writes no character
abbrev pub IsPair : List (List ℕ) → Type 0
IsPair words = (first : List (List ℕ)) × (second : List (List ℕ)) × (words ≡ first ++ (47 ∷ []) ∷ second) × IsText first × IsText second

-- a width from 0 to 4294967295, and a text
abbrev pub IsWidthAndText : List (List ℕ) → Type 0
IsWidthAndText [] = ⊥
IsWidthAndText (width ∷ text) = IsNumeral 10 width × (digits_value 10 width ≤ 4294967295) × IsText text
