-- The languages that a font names by numbers (TrueType Reference Manual, "The 'ltag' table"), and whether one of them is that of a text.
use Prim.Native.Nat.{zero}
use Rattle.std.specs.Prelude.{ℕ, suc, List, Bool, not, length, Option, Some, None, ◌+◌, ◌-◌, ◌*◌, ◌&&◌, ◌||◌}
use Rattle.std.specs.Prelude.{nat_eq, nat_le, nat_lt, slice_index, if◌then◌else◌}
use Rattle.std.specs.Option.{option_and_then}
use Rattle.shape_font.specs.Bytes.{fitting, u16_of, u32_of}
use Rattle.shape_font.specs.Directory.{slice_of}
use Rattle.apple_substitution.specs.declared.languages.Languages.{Languages}

-- the table ltag, and the language of the text by the bytes of its name, of which a text without a language has none
pub record Spoken : Type 0 where
  pub ltag : List ℕ
  pub text : List ℕ

abbrev pub spoken_of : Languages → Spoken
spoken_of l = record { ltag = l.ltag.now; text = l.text.now }

-- ---- the names of the table

-- a table of version 1 or a later one says how many names there are, of four bytes each
abbrev pub name_count : List ℕ → ℕ
name_count t = if nat_eq (u32_of t 0) 0 then 0 else fitting t (u32_of t 8) 12 4

-- a name begins so many bytes from the beginning of the table, and has so many bytes; one without a first byte is none
abbrev pub has_letters : List ℕ → Option (List ℕ)
has_letters name = if nat_eq (slice_index name 0) 0 then None else Some name

abbrev pub name_at : List ℕ → ℕ → Option (List ℕ)
name_at t at = option_and_then has_letters (slice_of t (u16_of t at) (u16_of t (at + 2)))

abbrev pub name_of : List ℕ → ℕ → Option (List ℕ)
name_of t i = if nat_lt i (name_count t) then name_at t (12 + 4 * i) else None

-- ---- names as HarfBuzz spells them: small letters, digits, and a hyphen (45) also for a low line (95). Any other byte ends a name

abbrev pub is_between : ℕ → ℕ → ℕ → Bool
is_between low high b = nat_le low b && nat_le b high

abbrev pub HYPHEN : ℕ
HYPHEN = 45

abbrev pub spelled : ℕ → ℕ
spelled b = if is_between 97 122 b || is_between 48 57 b || nat_eq b HYPHEN then b
    else (if is_between 65 90 b then b + 32
    else (if nat_eq b 95 then HYPHEN
    else 0))

-- the letter at a place, 0 past the end
abbrev pub letter_at : List ℕ → ℕ → ℕ
letter_at name at = spelled (slice_index name at)

-- ---- whether a text is in a language: its own name is that of the language, or goes on with a subtag

abbrev pub ends_at : List ℕ → ℕ → Bool
ends_at name at = nat_eq (letter_at name at) 0 || nat_eq (letter_at name at) HYPHEN

-- by n letters from a place on
abbrev pub is_in_from : List ℕ → List ℕ → ℕ → ℕ → Bool
is_in_from language text zero at = ends_at text at
is_in_from language text (suc n) at = if nat_eq (letter_at language at) 0 then ends_at text at
    else nat_eq (letter_at language at) (letter_at text at) && is_in_from language text n (at + 1)

-- a name of the table has so many letters at most
abbrev pub MOST_LETTERS : ℕ
MOST_LETTERS = 63

unfoldable pub is_in : List ℕ → List ℕ → Bool
is_in language text = is_in_from language text MOST_LETTERS 0

-- a text without a language is in the one that the table lacks, and in no other
abbrev pub matches : Option (List ℕ) → List ℕ → Bool
matches None text = nat_eq (length text) 0
matches (Some language) text = not (nat_eq (length text) 0) && is_in language text

-- settings of type 39 are the languages of the table, from 1 on
abbrev pub is_spoken : Spoken → ℕ → Bool
is_spoken l setting = not (nat_eq setting 0) && matches (name_of l.ltag (setting - 1)) l.text
