-- The choice of scripts and language systems, on tables that were read by hand.
use Rattle.std.specs.Prelude.{◌≡◌, ℕ, List, [], ◌∷◌, ◌++◌, Some, None, refl}
use Rattle.shape_font.specs.Worked.Glyphs.{words}
use Rattle.layout_tables.specs.Offsets.{offset16_of, offset32_of, header_offset_of}
use Rattle.layout_tables.specs.Scripts.{script_of, chosen_script, chosen_lang_sys}

-- tags
abbrev pub LATN : ℕ
LATN = 0x6C61746E

abbrev pub CYRL : ℕ
CYRL = 0x6379726C

abbrev pub DFLT : ℕ
DFLT = 0x44464C54

abbrev pub dflt : ℕ
dflt = 0x64666C74

abbrev pub ROM : ℕ
ROM = 0x524F4D20

abbrev pub TRK : ℕ
TRK = 0x54524B20

pub record WorkedOffsets : Type 0 where
  pub from_the_start : offset16_of (words (7 ∷ 258 ∷ [])) 100 2 ≡ Some 358
  pub null : offset16_of (words (7 ∷ 0 ∷ [])) 100 2 ≡ None
  pub past_the_end : offset16_of (words (7 ∷ [])) 100 2 ≡ None
  pub long : offset32_of (words (7 ∷ 1 ∷ 2 ∷ [])) 100 2 ≡ Some 65638
  pub long_null : offset32_of (words (7 ∷ 0 ∷ 0 ∷ [])) 100 2 ≡ None
  pub header : header_offset_of (words (1 ∷ 9 ∷ 77 ∷ [])) 4 ≡ Some 77
  pub other_version : header_offset_of (words (2 ∷ 0 ∷ 77 ∷ [])) 4 ≡ None

pub worked_offsets : WorkedOffsets
worked_offsets = record {
  from_the_start = refl;
  null = refl;
  past_the_end = refl;
  long = refl;
  long_null = refl;
  header = refl;
  other_version = refl;
}

-- `DFLT` at 24, which is empty, and `latn` at 28, whose language systems are at 44, of `ROM ` at 50 and of `TRK ` at 56
abbrev pub two_scripts : List ℕ
two_scripts = words (1 ∷ 0 ∷ 10 ∷ 0 ∷ 0 ∷ 2 ∷ 0x4446 ∷ 0x4C54 ∷ 14 ∷ 0x6C61 ∷ 0x746E ∷ 18
    ∷ 0 ∷ 0
    ∷ 16 ∷ 2 ∷ 0x524F ∷ 0x4D20 ∷ 22 ∷ 0x5452 ∷ 0x4B20 ∷ 28
    ∷ 0 ∷ 65535 ∷ 0 ∷ 0 ∷ 65535 ∷ 0 ∷ 0 ∷ 65535 ∷ 0 ∷ [])

-- a table with these scripts, all at one place after the list
abbrev pub one_script : ℕ → ℕ → List ℕ
one_script first second = words (1 ∷ 0 ∷ 10 ∷ 0 ∷ 0 ∷ 1 ∷ first ∷ second ∷ 8 ∷ 0 ∷ 0 ∷ [])

abbrev pub script_pair : ℕ → ℕ → ℕ → ℕ → List ℕ
script_pair first second third fourth = words (1 ∷ 0 ∷ 10 ∷ 0 ∷ 0 ∷ 2 ∷ first ∷ second ∷ 14 ∷ third ∷ fourth ∷ 14 ∷ 0 ∷ 0 ∷ [])

pub record WorkedScriptChoice : Type 0 where
  pub first_script : script_of two_scripts DFLT ≡ Some 24
  pub second_script : script_of two_scripts LATN ≡ Some 28
  pub no_script : script_of two_scripts CYRL ≡ None
  -- 5 bytes are no record
  pub no_room_for_a_script : script_of (words (1 ∷ 0 ∷ 10 ∷ 0 ∷ 0 ∷ 1 ∷ 0x6C61 ∷ 0x746E ∷ []) ++ 1 ∷ []) LATN ≡ None
  pub preferred : chosen_script two_scripts (LATN ∷ DFLT ∷ []) ≡ Some LATN
  pub first_that_is_there : chosen_script two_scripts (CYRL ∷ LATN ∷ []) ≡ Some LATN
  pub default : chosen_script two_scripts (CYRL ∷ []) ≡ Some DFLT
  pub without_tags : chosen_script two_scripts [] ≡ Some DFLT
  pub misspelt_default : chosen_script (one_script 0x6466 0x6C74) (CYRL ∷ []) ≡ Some dflt
  pub default_before_misspelt : chosen_script (script_pair 0x4446 0x4C54 0x6466 0x6C74) (CYRL ∷ []) ≡ Some DFLT
  pub misspelt_before_latin : chosen_script (script_pair 0x6466 0x6C74 0x6C61 0x746E) (CYRL ∷ []) ≡ Some dflt
  pub latin_last : chosen_script (one_script 0x6C61 0x746E) (CYRL ∷ []) ≡ Some LATN
  pub none_of_these : chosen_script (one_script 0x6379 0x726C) (LATN ∷ []) ≡ None
  pub other_version : chosen_script (words (2 ∷ 0 ∷ 10 ∷ 0 ∷ 0 ∷ 1 ∷ 0x6C61 ∷ 0x746E ∷ 8 ∷ 0 ∷ 0 ∷ [])) (LATN ∷ []) ≡ None
  -- a script whose offset is NULL is chosen all the same
  pub null_script : chosen_script (words (1 ∷ 0 ∷ 10 ∷ 0 ∷ 0 ∷ 1 ∷ 0x6C61 ∷ 0x746E ∷ 0 ∷ [])) (LATN ∷ []) ≡ Some LATN
  pub null_script_place : script_of (words (1 ∷ 0 ∷ 10 ∷ 0 ∷ 0 ∷ 1 ∷ 0x6C61 ∷ 0x746E ∷ 0 ∷ [])) LATN ≡ None

pub worked_script_choice : WorkedScriptChoice
worked_script_choice = record {
  first_script = refl;
  second_script = refl;
  no_script = refl;
  no_room_for_a_script = refl;
  preferred = refl;
  first_that_is_there = refl;
  default = refl;
  without_tags = refl;
  misspelt_default = refl;
  default_before_misspelt = refl;
  misspelt_before_latin = refl;
  latin_last = refl;
  none_of_these = refl;
  other_version = refl;
  null_script = refl;
  null_script_place = refl;
}

-- `latn` at 18: its default language system is at 34, that of `dflt` at 40, that of `TRK ` where an offset says
abbrev pub with_dflt : ℕ → List ℕ
with_dflt turkish = words (1 ∷ 0 ∷ 10 ∷ 0 ∷ 0 ∷ 1 ∷ 0x6C61 ∷ 0x746E ∷ 8
    ∷ 16 ∷ 2 ∷ 0x5452 ∷ 0x4B20 ∷ turkish ∷ 0x6466 ∷ 0x6C74 ∷ 22
    ∷ 0 ∷ 65535 ∷ 0 ∷ 0 ∷ 65535 ∷ 0 ∷ [])

pub record WorkedLanguageChoice : Type 0 where
  pub first_language : chosen_lang_sys two_scripts LATN (ROM ∷ []) ≡ Some 50
  pub second_language : chosen_lang_sys two_scripts LATN (TRK ∷ []) ≡ Some 56
  pub preferred : chosen_lang_sys two_scripts LATN (TRK ∷ ROM ∷ []) ≡ Some 56
  pub first_that_is_there : chosen_lang_sys two_scripts LATN (CYRL ∷ TRK ∷ []) ≡ Some 56
  pub default : chosen_lang_sys two_scripts LATN (CYRL ∷ []) ≡ Some 44
  pub without_tags : chosen_lang_sys two_scripts LATN [] ≡ Some 44
  pub null_default : chosen_lang_sys two_scripts DFLT [] ≡ None
  pub no_script : chosen_lang_sys two_scripts CYRL (TRK ∷ []) ≡ None
  pub dflt_before_the_default : chosen_lang_sys (with_dflt 16) LATN (ROM ∷ []) ≡ Some 40
  pub language_before_dflt : chosen_lang_sys (with_dflt 16) LATN (TRK ∷ []) ≡ Some 34
  -- a language whose offset is NULL is chosen all the same, and has nothing
  pub null_language : chosen_lang_sys (with_dflt 0) LATN (TRK ∷ []) ≡ None

pub worked_language_choice : WorkedLanguageChoice
worked_language_choice = record {
  first_language = refl;
  second_language = refl;
  preferred = refl;
  first_that_is_there = refl;
  default = refl;
  without_tags = refl;
  null_default = refl;
  no_script = refl;
  dflt_before_the_default = refl;
  language_before_dflt = refl;
  null_language = refl;
}
