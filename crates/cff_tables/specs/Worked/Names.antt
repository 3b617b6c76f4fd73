-- charsets and names of glyphs, on bytes that were read by hand
use Rattle.std.specs.Prelude.{◌≡◌, ℕ, List, [], ◌∷◌, true, false, Some, None, refl}
use Rattle.cff_tables.specs.Charset.{name_number, own_name, string_of, own_glyph, coded_glyph}
use Rattle.cff_tables.specs.Font.{name_of}
use Rattle.cff_tables.specs.Worked.Tables.{small_font}
use Rattle.cff_tables.specs.declared.font.Layout.{Layout}

-- after three bytes: format 0 with names 34 and 400, format 1 with 34 to 36 and 400, format 2 with 34 to 293 and 400
abbrev pub listed : List ℕ
listed = 9 ∷ 9 ∷ 9 ∷ 0 ∷ 0 ∷ 34 ∷ 1 ∷ 144 ∷ []

abbrev pub ranged : List ℕ
ranged = 9 ∷ 9 ∷ 9 ∷ 1 ∷ 0 ∷ 34 ∷ 2 ∷ 1 ∷ 144 ∷ 0 ∷ []

abbrev pub widely_ranged : List ℕ
widely_ranged = 9 ∷ 9 ∷ 9 ∷ 2 ∷ 0 ∷ 34 ∷ 1 ∷ 3 ∷ 1 ∷ 144 ∷ 0 ∷ 0 ∷ []

pub record WorkedCharsets : Type 0 where
  pub iso_adobe : name_number [] 0 228 ≡ 228
  pub past_iso_adobe : name_number [] 0 229 ≡ 0
  pub expert : name_number [] 1 2 ≡ 229
  pub last_expert : name_number [] 1 165 ≡ 378
  pub past_expert : name_number [] 1 166 ≡ 0
  pub expert_subset : name_number [] 2 2 ≡ 231
  pub last_of_the_subset : name_number [] 2 86 ≡ 346
  pub notdef : own_name listed 3 0 ≡ 0
  pub first_listed : own_name listed 3 1 ≡ 34
  pub second_listed : own_name listed 3 2 ≡ 400
  pub first_ranged : own_name ranged 3 1 ≡ 34
  pub last_ranged : own_name ranged 3 3 ≡ 36
  pub second_range : own_name ranged 3 4 ≡ 400
  pub widely : own_name widely_ranged 3 260 ≡ 293
  pub after_it : own_name widely_ranged 3 261 ≡ 400
  pub another_format : own_name (9 ∷ 9 ∷ 9 ∷ 3 ∷ 0 ∷ 34 ∷ []) 3 1 ≡ 0
  pub a_charset_of_the_font : name_number ranged 3 2 ≡ 35

pub record WorkedStrings : Type 0 where
  pub notdef : string_of [] 0 0 ≡ Some (0x2E ∷ 0x6E ∷ 0x6F ∷ 0x74 ∷ 0x64 ∷ 0x65 ∷ 0x66 ∷ [])
  pub letter : string_of [] 0 34 ≡ Some (65 ∷ [])
  -- Semibold
  pub last_standard : string_of [] 0 390 ≡ Some (0x53 ∷ 0x65 ∷ 0x6D ∷ 0x69 ∷ 0x62 ∷ 0x6F ∷ 0x6C ∷ 0x64 ∷ [])
  pub first_own : string_of (0 ∷ 1 ∷ 1 ∷ 1 ∷ 2 ∷ 88 ∷ []) 0 391 ≡ Some (88 ∷ [])
  pub no_second_own : string_of (0 ∷ 1 ∷ 1 ∷ 1 ∷ 2 ∷ 88 ∷ []) 0 392 ≡ None

-- code 65 is A, name 34; code 193 is grave, name 124; code 245 is dotlessi, name 145
pub record WorkedCodes : Type 0 where
  pub in_a_list : coded_glyph listed 3 3 65 ≡ 1
  pub in_a_range : coded_glyph ranged 3 5 66 ≡ 2
  pub in_a_wide_range : coded_glyph widely_ranged 3 262 193 ≡ 91
  pub past_the_list : coded_glyph listed 3 1 65 ≡ 0
  pub past_the_ranges : coded_glyph ranged 3 1 65 ≡ 0
  pub not_named : coded_glyph ranged 3 5 193 ≡ 0
  pub in_iso_adobe : coded_glyph [] 0 300 193 ≡ 124
  pub past_228_in_iso_adobe : coded_glyph [] 0 300 245 ≡ 0
  pub not_in_expert : coded_glyph [] 1 300 65 ≡ 0
  pub no_such_code : coded_glyph listed 3 3 0 ≡ 0
  pub past_all_codes : coded_glyph listed 3 3 256 ≡ 0
  pub last_listed_glyph : own_glyph listed 3 3 400 ≡ 2

abbrev pub small_layout : Layout
small_layout = record {
  wide = false;
  cid = false;
  glyph_count = 2;
  char_strings = 29;
  global = 24;
  local = 39;
  charset = 26;
  strings = 22;
  fd_array = 0;
  fd_select = 0;
  vstore = 0;
}

pub record WorkedNames : Type 0 where
  pub letter : name_of small_font small_layout 1 ≡ Some (65 ∷ [])
  pub past_the_last : name_of small_font small_layout 2 ≡ None
  pub in_a_cid_font : name_of small_font (record small_layout { cid = true }) 1 ≡ None
  pub in_cff2 : name_of small_font (record small_layout { wide = true }) 1 ≡ None

pub worked_charsets : WorkedCharsets
worked_charsets = record {
  iso_adobe = refl;
  past_iso_adobe = refl;
  expert = refl;
  last_expert = refl;
  past_expert = refl;
  expert_subset = refl;
  last_of_the_subset = refl;
  notdef = refl;
  first_listed = refl;
  second_listed = refl;
  first_ranged = refl;
  last_ranged = refl;
  second_range = refl;
  widely = refl;
  after_it = refl;
  another_format = refl;
  a_charset_of_the_font = refl;
}

pub worked_strings : WorkedStrings
worked_strings = record {
  notdef = refl;
  letter = refl;
  last_standard = refl;
  first_own = refl;
  no_second_own = refl;
}

pub worked_codes : WorkedCodes
worked_codes = record {
  in_a_list = refl;
  in_a_range = refl;
  in_a_wide_range = refl;
  past_the_list = refl;
  past_the_ranges = refl;
  not_named = refl;
  in_iso_adobe = refl;
  past_228_in_iso_adobe = refl;
  not_in_expert = refl;
  no_such_code = refl;
  past_all_codes = refl;
  last_listed_glyph = refl;
}

pub worked_names : WorkedNames
worked_names = record {
  letter = refl;
  past_the_last = refl;
  in_a_cid_font = refl;
  in_cff2 = refl;
}
