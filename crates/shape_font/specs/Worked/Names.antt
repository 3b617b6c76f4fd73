-- Names of glyphs, on tables that were read by hand.
use Rattle.std.specs.Prelude.{◌≡◌, ℕ, List, [], ◌∷◌, ◌++◌, Some, None, replicate, refl}
use Rattle.shape_font.specs.Names.{string_start, string_at, string_of, strings_at, glyph_name}
use Rattle.shape_font.specs.declared.names.TheConstants.{STANDARD}

-- two names that a table may leave out, X and YZ
abbrev pub left_out : List ℕ
left_out = 1 ∷ 88 ∷ 2 ∷ 89 ∷ 90 ∷ []

-- format 2 of four glyphs: the first name that is left out, then the strings A, bc and an empty one
abbrev pub four_names : List ℕ
four_names = 0 ∷ 2 ∷ 0 ∷ 0 ∷ replicate 28 0 ++ 0 ∷ 4 ∷ 0 ∷ 0 ∷ 1 ∷ 2 ∷ 1 ∷ 3 ∷ 1 ∷ 4 ∷ 1 ∷ 65 ∷ 2 ∷ 98 ∷ 99 ∷ 0 ∷ []

-- format 2 of one glyph, whose name has the number 256 and so much, and the string A
abbrev pub one_name : ℕ → List ℕ
one_name past = 0 ∷ 2 ∷ 0 ∷ 0 ∷ replicate 28 0 ++ 0 ∷ 1 ∷ 1 ∷ past ∷ 1 ∷ 65 ∷ []

pub record WorkedNames : Type 0 where
  pub one_that_is_left_out : glyph_name left_out four_names 0 ≡ Some (88 ∷ [])
  pub first_string : glyph_name left_out four_names 1 ≡ Some (65 ∷ [])
  pub second_string : glyph_name left_out four_names 2 ≡ Some (98 ∷ 99 ∷ [])
  pub empty_string : glyph_name left_out four_names 3 ≡ None
  pub past_the_list : glyph_name left_out four_names 4 ≡ None
  pub by_number : glyph_name left_out (0 ∷ 1 ∷ 0 ∷ 0 ∷ []) 1 ≡ Some (89 ∷ 90 ∷ [])
  pub past_all_that_are_left_out : glyph_name left_out (0 ∷ 1 ∷ 0 ∷ 0 ∷ []) 258 ≡ None
  pub other_format : glyph_name left_out (0 ∷ 3 ∷ 0 ∷ 0 ∷ []) 1 ≡ None
  pub no_table : glyph_name left_out [] 1 ≡ None
  -- A, and nothing at 2; a string of 5 bytes, of which one is there
  pub after_one : string_start (1 ∷ 65 ∷ []) 1 0 ≡ 2
  pub ends_with_the_table : string_start (1 ∷ 65 ∷ []) 9 0 ≡ 2
  pub ends_past_the_table : string_start (5 ∷ 65 ∷ []) 9 0 ≡ 6
  pub none_at_the_end : string_of (1 ∷ 65 ∷ []) 9 0 ≡ None
  pub past_the_end : string_of (1 ∷ 65 ∷ 2 ∷ 98 ∷ []) 1 0 ≡ None
  -- the string bc, by its place; the list of four numbers ends at 42
  pub by_place : string_at (1 ∷ 65 ∷ 2 ∷ 98 ∷ 99 ∷ []) 2 ≡ Some (98 ∷ 99 ∷ [])
  pub after_the_list : strings_at four_names ≡ 42
  -- .null
  pub second_standard_name : string_of STANDARD.now 1 0 ≡ Some (0x2E ∷ 0x6E ∷ 0x75 ∷ 0x6C ∷ 0x6C ∷ [])
  pub past_the_room : glyph_name left_out (0 ∷ 2 ∷ 0 ∷ 0 ∷ replicate 28 0 ++ 0 ∷ 9 ∷ 0 ∷ 0 ∷ []) 1 ≡ None
  pub version_2_5 : glyph_name left_out (0 ∷ 2 ∷ 0x50 ∷ 0 ∷ replicate 28 0 ++ 0 ∷ 1 ∷ 0 ∷ 0 ∷ []) 0 ≡ None
  pub no_strings_in_format_1 : glyph_name left_out (0 ∷ 1 ∷ 0 ∷ 0 ∷ replicate 30 0 ++ 1 ∷ 65 ∷ []) 258 ≡ None
  -- number 257 is the last of those that are left out, number 258 the first string
  pub last_that_is_left_out : glyph_name (replicate 257 0 ++ 1 ∷ 88 ∷ []) (one_name 1) 0 ≡ Some (88 ∷ [])
  pub after_those_left_out : glyph_name (replicate 257 0 ++ 1 ∷ 88 ∷ []) (one_name 2) 0 ≡ Some (65 ∷ [])

pub worked_names : WorkedNames
worked_names = record {
  one_that_is_left_out = refl;
  first_string = refl;
  second_string = refl;
  empty_string = refl;
  past_the_list = refl;
  by_number = refl;
  past_all_that_are_left_out = refl;
  other_format = refl;
  no_table = refl;
  after_one = refl;
  ends_with_the_table = refl;
  ends_past_the_table = refl;
  none_at_the_end = refl;
  past_the_end = refl;
  by_place = refl;
  after_the_list = refl;
  second_standard_name = refl;
  past_the_room = refl;
  version_2_5 = refl;
  no_strings_in_format_1 = refl;
  last_that_is_left_out = refl;
  after_those_left_out = refl;
}
