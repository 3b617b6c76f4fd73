-- Languages that a font names, and whether a text is in one, by hand. Names are bytes: 101 ∷ 110 is "en".
use Rattle.std.specs.Prelude.{◌≡◌, ℕ, List, [], ◌∷◌, ◌++◌, Some, None, true, false, replicate, refl}
use Rattle.shape_font.specs.Worked.Glyphs.{words}
use Rattle.apple_substitution.specs.Languages.{ends_at, has_letters, is_between, is_in, is_in_from, is_spoken, letter_at, matches}
use Rattle.apple_substitution.specs.Languages.{name_at, name_count, name_of, spelled}

abbrev EN : List ℕ
EN = 101 ∷ 110 ∷ []

abbrev SP : List ℕ
SP = 115 ∷ 112 ∷ []

abbrev SR : List ℕ
SR = 115 ∷ 114 ∷ []

-- a table of some version, that says how many names there are, and has three: "en", "sp" and "sr"
abbrev table : ℕ → ℕ → List ℕ
table version count = words (0 ∷ version ∷ 0 ∷ 0 ∷ 0 ∷ count ∷ 24 ∷ 2 ∷ 26 ∷ 2 ∷ 28 ∷ 2 ∷ []) ++ EN ++ SP ++ SR

pub record WorkedNames : Type 0 where
  pub count : name_count (table 1 3) ≡ 3
  pub version_0 : name_count (table 0 3) ≡ 0
  pub later_version : name_count (table 2 3) ≡ 3
  -- there is room for four records behind twelve bytes
  pub count_that_fits : name_count (table 1 9) ≡ 4
  pub first : name_of (table 1 3) 0 ≡ Some EN
  pub second : name_of (table 1 3) 1 ≡ Some SP
  pub last : name_of (table 1 3) 2 ≡ Some SR
  pub past_the_last : name_of (table 1 2) 2 ≡ None
  pub no_table : name_of [] 0 ≡ None
  -- by where it begins, and by its length
  pub to_the_end : name_at (0 ∷ 3 ∷ 0 ∷ 2 ∷ 97 ∷ []) 0 ≡ Some (2 ∷ 97 ∷ [])
  pub past_the_end : name_at (0 ∷ 3 ∷ 0 ∷ 3 ∷ 97 ∷ []) 0 ≡ None
  pub empty : has_letters [] ≡ None
  pub begins_with_0 : has_letters (0 ∷ 97 ∷ []) ≡ None
  pub some : has_letters (97 ∷ 0 ∷ []) ≡ Some (97 ∷ 0 ∷ [])

pub worked_names : WorkedNames
worked_names = record {
  count = refl;
  version_0 = refl;
  later_version = refl;
  count_that_fits = refl;
  first = refl;
  second = refl;
  last = refl;
  past_the_last = refl;
  no_table = refl;
  to_the_end = refl;
  past_the_end = refl;
  empty = refl;
  begins_with_0 = refl;
  some = refl;
}

pub record WorkedLetters : Type 0 where
  pub inside : is_between 3 5 3 ≡ true
  pub below : is_between 3 5 2 ≡ false
  pub above : is_between 3 5 6 ≡ false
  pub a : spelled 97 ≡ 97
  pub z : spelled 122 ≡ 122
  pub capital_a : spelled 65 ≡ 97
  pub capital_z : spelled 90 ≡ 122
  pub digit_0 : spelled 48 ≡ 48
  pub digit_9 : spelled 57 ≡ 57
  pub hyphen : spelled 45 ≡ 45
  pub low_line : spelled 95 ≡ 45
  pub full_stop : spelled 46 ≡ 0
  pub slash : spelled 47 ≡ 0
  pub colon : spelled 58 ≡ 0
  pub at_sign : spelled 64 ≡ 0
  pub bracket : spelled 91 ≡ 0
  pub grave : spelled 96 ≡ 0
  pub brace : spelled 123 ≡ 0
  pub letter : letter_at (69 ∷ 78 ∷ []) 1 ≡ 110
  pub past_the_end : letter_at EN 2 ≡ 0
  pub ends : ends_at EN 2 ≡ true
  pub ends_at_a_subtag : ends_at (101 ∷ 110 ∷ 95 ∷ 71 ∷ 66 ∷ []) 2 ≡ true
  pub goes_on : ends_at EN 1 ≡ false

pub worked_letters : WorkedLetters
worked_letters = record {
  inside = refl;
  below = refl;
  above = refl;
  a = refl;
  z = refl;
  capital_a = refl;
  capital_z = refl;
  digit_0 = refl;
  digit_9 = refl;
  hyphen = refl;
  low_line = refl;
  full_stop = refl;
  slash = refl;
  colon = refl;
  at_sign = refl;
  bracket = refl;
  grave = refl;
  brace = refl;
  letter = refl;
  past_the_end = refl;
  ends = refl;
  ends_at_a_subtag = refl;
  goes_on = refl;
}

-- "en-gb", "EN_gb.utf8", "eng", and "e"
abbrev british : List ℕ
british = 101 ∷ 110 ∷ 45 ∷ 103 ∷ 98 ∷ []

abbrev british_by_posix : List ℕ
british_by_posix = 69 ∷ 78 ∷ 95 ∷ 103 ∷ 98 ∷ 46 ∷ 117 ∷ 116 ∷ 102 ∷ 56 ∷ []

abbrev eng : List ℕ
eng = 101 ∷ 110 ∷ 103 ∷ []

pub record WorkedMatches : Type 0 where
  pub same : is_in EN EN ≡ true
  pub more_specific : is_in EN british ≡ true
  pub less_specific : is_in british EN ≡ false
  pub spelled_in_other_ways : is_in british british_by_posix ≡ true
  pub and_the_other_way : is_in british_by_posix british ≡ true
  pub longer_subtag : is_in EN eng ≡ false
  pub shorter_subtag : is_in eng EN ≡ false
  pub other : is_in EN SP ≡ false
  pub other_second_letter : is_in SP SR ≡ false
  -- of a name of the table 63 letters count
  pub most_letters : is_in (replicate 64 97) (replicate 63 97) ≡ true
  pub more_of_the_text : is_in (replicate 64 97) (replicate 64 97) ≡ false
  pub from_a_place : is_in_from (98 ∷ 101 ∷ []) (97 ∷ 101 ∷ 45 ∷ []) 9 1 ≡ true
  pub no_letters_left : is_in_from EN SP 0 2 ≡ true
  pub neither : matches None [] ≡ true
  pub no_language : matches None EN ≡ false
  pub no_language_of_the_text : matches (Some EN) [] ≡ false
  -- a name without letters is no longer one
  pub no_letters : matches (Some (33 ∷ [])) [] ≡ false
  pub both : matches (Some EN) british ≡ true
  pub not_both : matches (Some EN) SP ≡ false
  -- setting 1 is the first name
  pub first_setting : is_spoken (record { ltag = table 1 3; text = british }) 1 ≡ true
  pub second_setting : is_spoken (record { ltag = table 1 3; text = british }) 2 ≡ false
  pub setting_0 : is_spoken (record { ltag = []; text = [] }) 0 ≡ false
  pub setting_of_no_name : is_spoken (record { ltag = table 1 3; text = [] }) 4 ≡ true

pub worked_matches : WorkedMatches
unfolding is_in
worked_matches = record {
  same = refl;
  more_specific = refl;
  less_specific = refl;
  spelled_in_other_ways = refl;
  and_the_other_way = refl;
  longer_subtag = refl;
  shorter_subtag = refl;
  other = refl;
  other_second_letter = refl;
  most_letters = refl;
  more_of_the_text = refl;
  from_a_place = refl;
  no_letters_left = refl;
  neither = refl;
  no_language = refl;
  no_language_of_the_text = refl;
  no_letters = refl;
  both = refl;
  not_both = refl;
  first_setting = refl;
  second_setting = refl;
  setting_0 = refl;
  setting_of_no_name = refl;
}
