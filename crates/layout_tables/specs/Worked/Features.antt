-- Features and their variations, on tables that were read by hand.
use Prim.Native.Nat.{zero}
use Rattle.std.specs.Prelude.{◌≡◌, ℕ, suc, pos, negsuc, List, [], ◌∷◌, ◌++◌, Some, None, true, false, map, refl}
use Rattle.shape_font.specs.Bytes.{i16_of}
use Rattle.shape_font.specs.Worked.Glyphs.{words}
use Rattle.layout_tables.specs.Features.{tag_place, may_hold, feature_count_of, feature_tag_of, required_feature_of, feature_index_of}
use Rattle.layout_tables.specs.Features.{listed_tag_of, any_feature_of, feature_of, feature_lookup_count_of, feature_lookup_of}
use Rattle.layout_tables.specs.Features.{KeepsTags, HoldsListed, HasOnlyFirst, HasOnlyListed}
use Rattle.layout_tables.specs.Variations.{condition_holds, set_holds, substitution_of, varied_feature_of}

-- tags
abbrev pub KERN : ℕ
KERN = 0x6B65726E

abbrev pub LIGA : ℕ
LIGA = 0x6C696761

-- features `kern` at 24 with lookup 5, and `liga` at 30 with lookups 3 and 9; a language system at 38 that requires feature 1
-- and lists features 1, 0 and 1, and one at 50 that requires none and lists feature 1
abbrev pub two_features : List ℕ
two_features = words (1 ∷ 0 ∷ 0 ∷ 10 ∷ 0 ∷ 2 ∷ 0x6B65 ∷ 0x726E ∷ 14 ∷ 0x6C69 ∷ 0x6761 ∷ 20
    ∷ 0 ∷ 1 ∷ 5
    ∷ 0 ∷ 2 ∷ 3 ∷ 9
    ∷ 0 ∷ 1 ∷ 3 ∷ 1 ∷ 0 ∷ 1
    ∷ 0 ∷ 65535 ∷ 1 ∷ 1 ∷ 0 ∷ [])

-- features `kern` and `kern`, and a language system at 24 that lists features 1 and 0
abbrev pub same_tags : List ℕ
same_tags = words (1 ∷ 0 ∷ 0 ∷ 10 ∷ 0 ∷ 2 ∷ 0x6B65 ∷ 0x726E ∷ 14 ∷ 0x6B65 ∷ 0x726E ∷ 14 ∷ 0 ∷ 65535 ∷ 2 ∷ 1 ∷ 0 ∷ [])

pub record WorkedFeatureLists : Type 0 where
  pub count : feature_count_of two_features ≡ 2
  pub count_cut : feature_count_of (words (1 ∷ 0 ∷ 0 ∷ 10 ∷ 0 ∷ 9 ∷ 0 ∷ 0 ∷ 0 ∷ 0 ∷ 0 ∷ [])) ≡ 1
  -- 5 bytes are no record, 6 are one
  pub no_room_for_a_feature : feature_count_of (words (1 ∷ 0 ∷ 0 ∷ 10 ∷ 0 ∷ 1 ∷ 0 ∷ 0 ∷ []) ++ 0 ∷ []) ≡ 0
  pub just_room : feature_count_of (words (1 ∷ 0 ∷ 0 ∷ 10 ∷ 0 ∷ 1 ∷ 0 ∷ 0 ∷ 0 ∷ [])) ≡ 1
  pub tag_without_list : feature_tag_of [] 0 ≡ 0
  pub other_version : feature_count_of (words (2 ∷ 0 ∷ 0 ∷ 10 ∷ 0 ∷ 1 ∷ 0 ∷ 0 ∷ 0 ∷ [])) ≡ 0
  pub first_tag : feature_tag_of two_features 0 ≡ KERN
  pub second_tag : feature_tag_of two_features 1 ≡ LIGA
  pub past_the_last : feature_tag_of two_features 2 ≡ 0
  pub required : required_feature_of two_features 38 ≡ Some 1
  pub none_required : required_feature_of two_features 50 ≡ None
  -- a language system needs 6 bytes, also to require feature 0
  pub required_at_the_end : required_feature_of (words (0 ∷ 0 ∷ 0 ∷ [])) 0 ≡ Some 0
  pub count_missing : required_feature_of (words (0 ∷ 0 ∷ [])) 0 ≡ None
  pub required_past_the_end : required_feature_of two_features 0xFFF0 ≡ None
  pub listed_first : feature_index_of two_features 38 LIGA ≡ Some 1
  pub listed_second : feature_index_of two_features 38 KERN ≡ Some 0
  pub past_the_list : feature_index_of two_features 50 KERN ≡ None
  -- a language system that lists feature 5, which the table doesn't have
  pub tag_0 : feature_index_of (two_features ++ words (0 ∷ 65535 ∷ 1 ∷ 5 ∷ [])) 60 0 ≡ None
  pub tag_0_of_all : any_feature_of (words (1 ∷ 0 ∷ 0 ∷ 10 ∷ 0 ∷ 1 ∷ 0 ∷ 0 ∷ 14 ∷ [])) 0 ≡ None
  pub tag_1 : any_feature_of (words (1 ∷ 0 ∷ 0 ∷ 10 ∷ 0 ∷ 1 ∷ 0 ∷ 1 ∷ 14 ∷ [])) 1 ≡ Some 0
  -- a language system that lists features 0, 0 and 1, and one that lists 1 and says that there are nine
  pub listed_third : feature_index_of (two_features ++ words (0 ∷ 65535 ∷ 3 ∷ 0 ∷ 0 ∷ 1 ∷ [])) 60 LIGA ≡ Some 1
  pub listed_last : feature_index_of (two_features ++ words (0 ∷ 65535 ∷ 9 ∷ 1 ∷ [])) 60 LIGA ≡ Some 1
  pub past_the_end_of_the_list : feature_index_of (two_features ++ words (0 ∷ 65535 ∷ 9 ∷ 1 ∷ [])) 60 KERN ≡ None
  -- one byte is no index: it isn't feature 0
  pub index_cut_off : feature_index_of (two_features ++ words (0 ∷ 65535 ∷ 1 ∷ []) ++ 0 ∷ []) 60 KERN ≡ None
  pub tag_of_the_first : listed_tag_of two_features 38 0 ≡ LIGA
  pub tag_of_the_second : listed_tag_of two_features 38 1 ≡ KERN
  pub first_of_two : feature_index_of same_tags 24 KERN ≡ Some 1
  pub first_of_all : any_feature_of same_tags KERN ≡ Some 0
  pub of_all : any_feature_of two_features LIGA ≡ Some 1
  pub nowhere : any_feature_of same_tags LIGA ≡ None
  pub first_place : feature_of two_features 0 ≡ Some 24
  pub second_place : feature_of two_features 1 ≡ Some 30
  pub no_place : feature_of two_features 2 ≡ None
  pub lookups : feature_lookup_count_of two_features 30 ≡ 2
  pub first_lookup : feature_lookup_of two_features 30 0 ≡ 3
  pub second_lookup : feature_lookup_of two_features 30 1 ≡ 9
  pub lookups_cut : feature_lookup_count_of (words (0 ∷ 9 ∷ 5 ∷ [])) 0 ≡ 1
  pub no_room_for_a_lookup : feature_lookup_count_of (words (0 ∷ 9 ∷ []) ++ 5 ∷ []) 0 ≡ 0
  -- the bit of a tag in a digest: the upper six bits of its product with 0x9E3779B1 in 32 bits
  pub bits_of_tags : map tag_place (KERN ∷ LIGA ∷ 1 ∷ 0 ∷ []) ≡ 43 ∷ 54 ∷ 39 ∷ 0 ∷ []
  -- a digest of `kern`, one of `liga`, and one of both
  pub holds_kern : map (λ digest. may_hold digest KERN) (0x80000000000 ∷ 0x40000000000000 ∷ 0x40080000000000 ∷ 0 ∷ [])
      ≡ true ∷ false ∷ true ∷ false ∷ []
  pub holds_liga : map (λ digest. may_hold digest LIGA) (0x80000000000 ∷ 0x40000000000000 ∷ 0x40080000000000 ∷ 0 ∷ [])
      ≡ false ∷ true ∷ true ∷ false ∷ []

-- digests of what a language system lists: the one at 50 lists `liga` alone, that at 38 both
pub record WorkedTagDigests : Type 0 where
  pub only_liga : HasOnlyListed two_features 50 0x40000000000000
  pub not_kern : HasOnlyListed two_features 50 0x40080000000000 → ⊥
  pub of_none : HasOnlyFirst two_features 38 0 0
  -- the first of the three that are listed is `liga`
  pub not_the_second : HasOnlyFirst two_features 38 1 0x80000000000 → ⊥
  pub not_held : HoldsListed two_features 38 0x80000000000 → ⊥
  pub lost : KeepsTags 0x40080000000000 0x80000000000 → ⊥

pub worked_feature_lists : WorkedFeatureLists
unfolding may_hold
worked_feature_lists = record {
  count = refl;
  count_cut = refl;
  no_room_for_a_feature = refl;
  just_room = refl;
  tag_without_list = refl;
  other_version = refl;
  first_tag = refl;
  second_tag = refl;
  past_the_last = refl;
  required = refl;
  none_required = refl;
  required_at_the_end = refl;
  count_missing = refl;
  required_past_the_end = refl;
  listed_first = refl;
  listed_second = refl;
  past_the_list = refl;
  tag_0 = refl;
  tag_0_of_all = refl;
  tag_1 = refl;
  listed_third = refl;
  listed_last = refl;
  past_the_end_of_the_list = refl;
  index_cut_off = refl;
  tag_of_the_first = refl;
  tag_of_the_second = refl;
  first_of_two = refl;
  first_of_all = refl;
  of_all = refl;
  nowhere = refl;
  first_place = refl;
  second_place = refl;
  no_place = refl;
  lookups = refl;
  first_lookup = refl;
  second_lookup = refl;
  lookups_cut = refl;
  no_room_for_a_lookup = refl;
  bits_of_tags = refl;
  holds_kern = refl;
  holds_liga = refl;
}

-- the header of a minor version, with one feature whose table is at 22 (in the place of the header of feature variations)
abbrev pub header : ℕ → List ℕ
header minor = words (1 ∷ minor ∷ 0 ∷ 14 ∷ 0 ∷ 0 ∷ 26 ∷ 1 ∷ 0x6B65 ∷ 0x726E ∷ 8 ∷ 0 ∷ 0 ∷ [])

-- feature variations at 26 of a major version, with two records: the set of the first is at 50, that of the second is NULL; their
-- substitutions are at 72 and at 84, of major versions
abbrev pub two_records : ℕ → ℕ → ℕ → ℕ → ℕ → List ℕ
two_records major least greatest first second = words (major ∷ 0 ∷ 0 ∷ 2 ∷ 0 ∷ 24 ∷ 0 ∷ 46 ∷ 0 ∷ 0 ∷ 0 ∷ 58
    ∷ 2 ∷ 0 ∷ 10 ∷ 0 ∷ 10 ∷ 1 ∷ 0 ∷ least ∷ greatest ∷ 0 ∷ 0
    ∷ first ∷ 0 ∷ 1 ∷ 0 ∷ 0 ∷ 300
    ∷ second ∷ 0 ∷ 2 ∷ 7 ∷ 0 ∷ 400 ∷ 0 ∷ 0 ∷ 0 ∷ [])

abbrev pub varied : ℕ → ℕ → List ℕ
varied least greatest = header 1 ++ two_records 1 least greatest 1 1

-- so many offsets of 32 bits, with these last two bytes
abbrev pub same_offsets : ℕ → ℕ → ℕ → List ℕ
same_offsets zero high low = []
same_offsets (suc n) high low = 0 ∷ 0 ∷ high ∷ low ∷ same_offsets n high low

pub record WorkedConditions : Type 0 where
  -- F2DOT14: 0xC000 is -1, 0x4000 is 1, 0xFFFF is the greatest below 0
  pub whole_axis : condition_holds (words (1 ∷ 0 ∷ 0xC000 ∷ 0x4000 ∷ [])) [] 0 ≡ true
  pub at_0 : condition_holds (words (1 ∷ 0 ∷ 0 ∷ 0 ∷ [])) [] 0 ≡ true
  pub above_0 : condition_holds (words (1 ∷ 0 ∷ 1 ∷ 0x4000 ∷ [])) [] 0 ≡ false
  pub below_0 : condition_holds (words (1 ∷ 0 ∷ 0xC000 ∷ 0xFFFF ∷ [])) [] 0 ≡ false
  pub positive_value : condition_holds (words (2 ∷ 1 ∷ 0 ∷ 0 ∷ [])) [] 0 ≡ true
  pub value_0 : condition_holds (words (2 ∷ 0 ∷ 0 ∷ 0 ∷ [])) [] 0 ≡ false
  pub negative_value : condition_holds (words (2 ∷ 0x8000 ∷ 0 ∷ 0 ∷ [])) [] 0 ≡ false
  -- axis 1 is at 1/2, from 1/4 to 1/2; a coordinate that isn't given is 0
  pub of_its_own_axis : condition_holds (words (1 ∷ 1 ∷ 0x1000 ∷ 0x2000 ∷ [])) (pos 0 ∷ pos 0x2000 ∷ []) 0 ≡ true
  pub at_the_least : condition_holds (words (1 ∷ 1 ∷ 0x1000 ∷ 0x2000 ∷ [])) (pos 0 ∷ pos 0x1000 ∷ []) 0 ≡ true
  pub below_the_least : condition_holds (words (1 ∷ 1 ∷ 0x1000 ∷ 0x2000 ∷ [])) (pos 0x1800 ∷ pos 0xFFF ∷ []) 0 ≡ false
  pub above_the_greatest : condition_holds (words (1 ∷ 1 ∷ 0x1000 ∷ 0x2000 ∷ [])) (pos 0x1800 ∷ pos 0x2001 ∷ []) 0 ≡ false
  pub below_the_default : condition_holds (words (1 ∷ 0 ∷ 0xC000 ∷ 0xE000 ∷ [])) (negsuc 0x2FFF ∷ []) 0 ≡ true
  pub no_such_axis : condition_holds (words (1 ∷ 1 ∷ 0x1000 ∷ 0x2000 ∷ [])) (pos 0x1800 ∷ []) 0 ≡ false
  pub other_format : condition_holds (words (3 ∷ 1 ∷ 0 ∷ 0 ∷ [])) [] 0 ≡ false
  pub format_0 : condition_holds (words (0 ∷ 1 ∷ 0 ∷ 0 ∷ [])) [] 0 ≡ false
  pub empty_set : set_holds (words (0 ∷ [])) [] 0 ≡ true
  pub null_condition : set_holds (words (1 ∷ 0 ∷ 0 ∷ [])) [] 0 ≡ false
  pub one_fails : set_holds (words (2 ∷ 0 ∷ 10 ∷ 0 ∷ 18 ∷ 2 ∷ 1 ∷ 0 ∷ 0 ∷ 2 ∷ 0 ∷ [])) [] 0 ≡ false
  pub all_hold : set_holds (words (2 ∷ 0 ∷ 10 ∷ 0 ∷ 18 ∷ 2 ∷ 1 ∷ 0 ∷ 0 ∷ 2 ∷ 1 ∷ [])) [] 0 ≡ true
  -- offsets to one condition after them, 1030 bytes from the start
  pub more_than_256 : set_holds (1 ∷ 1 ∷ same_offsets 257 4 6 ++ words (2 ∷ 1 ∷ [])) [] 0 ≡ false
  -- 256 offsets to one condition after them, 1026 bytes from the start
  pub just_256 : set_holds (1 ∷ 0 ∷ same_offsets 256 4 2 ++ words (2 ∷ 1 ∷ [])) [] 0 ≡ true
  -- 3 bytes are no offset
  pub no_room_for_a_condition : set_holds (words (1 ∷ 0 ∷ []) ++ 0 ∷ []) [] 0 ≡ true

pub worked_conditions : WorkedConditions
unfolding i16_of
worked_conditions = record {
  whole_axis = refl;
  at_0 = refl;
  above_0 = refl;
  below_0 = refl;
  positive_value = refl;
  value_0 = refl;
  negative_value = refl;
  of_its_own_axis = refl;
  at_the_least = refl;
  below_the_least = refl;
  above_the_greatest = refl;
  below_the_default = refl;
  no_such_axis = refl;
  other_format = refl;
  format_0 = refl;
  empty_set = refl;
  null_condition = refl;
  one_fails = refl;
  all_hold = refl;
  more_than_256 = refl;
  just_256 = refl;
  no_room_for_a_condition = refl;
}

pub record WorkedVariations : Type 0 where
  pub first_record : substitution_of (varied 0 0) [] ≡ Some 72
  pub null_set_holds : substitution_of (varied 1 1) [] ≡ Some 84
  -- the second record holds everywhere, the first one from 1/16384 on
  pub above_the_default : substitution_of (varied 1 0x4000) (pos 1 ∷ []) ≡ Some 72
  pub since_1_1 : substitution_of (header 0 ++ two_records 1 0 0 1 1) [] ≡ None
  pub other_version : substitution_of (header 1 ++ two_records 2 0 0 1 1) [] ≡ None
  pub other_substitution : substitution_of (header 1 ++ two_records 1 0 0 2 1) [] ≡ None
  pub version_0 : substitution_of (header 1 ++ two_records 0 0 0 1 1) [] ≡ None
  pub version_0_of_a_substitution : substitution_of (header 1 ++ two_records 1 0 0 0 1) [] ≡ None
  pub no_variations : substitution_of two_features [] ≡ None
  pub substitute : varied_feature_of (varied 0 0) (Some 72) 0 ≡ Some 372
  pub of_another_feature : varied_feature_of (varied 0 0) (Some 72) 1 ≡ None
  pub own_feature : varied_feature_of (varied 1 1) (Some 84) 1 ≡ None
  pub second_substitute : varied_feature_of (varied 1 1) (Some 84) 7 ≡ Some 484
  -- a substitute whose offset is NULL takes the place of the feature all the same
  pub null_substitute : varied_feature_of (varied 1 1) (Some 84) 0 ≡ None
  pub not_substituted : varied_feature_of
      (words (1 ∷ 1 ∷ 0 ∷ 14 ∷ 0 ∷ 0 ∷ 0 ∷ 1 ∷ 0x6B65 ∷ 0x726E ∷ 8 ∷ 1 ∷ 0 ∷ 1 ∷ 9 ∷ [])) (Some 22) 0 ≡ Some 22
  -- the sets of both records are that at 50, which fails
  pub neither_record : substitution_of (header 1 ++ words (1 ∷ 0 ∷ 0 ∷ 2 ∷ 0 ∷ 24 ∷ 0 ∷ 38 ∷ 0 ∷ 24 ∷ 0 ∷ 38
      ∷ 1 ∷ 0 ∷ 6 ∷ 1 ∷ 0 ∷ 1 ∷ 1 ∷ 1 ∷ 0 ∷ 0 ∷ [])) [] ≡ None
  -- the second of two records, of features 7 and 3
  pub of_the_second_record : varied_feature_of (words (1 ∷ 0 ∷ 2 ∷ 7 ∷ 0 ∷ 400 ∷ 3 ∷ 0 ∷ 300 ∷ [])) (Some 0) 3 ≡ Some 300
  -- a record takes 6 bytes
  pub record_cut_off : varied_feature_of (words (1 ∷ 0 ∷ 0 ∷ 0 ∷ 1 ∷ 0 ∷ 1 ∷ 7 ∷ 0 ∷ []) ++ 5 ∷ []) (Some 8) 7 ≡ None
  pub without_variations : varied_feature_of two_features None 1 ≡ Some 30

pub worked_variations : WorkedVariations
unfolding i16_of
worked_variations = record {
  first_record = refl;
  null_set_holds = refl;
  above_the_default = refl;
  since_1_1 = refl;
  other_version = refl;
  other_substitution = refl;
  version_0 = refl;
  version_0_of_a_substitution = refl;
  no_variations = refl;
  substitute = refl;
  of_another_feature = refl;
  own_feature = refl;
  second_substitute = refl;
  null_substitute = refl;
  not_substituted = refl;
  neither_record = refl;
  of_the_second_record = refl;
  record_cut_off = refl;
  without_variations = refl;
}
