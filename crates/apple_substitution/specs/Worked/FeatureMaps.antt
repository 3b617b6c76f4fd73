-- Settings that features choose, and ranges of a text, computed by hand.
use Rattle.std.specs.Prelude.{◌≡◌, ℕ, List, [], ◌∷◌, Bool, Some, None, true, false, refl}
use Rattle.shape_common.specs.declared.text_types.Feature as text_types
use Rattle.shape_font.specs.Worked.Glyphs.{words}
use Rattle.apple_substitution.specs.FeatureMap.{added, alternative, are_capitals, choice_of, choices_of, chosen, edge_after}
use Rattle.apple_substitution.specs.FeatureMap.{exclusive_for, features_in, is_against, is_in, LAST, mapped, nearer, nearer_of}
use Rattle.apple_substitution.specs.FeatureMap.{range_at, ranges_from, ranges_of, requests_of}
use Rattle.apple_substitution.specs.Worked.Chaining.{feature}
use Rattle.apple_substitution.specs.declared.feature_map.Choice.{Choice}

-- ---- choices

-- a font that has types 1, 11 and 17, and 11 alone is one of settings that exclude each other; and one that has type 3
abbrev types : List ℕ
types = words (1 ∷ 0 ∷ 3 ∷ 0 ∷ 0 ∷ 0 ∷ 1 ∷ 2 ∷ 0 ∷ 0 ∷ 0 ∷ 0 ∷ 11 ∷ 3 ∷ 0 ∷ 0 ∷ 0x8000 ∷ 0 ∷ 17 ∷ 3 ∷ 0 ∷ 0 ∷ 0 ∷ 0 ∷ [])

abbrev letter_case : List ℕ
letter_case = words (1 ∷ 0 ∷ 1 ∷ 0 ∷ 0 ∷ 0 ∷ 3 ∷ 2 ∷ 0 ∷ 0 ∷ 0x8000 ∷ 0 ∷ [])

-- a tag with a value, over the clusters from 2 up to 5
abbrev asked : ℕ → ℕ → text_types.Feature
asked tag value = record { tag = record { 0 = tag }; value = value; start = 2; end = 5 }

abbrev choice : ℕ → ℕ → Bool → Choice
choice kind setting is_exclusive = chosen (asked 0 0) kind setting is_exclusive

abbrev LIGA : ℕ
LIGA = 0x6C696761

abbrev FRAC : ℕ
FRAC = 0x66726163

abbrev KERN : ℕ
KERN = 0x6B65726E

abbrev AALT : ℕ
AALT = 0x61616C74

abbrev SMCP : ℕ
SMCP = 0x736D6370

abbrev PCAP : ℕ
PCAP = 0x70636170

pub record WorkedChoices : Type 0 where
  pub on : choice_of types (asked LIGA 7) ≡ Some (choice 1 2 false)
  pub off : choice_of types (asked LIGA 0) ≡ Some (choice 1 3 false)
  pub excludes : choice_of types (asked FRAC 1) ≡ Some (choice 11 2 true)
  pub not_of_the_registry : choice_of types (asked KERN 1) ≡ None
  pub not_of_the_font : choice_of types (asked SMCP 1) ≡ None
  pub alternate : choice_of types (asked AALT 9) ≡ Some (choice 17 9 true)
  pub no_alternates : alternative letter_case (asked AALT 9) ≡ None
  pub small_capitals : choice_of letter_case (asked SMCP 1) ≡ Some (choice 37 1 true)
  pub no_small_capitals : choice_of letter_case (asked SMCP 0) ≡ Some (choice 37 0 true)
  -- petite ones were no setting of type 3
  pub petite_capitals : choice_of letter_case (asked PCAP 1) ≡ None
  pub over_no_cluster : choice_of types (record (asked LIGA 1) { end = 2 }) ≡ None
  pub backwards : choice_of types (record (asked LIGA 1) { end = 1 }) ≡ None
  pub all : choices_of types (asked LIGA 1 ∷ asked KERN 1 ∷ asked FRAC 0 ∷ []) ≡ choice 1 2 false ∷ choice 11 0 true ∷ []

pub worked_choices : WorkedChoices
worked_choices = record {
  on = refl;
  off = refl;
  excludes = refl;
  not_of_the_registry = refl;
  not_of_the_font = refl;
  alternate = refl;
  no_alternates = refl;
  small_capitals = refl;
  no_small_capitals = refl;
  petite_capitals = refl;
  over_no_cluster = refl;
  backwards = refl;
  all = refl;
}

pub record WorkedMapped : Type 0 where
  pub place : choice 1 2 false ≡ record { feature = feature 1 2; is_exclusive = false; start = 2; end = 5 }
  pub by_the_registry : mapped types (asked 0 1) (record { kind = 11; on = 4; off = 5 }) ≡ Some (choice 11 4 true)
  pub capitals : are_capitals (record { kind = 37; on = 1; off = 0 }) ≡ true
  pub other_capitals : are_capitals (record { kind = 37; on = 2; off = 0 }) ≡ false
  pub other_case : are_capitals (record { kind = 38; on = 1; off = 0 }) ≡ false
  pub of_the_type : exclusive_for types (record { kind = 1; on = 1; off = 0 }) ≡ Some false
  pub of_letter_case : exclusive_for letter_case (record { kind = 37; on = 1; off = 0 }) ≡ Some true

pub worked_mapped : WorkedMapped
worked_mapped = record {
  place = refl;
  by_the_registry = refl;
  capitals = refl;
  other_capitals = refl;
  other_case = refl;
  of_the_type = refl;
  of_letter_case = refl;
}

-- ---- the settings in a cluster

pub record WorkedAgainst : Type 0 where
  pub first_cluster : is_in 2 (choice 1 2 false) ≡ true
  pub before : is_in 1 (choice 1 2 false) ≡ false
  pub last_cluster : is_in 4 (choice 1 2 false) ≡ true
  pub after : is_in 5 (choice 1 2 false) ≡ false
  pub on_and_off : is_against (choice 1 2 false) (feature 1 3) ≡ true
  pub other_pair : is_against (choice 1 3 false) (feature 1 4) ≡ false
  pub excluded : is_against (choice 11 2 true) (feature 11 9) ≡ true
  pub other_type : is_against (choice 11 2 true) (feature 12 2) ≡ false
  pub added_behind : added 2 (feature 1 4 ∷ []) (choice 1 2 false) ≡ feature 1 4 ∷ feature 1 2 ∷ []
  pub first_counts : added 2 (feature 1 3 ∷ []) (choice 1 2 false) ≡ feature 1 3 ∷ []
  pub elsewhere : added 5 (feature 1 4 ∷ []) (choice 1 2 false) ≡ feature 1 4 ∷ []
  pub all : features_in 3 (choice 1 2 false ∷ choice 11 1 true ∷ choice 1 3 false ∷ choice 11 2 true ∷ [])
      ≡ feature 1 2 ∷ feature 11 1 ∷ []

pub worked_against : WorkedAgainst
worked_against = record {
  first_cluster = refl;
  before = refl;
  last_cluster = refl;
  after = refl;
  on_and_off = refl;
  other_pair = refl;
  excluded = refl;
  other_type = refl;
  added_behind = refl;
  first_counts = refl;
  elsewhere = refl;
  all = refl;
}

-- ---- ranges: of two choices one is over the clusters before 5, and the other one from 2 up to 9

abbrev two : List Choice
two = record (choice 1 2 false) { start = 0 } ∷ record (choice 1 3 false) { end = 9 } ∷ []

pub record WorkedEdges : Type 0 where
  pub nearer_edge : nearer 2 9 5 ≡ 5
  pub here : nearer 5 9 5 ≡ 9
  pub further : nearer 2 4 5 ≡ 4
  pub of_a_choice : nearer_of 2 9 (choice 1 2 false) ≡ 5
  pub first : edge_after 0 two ≡ 2
  pub second : edge_after 2 two ≡ 5
  pub third : edge_after 5 two ≡ 9
  pub none : edge_after 9 two ≡ LAST
  -- a choice over all of a text has no edge in it
  pub of_all : edge_after 0 (record (choice 1 2 false) { start = 0; end = LAST } ∷ []) ≡ LAST

pub worked_edges : WorkedEdges
worked_edges = record {
  nearer_edge = refl;
  here = refl;
  further = refl;
  of_a_choice = refl;
  first = refl;
  second = refl;
  third = refl;
  none = refl;
  of_all = refl;
}

pub record WorkedTextRanges : Type 0 where
  pub none : ranges_of [] ≡ record { last = LAST; features = [] } ∷ []
  pub one : range_at two 2 5 ≡ record { last = 4; features = feature 1 2 ∷ [] }
  pub last : range_at two 9 LAST ≡ record { last = LAST; features = [] }
  pub from_a_cluster : ranges_from two 1 5 ≡ record { last = 8; features = feature 1 3 ∷ [] } ∷ []
  pub all : ranges_of two ≡ record { last = 1; features = feature 1 2 ∷ [] }
      ∷ record { last = 4; features = feature 1 2 ∷ [] }
      ∷ record { last = 8; features = feature 1 3 ∷ [] }
      ∷ record { last = LAST; features = [] } ∷ []
  pub of_features : requests_of types (asked LIGA 1 ∷ []) ≡ record { last = 1; features = [] }
      ∷ record { last = 4; features = feature 1 2 ∷ [] }
      ∷ record { last = LAST; features = [] } ∷ []
  pub of_all_of_a_text : requests_of types (record (asked LIGA 0) { start = 0; end = LAST } ∷ [])
      ≡ record { last = LAST; features = feature 1 3 ∷ [] } ∷ []

pub worked_text_ranges : WorkedTextRanges
unfolding requests_of
worked_text_ranges = record {
  none = refl;
  one = refl;
  last = refl;
  from_a_cluster = refl;
  all = refl;
  of_features = refl;
  of_all_of_a_text = refl;
}
