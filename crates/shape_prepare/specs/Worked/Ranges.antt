-- The user's features, computed on small cases whose answers are worked out by hand.
use Rattle.std.specs.Prelude.{◌≡◌, ℕ, ◌==◌, true, false, List, [], ◌∷◌, None, refl, if◌then◌else◌}
use Rattle.shape_items.specs.Buffer.{new_buffer}
use Rattle.shape_items.specs.Items.{Item, new_item}
use Rattle.shape_buffer.specs.Layout.{MapMeaning}
use Rattle.shape_buffer.specs.Walks.{items_mapped}
use Rattle.shape_common.specs.declared.text_types.Feature.{Feature}
use Rattle.shape_plan.specs.Requests.{is_global}
use Rattle.shape_prepare.specs.Ranges.{shifted, with_value, ranges_masked}
use Rattle.shape_prepare.specs.Worked.Fractions.{masks_of}

-- feature 1 has the bits 0x300, feature 2 the two highest, every other one none
abbrev two_features : MapMeaning
two_features = record {
  global_mask = 0;
  one_mask = λ tag. 0;
  mask = λ tag. if tag.0 == 1 then (0x300, 8) else if tag.0 == 2 then (0xC0000000, 31) else (0, 0);
  feature_index = λ table tag. None;
  stages = 0;
  pause_after = λ i. None;
}

abbrev feature : ℕ → ℕ → ℕ → ℕ → Feature
feature tag value start end = record { tag = record { 0 = tag }; value = value; start = start; end = end }

abbrev masked_item : ℕ → ℕ → Item
masked_item mask cluster = record (new_item 0x61 cluster) { mask = mask }

-- the masks of items, once some features are set
abbrev masks_with : List Feature → List Item → List ℕ
masks_with features items = masks_of (ranges_masked two_features features (record new_buffer { items = items }))

-- four items of clusters 0 to 3, with one mask
abbrev four : ℕ → List Item
four mask = masked_item mask 0 ∷ masked_item mask 1 ∷ masked_item mask 2 ∷ masked_item mask 3 ∷ []

pub record UserFeatures : Type 0 where
  pub in_the_middle : masks_with (feature 1 3 1 3 ∷ []) (four 0) ≡ 0 ∷ 0x300 ∷ 0x300 ∷ 0 ∷ []
  pub clusters_and_not_places : masks_with (feature 1 3 1 3 ∷ [])
      (masked_item 0 7 ∷ masked_item 0 7 ∷ masked_item 0 1 ∷ masked_item 0 1 ∷ [])
      ≡ 0 ∷ 0 ∷ 0x300 ∷ 0x300 ∷ []
  pub empty_range : masks_with (feature 1 3 2 2 ∷ []) (four 0) ≡ 0 ∷ 0 ∷ 0 ∷ 0 ∷ []
  pub from_the_start : masks_with (feature 1 1 0 1 ∷ []) (four 0) ≡ 0x100 ∷ 0 ∷ 0 ∷ 0 ∷ []
  pub to_the_end : masks_with (feature 1 1 2 4294967295 ∷ []) (four 0) ≡ 0 ∷ 0 ∷ 0x100 ∷ 0x100 ∷ []
  pub over_the_whole : masks_with (feature 1 3 0 4294967295 ∷ []) (four 0) ≡ 0 ∷ 0 ∷ 0 ∷ 0 ∷ []
  pub other_bits_stay : masks_with (feature 1 2 1 2 ∷ []) (four 0xFFFF) ≡ 0xFFFF ∷ 0xFEFF ∷ 0xFFFF ∷ 0xFFFF ∷ []
  pub off : masks_with (feature 1 0 0 4 ∷ []) (four 0x301) ≡ 1 ∷ 1 ∷ 1 ∷ 1 ∷ []
  pub later_wins : masks_with (feature 1 3 0 3 ∷ feature 1 1 1 4 ∷ []) (four 0) ≡ 0x300 ∷ 0x100 ∷ 0x100 ∷ 0x100 ∷ []
  pub both_stand : masks_with (feature 2 1 1 2 ∷ feature 1 1 1 2 ∷ []) (four 0) ≡ 0 ∷ 0x80000100 ∷ 0 ∷ 0 ∷ []
  pub past_the_bits : masks_with (feature 1 13 1 2 ∷ []) (four 0) ≡ 0 ∷ 0x100 ∷ 0 ∷ 0 ∷ []
  pub past_the_word : masks_with (feature 2 3 1 2 ∷ []) (four 0) ≡ 0 ∷ 0x80000000 ∷ 0 ∷ 0 ∷ []
  pub without_bits : masks_with (feature 3 1 0 4 ∷ []) (four 6) ≡ 6 ∷ 6 ∷ 6 ∷ 6 ∷ []

user_features : UserFeatures
unfolding ranges_masked items_mapped
user_features = record {
  in_the_middle = refl;
  clusters_and_not_places = refl;
  empty_range = refl;
  from_the_start = refl;
  to_the_end = refl;
  over_the_whole = refl;
  other_bits_stay = refl;
  off = refl;
  later_wins = refl;
  both_stand = refl;
  past_the_bits = refl;
  past_the_word = refl;
  without_bits = refl;
}

pub record WordsOfFeatures : Type 0 where
  pub whole : is_global (feature 1 1 0 4294967295) ≡ true
  pub from_one : is_global (feature 1 1 1 4294967295) ≡ false
  pub almost_to_the_end : is_global (feature 1 1 0 4294967294) ≡ false
  pub shifted_out : shifted 3 31 ≡ 0x80000000
  pub not_shifted : shifted 0xFFFFFFFF 0 ≡ 0xFFFFFFFF
  pub replaced : with_value 0xF0 0x5A 0xABC ≡ 0xA5C

words_of_features : WordsOfFeatures
words_of_features =
    record { whole = refl; from_one = refl; almost_to_the_end = refl; shifted_out = refl; not_shifted = refl; replaced = refl }

pub record WorkedRanges : Type 0 where
  pub features : UserFeatures
  pub words : WordsOfFeatures

pub worked_ranges : WorkedRanges
worked_ranges = record { features = user_features; words = words_of_features }
