-- Parts of buffers and of what stages are handed, worked by hand: first bytes, requests, ranges, spans, words, joiners
-- and masks.
use Rattle.std.specs.Prelude.{◌≡◌, ℕ, true, false, List, [], ◌∷◌, map, Bool, Some, pos, refl}
use Rattle.shape_items.specs.Buffer.{Buffer, new_buffer}
use Rattle.shape_items.specs.Clusters.{merge, clusters}
use Rattle.shape_items.specs.GlyphClusters.{run_length}
use Rattle.shape_items.specs.Items.{Item, new_item}
use Rattle.shape_items.specs.Spans.{AreSpansInOrder, merge_each}
use Rattle.shape_items.specs.Words.{AreFirstFields, AreWords}
use Rattle.shape_buffer.specs.Honest.{IsHonest}
use Rattle.shape_buffer.specs.MapBuilder.{Builder, new_builder, chosen_script, with_request, feature_off, pause}
use Rattle.shape_buffer.specs.Ranges.{reversed_range}
use Rattle.shape_buffer.specs.Text.{IsFirstByte}
use Rattle.shape_buffer.specs.declared.interfaces.map_request.MapRequest.TheVariants.{Feature}
use Rattle.shape_buffer.specs.declared.interfaces.map_request.TableIndex.TheVariants.{GSUB, GPOS}
use Rattle.shape_common.specs.Positions.{zero_position}
use Rattle.shape_common.specs.declared.text_types.Direction.{Direction}
use Rattle.shape_common.specs.declared.text_types.Direction.TheVariants.{LeftToRight, RightToLeft, TopToBottom}
use Rattle.shape_common.specs.declared.text_types.hb_tag_t.{hb_tag_t}
use Rattle.shape_fallback.specs.Bases.{without_positions}
use Rattle.shape_prepare.specs.PreservedCharacters.{rotated_char}
use Rattle.shape_prepare.specs.Worked.Order.{decisions_with}
use Rattle.shape_prepare.specs.Worked.Unicode.{worked_unicode, face_with}

-- ---- first bytes

-- U+0061 U+20AC U+0062 in UTF-8: 1, 3 and 1 bytes
abbrev pub euro_string : List ℕ
euro_string = 0x61 ∷ 0xE2 ∷ 0x82 ∷ 0xAC ∷ 0x62 ∷ []

abbrev pub BeginsAt : ℕ → ℕ → Type 0
BeginsAt c cluster = IsFirstByte euro_string (new_item c cluster)

pub record FirstBytes : Type 0 where
  pub first : BeginsAt 0x61 0
  pub of_three_bytes : BeginsAt 0x20AC 1
  pub last : BeginsAt 0x62 4
  pub another_character : BeginsAt 0x62 1 → ⊥
  pub second_byte : (c : ℕ) → BeginsAt c 2 → ⊥
  pub at_the_end : (c : ℕ) → BeginsAt c 5 → ⊥

-- ---- requests

abbrev pub tag : ℕ → hb_tag_t
tag number = record { 0 = number }

-- script 1 for GSUB, script 2 for GPOS, for a text in German
abbrev pub two_scripts : Builder
two_scripts = new_builder (Some (0x64 ∷ 0x65 ∷ [])) (λ table. elim table [ GSUB ↦ Some (tag 1) | GPOS ↦ Some (tag 2) ])

pub record Requests : Type 0 where
  pub of_gsub : chosen_script two_scripts GSUB ≡ Some (tag 1)
  pub of_gpos : chosen_script two_scripts GPOS ≡ Some (tag 2)
  pub language : two_scripts.language ≡ Some (0x64 ∷ 0x65 ∷ [])
  pub in_order : with_request (with_request two_scripts (feature_off (tag 7))) (pause (Some 3))
      ≡ record two_scripts { requests = Feature (tag 7) 1 0 ∷ pause (Some 3) ∷ [] }

pub requests : Requests
requests = record { of_gsub = refl; of_gpos = refl; language = refl; in_order = refl }

-- ---- ranges and spans

pub record Ranges : Type 0 where
  pub inside : reversed_range {A = ℕ} 1 4 (0 ∷ 1 ∷ 2 ∷ 3 ∷ 4 ∷ []) ≡ 0 ∷ 3 ∷ 2 ∷ 1 ∷ 4 ∷ []
  pub from_the_beginning : reversed_range {A = ℕ} 0 2 (0 ∷ 1 ∷ 2 ∷ []) ≡ 1 ∷ 0 ∷ 2 ∷ []
  pub to_the_end : reversed_range {A = ℕ} 1 3 (0 ∷ 1 ∷ 2 ∷ []) ≡ 0 ∷ 2 ∷ 1 ∷ []
  pub empty : reversed_range {A = ℕ} 1 1 (0 ∷ 1 ∷ 2 ∷ []) ≡ 0 ∷ 1 ∷ 2 ∷ []

pub ranges : Ranges
ranges = record { inside = refl; from_the_beginning = refl; to_the_end = refl; empty = refl }

abbrev pub in_clusters : List ℕ → List Item
in_clusters ks = map (new_item 0x61) ks

abbrev pub merged : List (ℕ × ℕ) → List ℕ → List ℕ
merged spans ks = clusters (merge_each spans (in_clusters ks))

pub record Merges : Type 0 where
  pub none : merged [] (2 ∷ 1 ∷ 0 ∷ []) ≡ 2 ∷ 1 ∷ 0 ∷ []
  pub apart : merged ((0, 2) ∷ (2, 4) ∷ []) (0 ∷ 1 ∷ 2 ∷ 3 ∷ []) ≡ 0 ∷ 0 ∷ 2 ∷ 2 ∷ []
  -- the second span grows over what the first one made
  pub in_order : merged ((1, 3) ∷ (2, 4) ∷ []) (0 ∷ 1 ∷ 2 ∷ 3 ∷ []) ≡ 0 ∷ 1 ∷ 1 ∷ 1 ∷ []
  pub falling : merged ((0, 2) ∷ (1, 3) ∷ []) (3 ∷ 2 ∷ 1 ∷ []) ≡ 1 ∷ 1 ∷ 1 ∷ []

pub merges : Merges
unfolding merge
merges = record { none = refl; apart = refl; in_order = refl; falling = refl }

pub record SpansInOrder : Type 0 where
  pub none : AreSpansInOrder 3 3 []
  -- side by side, overlapping, with the same beginning, and empty at the end
  pub all_kinds : AreSpansInOrder 0 5 ((0, 2) ∷ (2, 4) ∷ (3, 5) ∷ (3, 4) ∷ (5, 5) ∷ [])
  pub back : AreSpansInOrder 0 5 ((2, 3) ∷ (1, 5) ∷ []) → ⊥
  pub before_the_place : AreSpansInOrder 1 5 ((0, 2) ∷ []) → ⊥
  pub reversed : AreSpansInOrder 0 5 ((2, 1) ∷ []) → ⊥
  pub past_the_items : AreSpansInOrder 0 5 ((0, 2) ∷ (2, 6) ∷ []) → ⊥

pub record RunsOfClusters : Type 0 where
  pub lengths : map (λ ks. run_length (in_clusters ks)) ([] ∷ (4 ∷ []) ∷ (4 ∷ 4 ∷ 5 ∷ 4 ∷ []) ∷ (0 ∷ 0 ∷ 0 ∷ []) ∷ [])
      ≡ 0 ∷ 1 ∷ 2 ∷ 3 ∷ []

pub runs_of_clusters : RunsOfClusters
runs_of_clusters = record { lengths = refl }

-- ---- words

-- of the first field: 29 is the last category; of the second word: bit 7 has no use
pub record WordsOfItems : Type 0 where
  pub last_category : AreFirstFields (29 ∷ 255 ∷ 255 ∷ 1 ∷ 1 ∷ 1 ∷ 1 ∷ 1 ∷ 1 ∷ 0 ∷ [])
  pub no_category : AreFirstFields (30 ∷ 0 ∷ 0 ∷ 0 ∷ 0 ∷ 0 ∷ 0 ∷ 0 ∷ 0 ∷ 0 ∷ []) → ⊥
  pub bits_without_use : AreFirstFields (0 ∷ 0 ∷ 0 ∷ 0 ∷ 0 ∷ 0 ∷ 0 ∷ 0 ∷ 0 ∷ 1 ∷ []) → ⊥
  pub of_a_new_item : AreWords 0 0 1
  pub greatest : AreWords 1073741597 4294967167 4294967295
  pub unused_in_the_first : AreWords 1073741824 0 1 → ⊥
  pub unused_in_the_second : AreWords 0 128 1 → ⊥
  pub too_great : AreWords 0 0 4294967296 → ⊥

-- ---- flags that are seen

abbrev pub with_flags : ℕ → ℕ → Buffer
with_flags scratch mask = record new_buffer {
  items = new_item 0x61 0 ∷ record (new_item 0x62 1) { mask = mask } ∷ [];
  scratch_flags = record { 0 = scratch };
}

pub record HonestBuffers : Type 0 where
  pub no_flags : IsHonest (with_flags 0 248)
  pub seen : IsHonest (with_flags 32 7)
  pub break_unseen : IsHonest (with_flags 0 1) → ⊥
  pub concat_unseen : IsHonest (with_flags 31 2) → ⊥
  pub tatweel_unseen : IsHonest (with_flags 0 4) → ⊥

-- ---- preparing and positions

-- a character in its form for a direction, over a face with all glyphs, with lookups for vertical forms or without
abbrev pub rotated : Bool → Direction → ℕ → ℕ
rotated has_vert target c = rotated_char worked_unicode (face_with (λ _. true)) (decisions_with 16 has_vert) target c

pub record FormsOfCharacters : Type 0 where
  pub leftward : map (rotated false RightToLeft) (0x28 ∷ 0x29 ∷ 0x61 ∷ 0x2014 ∷ []) ≡ 0x29 ∷ 0x28 ∷ 0x61 ∷ 0x2014 ∷ []
  pub rightward : map (rotated false LeftToRight) (0x28 ∷ 0x2014 ∷ []) ≡ 0x28 ∷ 0x2014 ∷ []
  pub downward : map (rotated false TopToBottom) (0x28 ∷ 0x29 ∷ 0x2014 ∷ []) ≡ 0x28 ∷ 0xFE36 ∷ 0xFE31 ∷ []
  pub by_lookups : map (rotated true TopToBottom) (0x29 ∷ 0x2014 ∷ []) ≡ 0x29 ∷ 0x2014 ∷ []

pub forms_of_characters : FormsOfCharacters
forms_of_characters = record { leftward = refl; rightward = refl; downward = refl; by_lookups = refl }

abbrev pub kept_places : Buffer
kept_places = record new_buffer {
  items = new_item 0x61 0 ∷ [];
  positions = record zero_position { x_advance = pos 1 } ∷ [];
  direction = RightToLeft;
}

pub record BuffersWithoutPositions : Type 0 where
  pub none_stays : without_positions kept_places ≡ record kept_places { positions = [] }

pub buffers_without_positions : BuffersWithoutPositions
buffers_without_positions = record { none_stays = refl }

pub record WorkedParts : Type 0 where
  pub first_bytes : FirstBytes
  pub requests : Requests
  pub ranges : Ranges
  pub merges : Merges
  pub spans : SpansInOrder
  pub runs : RunsOfClusters
  pub words : WordsOfItems
  pub honest : HonestBuffers
  pub forms : FormsOfCharacters
  pub without_positions : BuffersWithoutPositions
