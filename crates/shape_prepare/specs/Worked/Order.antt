-- Clusters, native order and rotation on cases whose answers are worked out by hand.
use Rattle.std.specs.Prelude.{◌≡◌, ℕ, ◌==◌, ◌||◌, Bool, true, false, List, [], ◌∷◌, map, refl, Option, Some, None, pos}
use Rattle.shape_items.specs.Buffer.{Buffer}
use Rattle.shape_items.specs.Items.{Item, new_item}
use Rattle.shape_common.specs.Positions.{zero_position}
use Rattle.shape_common.specs.declared.positions.GlyphPosition.{GlyphPosition}
use Rattle.shape_common.specs.declared.general_category.hb_unicode_general_category_t.TheVariants.{UppercaseLetter, LowercaseLetter, TitlecaseLetter}
use Rattle.shape_common.specs.declared.general_category.hb_unicode_general_category_t.TheVariants.{ModifierLetter, OtherLetter, OtherSymbol}
use Rattle.shape_common.specs.declared.general_category.hb_unicode_general_category_t.TheVariants.{NonspacingMark, DecimalNumber, LetterNumber}
use Rattle.shape_common.specs.declared.text_types.BufferClusterLevel.{BufferClusterLevel}
use Rattle.shape_common.specs.declared.text_types.BufferClusterLevel.TheVariants.{MonotoneGraphemes, MonotoneCharacters, Characters}
use Rattle.shape_common.specs.declared.text_types.Direction.{Direction}
use Rattle.shape_common.specs.declared.text_types.Direction.TheVariants.{Invalid, LeftToRight, RightToLeft, TopToBottom, BottomToTop}
use Rattle.shape_common.specs.declared.text_types.Script.{Script}
use Rattle.shape_items.specs.Clusters.{merge}
use Rattle.shape_buffer.specs.Walks.{items_mapped}
use Rattle.shape_plan.specs.Worked.Decisions.{no_decisions}
use Rattle.shape_plan.specs.declared.decisions.Decisions.{Decisions}
use Rattle.shape_prepare.specs.Graphemes.{graphemes_marked}
use Rattle.shape_prepare.specs.ClustersFormed.{clusters_formed}
use Rattle.shape_prepare.specs.NativeOrder.{is_letter_category, is_against, natively_ordered, graphemes_reversed}
use Rattle.shape_prepare.specs.Rotated.{rotated, mirrored_or_masked}
use Rattle.shape_prepare.specs.Worked.Unicode.{worked_unicode, face_with, text_of, shown, masks, hebrew, latin, mongolian, common}

abbrev pub at_level : BufferClusterLevel → List (ℕ × ℕ) → Buffer
at_level level cs = record (text_of cs) { cluster_level = level }

-- a text with graphemes in clusters
abbrev pub formed : Buffer → Buffer
formed b = clusters_formed (graphemes_marked worked_unicode b)

abbrev pub four_indicators : List (ℕ × ℕ)
four_indicators = (0x1F1E6, 0) ∷ (0x1F1E6, 4) ∷ (0x1F1E6, 8) ∷ (0x1F1E6, 12) ∷ []

pub record FormedClusters : Type 0 where
  pub regional_pairs : shown (formed (at_level MonotoneGraphemes four_indicators))
      ≡ (0x1F1E6, 0) ∷ (0x1F1E6, 0) ∷ (0x1F1E6, 8) ∷ (0x1F1E6, 8) ∷ []
  pub by_character : shown (formed (at_level MonotoneCharacters four_indicators)) ≡ four_indicators
  pub marked : masks (formed (at_level MonotoneCharacters four_indicators)) ≡ 0 ∷ 3 ∷ 0 ∷ 3 ∷ []
  pub marked_too : masks (formed (at_level Characters four_indicators)) ≡ 0 ∷ 3 ∷ 0 ∷ 3 ∷ []
  pub seen : (formed (at_level Characters four_indicators)).scratch_flags.0 ≡ 33
  pub merged_unmarked : masks (formed (at_level MonotoneGraphemes four_indicators)) ≡ 0 ∷ 0 ∷ 0 ∷ 0 ∷ []
  pub ascii : masks (clusters_formed (record (graphemes_marked worked_unicode
      (at_level Characters four_indicators)) { scratch_flags = record { 0 = 0 } })) ≡ 0 ∷ 0 ∷ 0 ∷ 0 ∷ []

formed_clusters : FormedClusters
unfolding graphemes_marked clusters_formed merge
formed_clusters =
    record {
      regional_pairs = refl;
      by_character = refl;
      marked = refl;
      marked_too = refl;
      seen = refl;
      merged_unmarked = refl;
      ascii = refl;
    }

abbrev pub ordered : Direction → Option Script → Buffer → Buffer
ordered direction script b = natively_ordered worked_unicode (record (formed b) { direction = direction; script = script })

abbrev pub accented : List (ℕ × ℕ)
accented = (0x61, 0) ∷ (0x301, 1) ∷ (0x62, 3) ∷ []

abbrev pub alef_one : List (ℕ × ℕ)
alef_one = (0x5D0, 0) ∷ (0x31, 2) ∷ []

abbrev pub one_two : List (ℕ × ℕ)
one_two = (0x31, 0) ∷ (0x32, 1) ∷ []

-- a text whose three items have the advances 1, 2 and 3
abbrev pub advanced_by : ℕ → GlyphPosition
advanced_by n = record zero_position { x_advance = pos n }

abbrev pub three_placed : Buffer
three_placed = record (graphemes_marked worked_unicode (text_of accented))
    { positions = advanced_by 1 ∷ advanced_by 2 ∷ advanced_by 3 ∷ [] }

pub record RulesOfOrder : Type 0 where
  pub letters : map is_letter_category (UppercaseLetter ∷ LowercaseLetter ∷ TitlecaseLetter ∷ ModifierLetter ∷ OtherLetter
      ∷ NonspacingMark ∷ DecimalNumber ∷ LetterNumber ∷ [])
      ≡ true ∷ true ∷ true ∷ true ∷ true ∷ false ∷ false ∷ false ∷ []
  pub against_down : map (is_against (Some TopToBottom)) (LeftToRight ∷ RightToLeft ∷ TopToBottom ∷ BottomToTop ∷ [])
      ≡ true ∷ true ∷ false ∷ true ∷ []
  pub against_up : map (is_against (Some BottomToTop)) (LeftToRight ∷ RightToLeft ∷ TopToBottom ∷ BottomToTop ∷ [])
      ≡ true ∷ true ∷ false ∷ true ∷ []
  pub positions_too : (graphemes_reversed three_placed).positions ≡ advanced_by 3 ∷ advanced_by 1 ∷ advanced_by 2 ∷ []

rules_of_order : RulesOfOrder
unfolding graphemes_marked
rules_of_order = record { letters = refl; against_down = refl; against_up = refl; positions_too = refl }

pub record NativeOrders : Type 0 where
  pub bottom_to_top : shown (ordered BottomToTop None (at_level MonotoneCharacters accented)) ≡ (0x62, 3) ∷ (0x61, 0) ∷ (0x301, 0) ∷ []
  pub reversed_down : (ordered BottomToTop None (at_level MonotoneCharacters accented)).direction ≡ TopToBottom
  pub merged_before : shown (ordered BottomToTop None (at_level MonotoneGraphemes accented)) ≡ (0x62, 3) ∷ (0x61, 0) ∷ (0x301, 0) ∷ []
  pub not_merged : shown (ordered BottomToTop None (at_level Characters accented)) ≡ (0x62, 3) ∷ (0x61, 0) ∷ (0x301, 1) ∷ []
  pub top_to_bottom : shown (ordered TopToBottom hebrew (at_level MonotoneCharacters accented)) ≡ accented
  pub letter_and_digit : shown (ordered LeftToRight hebrew (at_level MonotoneGraphemes alef_one)) ≡ (0x31, 2) ∷ (0x5D0, 0) ∷ []
  pub reversed_left : (ordered LeftToRight hebrew (at_level MonotoneGraphemes alef_one)).direction ≡ RightToLeft
  pub digits : shown (ordered LeftToRight hebrew (at_level MonotoneGraphemes one_two)) ≡ one_two
  pub digits_direction : (ordered LeftToRight hebrew (at_level MonotoneGraphemes one_two)).direction ≡ LeftToRight
  pub digits_right_to_left : shown (ordered RightToLeft hebrew (at_level MonotoneGraphemes one_two)) ≡ one_two
  pub indicators : shown (ordered LeftToRight hebrew (at_level MonotoneGraphemes ((0x1F1E6, 0) ∷ (0x28, 4) ∷ [])))
      ≡ (0x1F1E6, 0) ∷ (0x28, 4) ∷ []
  pub neither : shown (ordered LeftToRight hebrew (at_level MonotoneGraphemes ((0x28, 0) ∷ (0x29, 1) ∷ []))) ≡ (0x29, 1) ∷ (0x28, 0) ∷ []
  pub modifier_letter : shown (ordered LeftToRight hebrew (at_level MonotoneGraphemes ((0x31, 0) ∷ (0x20, 1) ∷ (0xFF9E, 2) ∷ [])))
      ≡ (0x20, 1) ∷ (0xFF9E, 1) ∷ (0x31, 0) ∷ []
  pub no_script : shown (ordered RightToLeft None (at_level MonotoneGraphemes one_two)) ≡ one_two
  pub no_known_direction : shown (ordered RightToLeft common (at_level MonotoneGraphemes one_two)) ≡ one_two
  pub vertical_script : shown (ordered RightToLeft mongolian (at_level MonotoneGraphemes one_two)) ≡ (0x32, 1) ∷ (0x31, 0) ∷ []
  pub rightward_vertical : shown (ordered LeftToRight mongolian (at_level MonotoneGraphemes one_two)) ≡ (0x32, 1) ∷ (0x31, 0) ∷ []
  pub mark_first : shown (ordered RightToLeft latin (at_level MonotoneCharacters ((0x323, 0) ∷ (0x61, 2) ∷ (0x301, 3) ∷ [])))
      ≡ (0x61, 2) ∷ (0x301, 2) ∷ (0x323, 0) ∷ []
  pub to_invalid : shown (ordered Invalid hebrew (at_level MonotoneGraphemes alef_one)) ≡ alef_one

native_orders : NativeOrders
unfolding graphemes_marked clusters_formed natively_ordered merge
native_orders = record {
  bottom_to_top = refl;
  reversed_down = refl;
  merged_before = refl;
  not_merged = refl;
  top_to_bottom = refl;
  letter_and_digit = refl;
  reversed_left = refl;
  digits = refl;
  digits_direction = refl;
  digits_right_to_left = refl;
  indicators = refl;
  neither = refl;
  modifier_letter = refl;
  no_script = refl;
  no_known_direction = refl;
  vertical_script = refl;
  rightward_vertical = refl;
  mark_first = refl;
  to_invalid = refl;
}

abbrev pub decisions_with : ℕ → Bool → Decisions
decisions_with rtlm_mask has_vert = record no_decisions {
  rtlm_mask = rtlm_mask;
  has_vert = has_vert;
  apply_fallback_kern = true;
}

abbrev pub bracket : List (ℕ × ℕ)
bracket = (0x61, 1) ∷ (0x28, 0) ∷ []

abbrev pub rotated_for : (ℕ → Bool) → Bool → Direction → List (ℕ × ℕ) → Buffer
rotated_for has has_vert target cs = rotated worked_unicode (face_with has) (decisions_with 16 has_vert) target (text_of cs)

pub record Rotations : Type 0 where
  pub mirrored : shown (rotated_for (λ c. true) false RightToLeft bracket) ≡ (0x61, 1) ∷ (0x29, 0) ∷ []
  pub others_masked : masks (rotated_for (λ c. true) false RightToLeft bracket) ≡ 16 ∷ 0 ∷ []
  pub without_mirror : shown (rotated_for (λ c. c == 0x61 || c == 0x28) false RightToLeft bracket) ≡ bracket
  pub masked_without_mirror : masks (rotated_for (λ c. c == 0x61 || c == 0x28) false RightToLeft bracket) ≡ 16 ∷ 16 ∷ []
  pub forward : shown (rotated_for (λ c. true) false LeftToRight bracket) ≡ bracket
  pub forward_masks : masks (rotated_for (λ c. true) false LeftToRight bracket) ≡ 0 ∷ 0 ∷ []
  pub vertical : shown (rotated_for (λ c. true) false TopToBottom ((0x2014, 0) ∷ (0x61, 3) ∷ [])) ≡ (0xFE31, 0) ∷ (0x61, 3) ∷ []
  pub vertical_masks : masks (rotated_for (λ c. true) false TopToBottom ((0x2014, 0) ∷ (0x61, 3) ∷ [])) ≡ 0 ∷ 0 ∷ []
  pub with_vert : shown (rotated_for (λ c. true) true TopToBottom ((0x2014, 0) ∷ (0x61, 3) ∷ [])) ≡ (0x2014, 0) ∷ (0x61, 3) ∷ []
  pub without_vertical : shown (rotated_for (λ c. c == 0x2014) false TopToBottom ((0x2014, 0) ∷ [])) ≡ (0x2014, 0) ∷ []
  pub horizontal : shown (rotated_for (λ c. true) false LeftToRight ((0x2014, 0) ∷ [])) ≡ (0x2014, 0) ∷ []
  pub both : shown (rotated_for (λ c. true) false BottomToTop ((0x28, 0) ∷ (0x2014, 1) ∷ [])) ≡ (0xFE36, 0) ∷ (0xFE31, 1) ∷ []
  pub both_masks : masks (rotated_for (λ c. true) false BottomToTop ((0x28, 0) ∷ (0x2014, 1) ∷ [])) ≡ 0 ∷ 16 ∷ []
  pub mirrored_with_vert : shown (rotated_for (λ c. true) true BottomToTop ((0x28, 0) ∷ [])) ≡ (0x29, 0) ∷ []

rotations : Rotations
unfolding rotated items_mapped
rotations = record {
  mirrored = refl;
  others_masked = refl;
  without_mirror = refl;
  masked_without_mirror = refl;
  forward = refl;
  forward_masks = refl;
  vertical = refl;
  vertical_masks = refl;
  with_vert = refl;
  without_vertical = refl;
  horizontal = refl;
  both = refl;
  both_masks = refl;
  mirrored_with_vert = refl;
}

-- an item in which nothing is as in a new one
abbrev pub odd_bracket : Item
odd_bracket = let plain : Item = new_item 0x28 3 in record plain {
  mask = 9;
  properties =
      record plain.properties {
        general_category = OtherSymbol;
        hidden = true;
        continuation = true;
        zwj = true;
        space_type = 3;
        shaper_category = 4;
      };
}

pub record RotatedItems : Type 0 where
  pub character_alone : mirrored_or_masked 16 odd_bracket (Some 0x29) ≡ record odd_bracket { codepoint = 0x29 }
  pub mask_alone : mirrored_or_masked 16 odd_bracket None ≡ record odd_bracket { mask = 25 }

rotated_items : RotatedItems
rotated_items = record { character_alone = refl; mask_alone = refl }

abbrev pub WorkedOrder : Type 0
WorkedOrder = FormedClusters × RulesOfOrder × NativeOrders × Rotations × RotatedItems

pub worked_order : WorkedOrder
worked_order = (formed_clusters, rules_of_order, native_orders, rotations, rotated_items)
