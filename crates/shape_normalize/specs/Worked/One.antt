-- Round one, computed on small cases whose answers are worked out by hand.
use Rattle.std.specs.Prelude.{◌≡◌, ℕ, pos, Bool, true, false, [], ◌∷◌, map, Some, None, refl}
use Rattle.shape_items.specs.Clusters.{merge}
use Rattle.shape_items.specs.Items.{Item, new_item}
use Rattle.shape_common.specs.declared.general_category.hb_unicode_general_category_t.TheVariants.{OtherLetter, SpaceSeparator}
use Rattle.shape_common.specs.declared.text_types.BufferClusterLevel.TheVariants.{Characters}
use Rattle.shape_plan.specs.Plan.{Plan}
use Rattle.shape_plan.specs.Rules.{goes_short, mode_recomposes, used_mode}
use Rattle.shape_normalize.specs.Recast.{mapped_char, recast}
use Rattle.shape_normalize.specs.RoundOne.{is_fallback_space, item_glyph, emitted_for, skipped_item, variant_items, sequences, is_selector_sequence}
use Rattle.shape_normalize.specs.RoundOne.{variation_sequence_spans, variation_sequences_from, variation_sequences_merged, round_one}
use Rattle.shape_normalize.specs.Worked.Fixture.{fixture, face_of, rules_in, item, buffer_of, at, glyph, marked}

-- which modes go short, by themselves and in a sequence, and which compose
pub record ModesWorked : Type 0 where
  pub none_alone : goes_short (pos 0) false ≡ true
  pub none_in_sequence : goes_short (pos 0) true ≡ true
  pub decomposed_alone : goes_short (pos 1) false ≡ false
  pub decomposed_in_sequence : goes_short (pos 1) true ≡ false
  pub composed_alone : goes_short (pos 2) false ≡ true
  pub composed_in_sequence : goes_short (pos 2) true ≡ false
  pub no_short_circuit_alone : goes_short (pos 3) false ≡ false
  pub auto_alone : goes_short (pos 4) false ≡ true
  pub auto_in_sequence : goes_short (pos 4) true ≡ false
  pub none_leaves : mode_recomposes (pos 0) ≡ false
  pub decomposed_leaves : mode_recomposes (pos 1) ≡ false
  pub composed_composes : mode_recomposes (pos 2) ≡ true
  pub no_short_circuit_composes : mode_recomposes (pos 3) ≡ true
  pub auto_composes : mode_recomposes (pos 4) ≡ true
  -- a plan that uses no shaper uses AUTO, whatever the shaper prefers
  pub without_shaper : (plan : Plan ℕ ℕ ℕ) → used_mode (pos 1) (record plan { shaper = None }) ≡ pos 4
  pub with_shaper : (shaper : ℕ) (plan : Plan ℕ ℕ ℕ) → used_mode (pos 1) (record plan { shaper = Some shaper }) ≡ pos 1

modes_worked : ModesWorked
modes_worked = record {
  none_alone = refl;
  none_in_sequence = refl;
  decomposed_alone = refl;
  decomposed_in_sequence = refl;
  composed_alone = refl;
  composed_in_sequence = refl;
  no_short_circuit_alone = refl;
  auto_alone = refl;
  auto_in_sequence = refl;
  none_leaves = refl;
  decomposed_leaves = refl;
  composed_composes = refl;
  no_short_circuit_composes = refl;
  auto_composes = refl;
  without_shaper = λ plan. refl;
  with_shaper = λ shaper plan. refl;
}

-- a space by its own category, whatever that of its character
abbrev pub own_space : ℕ → Item
own_space c = let plain : Item = item c 0 in record plain { properties = record plain.properties { general_category = SpaceSeparator } }

-- a space's character in an item that is a letter by its own category
abbrev pub letter_2002 : Item
letter_2002 = let plain : Item = item 0x2002 0 in record plain { properties = record plain.properties { general_category = OtherLetter } }

-- what replaces a glyph
pub record GlyphsWorked : Type 0 where
  pub own_first : item_glyph (rules_in 1 (0x20 ∷ 0x2002 ∷ [])) None (item 0x2002 0) ≡ 0x2002
  pub space : item_glyph (rules_in 1 (0x20 ∷ [])) None (item 0x2002 0) ≡ 0x20
  pub space_first : item_glyph (rules_in 1 (0x20 ∷ [])) (Some (record { 0 = 9 })) (item 0x2002 0) ≡ 0x20
  pub invisible : item_glyph (rules_in 1 []) (Some (record { 0 = 9 })) (item 0x2002 0) ≡ 9
  pub nothing : item_glyph (rules_in 1 []) None (item 0x2002 0) ≡ 0
  pub letter : item_glyph (rules_in 1 (0x20 ∷ [])) (Some (record { 0 = 9 })) (item 0x62 0) ≡ 0
  pub hyphen : item_glyph (rules_in 1 (0x2010 ∷ [])) None (item 0x2011 0) ≡ 0x2010
  pub no_hyphen : item_glyph (rules_in 1 []) None (item 0x2011 0) ≡ 0
  -- by the item's own category, not its character's
  pub by_own_category : is_fallback_space (rules_in 1 (0x20 ∷ [])) None (own_space 0x2011) ≡ true
  pub not_by_character : is_fallback_space (rules_in 1 (0x20 ∷ [])) None letter_2002 ≡ false
  pub of_no_type : is_fallback_space (rules_in 1 (0x20 ∷ [])) None (own_space 0x62) ≡ false
  -- the rule for spaces comes before that for U+2011
  pub space_before_hyphen : item_glyph (rules_in 1 (0x20 ∷ 0x2010 ∷ [])) None (own_space 0x2011) ≡ 0x20

glyphs_worked : GlyphsWorked
glyphs_worked = record {
  own_first = refl;
  space = refl;
  space_first = refl;
  invisible = refl;
  nothing = refl;
  letter = refl;
  hyphen = refl;
  no_hyphen = refl;
  by_own_category = refl;
  not_by_character = refl;
  of_no_type = refl;
  space_before_hyphen = refl;
}

-- an item whose properties are not those of its character
abbrev pub odd_item : ℕ → Item
odd_item c =
    let plain : Item = new_item c 3 in record plain {
      mask = 256;
      properties = record plain.properties { modified_ccc = 7; continuation = true; shaper_category = 5 };
    }

-- an item's character, ccc and the shaper's category byte
abbrev pub char_ccc_and_category : Item → ℕ × (ℕ × ℕ)
char_ccc_and_category one = (one.codepoint, (one.properties.modified_ccc, one.properties.shaper_category))

-- U+0062 recast as U+0301 with glyph 9, which isn't that of either in any face here
abbrev pub recast_item : Item
recast_item = recast fixture (odd_item 0x62) (record { c = 0x301; glyph = 9 })

-- a character that is mapped, and what an item has when it is recast: the character and the glyph; its place and mask as they
-- were; and the character's properties, beside the shaper's byte
pub record RecastWorked : Type 0 where
  pub with_glyph : mapped_char (λ c. Some (record { 0 = 9 })) 0x301 ≡ record { c = 0x301; glyph = 9 }
  pub without_glyph : mapped_char (λ c. None) 0x301 ≡ record { c = 0x301; glyph = 0 }
  pub as_mapped : glyph recast_item ≡ (0x301, 9)
  pub place : marked recast_item ≡ (0x301, (3, 256))
  pub of_the_character : char_ccc_and_category recast_item ≡ (0x301, (230, 5))

recast_worked : RecastWorked
recast_worked = record {
  with_glyph = refl;
  without_glyph = refl;
  as_mapped = refl;
  place = refl;
  of_the_character = refl;
}

-- what an item becomes
pub record ItemsWorked : Type 0 where
  -- an item that keeps its character keeps its properties, except for its glyph and a remembered type
  pub kept : emitted_for (rules_in 1 (0x62 ∷ [])) None false (odd_item 0x62) ≡ record (odd_item 0x62) { glyph_index = 0x62 } ∷ []
  pub remembered : map (λ (one : Item). one.properties.space_type) (emitted_for (rules_in 1 (0x20 ∷ [])) None false (item 0x2002 0))
      ≡ 2 ∷ []
  pub with_glyph_forgotten : map (λ (one : Item). one.properties.space_type)
      (emitted_for (rules_in 1 (0x2002 ∷ 0x20 ∷ [])) None false (item 0x2002 0)) ≡ 0 ∷ []
  -- the items of an expansion have their characters' properties, and keep the shaper's two bytes
  pub parts : map char_ccc_and_category (emitted_for (rules_in 1 (0x61 ∷ 0x301 ∷ [])) None false (odd_item 0xE1))
      ≡ (0x61, (0, 5)) ∷ (0x301, (230, 5)) ∷ []
  pub parts_place : map marked (emitted_for (rules_in 1 (0x61 ∷ 0x301 ∷ [])) None false (odd_item 0xE1))
      ≡ (0x61, (3, 256)) ∷ (0x301, (3, 256)) ∷ []
  pub shortest : map glyph (emitted_for (rules_in 1 (0xE1 ∷ 0x61 ∷ 0x301 ∷ [])) None true (item 0xE1 0)) ≡ (0xE1, 0xE1) ∷ []
  pub half_supported : map glyph (emitted_for (rules_in 1 (0x61 ∷ [])) None false (item 0xE1 0)) ≡ (0xE1, 0) ∷ []

items_worked : ItemsWorked
items_worked =
    record {
      kept = refl;
      remembered = refl;
      with_glyph_forgotten = refl;
      parts = refl;
      parts_place = refl;
      shortest = refl;
      half_supported = refl;
    }

-- an item that had a glyph index before
abbrev pub indexed : ℕ → ℕ → Item
indexed c index = let plain : Item = item c 0 in record plain { glyph_index = index }

-- sequences, and those that hold a variation selector
pub record SequencesWorked : Type 0 where
  pub one_mark : map (map at) (sequences (item 0x61 0 ∷ item 0x301 1 ∷ item 0x62 2 ∷ []))
      ≡ ((0x61, 0) ∷ (0x301, 1) ∷ []) ∷ ((0x62, 2) ∷ []) ∷ []
  -- leading marks are a sequence too
  pub leading : map (map at) (sequences (item 0x344 0 ∷ item 0x323 1 ∷ [])) ≡ ((0x344, 0) ∷ (0x323, 1) ∷ []) ∷ []
  pub leading_expands : map at (round_one (rules_in 2 (0x344 ∷ 0x308 ∷ 0x301 ∷ 0x323 ∷ []))
      (buffer_of (item 0x344 0 ∷ item 0x323 1 ∷ []))).items ≡ (0x308, 0) ∷ (0x301, 0) ∷ (0x323, 1) ∷ []
  pub alone_stays : map at (round_one (rules_in 2 (0x344 ∷ 0x308 ∷ 0x301 ∷ [])) (buffer_of (item 0x344 0 ∷ item 0x62 1 ∷ []))).items
      ≡ (0x344, 0) ∷ (0x62, 1) ∷ []
  pub selector_second : is_selector_sequence fixture (item 0x61 0 ∷ item 0xFE00 0 ∷ []) ≡ true
  pub selector_third : is_selector_sequence fixture (item 0x61 0 ∷ item 0x301 0 ∷ item 0xFE00 0 ∷ []) ≡ true
  pub selector_first : is_selector_sequence fixture (item 0xFE00 0 ∷ item 0x301 0 ∷ []) ≡ true
  pub selector_alone : is_selector_sequence fixture (item 0xFE00 0 ∷ []) ≡ false
  pub no_selector : is_selector_sequence fixture (item 0x61 0 ∷ item 0x301 0 ∷ []) ≡ false
  pub not_decomposed : map at (round_one (rules_in 1 (0x61 ∷ 0x301 ∷ []))
      (buffer_of (item 0xE1 0 ∷ item 0x301 1 ∷ item 0xFE00 2 ∷ []))).items ≡ (0xE1, 0) ∷ (0x301, 1) ∷ (0xFE00, 2) ∷ []

sequences_worked : SequencesWorked
sequences_worked = record {
  one_mark = refl;
  leading = refl;
  leading_expands = refl;
  alone_stays = refl;
  selector_second = refl;
  selector_third = refl;
  selector_first = refl;
  selector_alone = refl;
  no_selector = refl;
  not_decomposed = refl;
}

-- whether an item is marked as a selector, and whether it is ignorable
abbrev pub selects : Item → Bool × Bool
selects one = (one.properties.selector_mark, one.properties.ignorable)

-- items with their selectors
pub record VariantsWorked : Type 0 where
  pub skipped_with_glyph : glyph (skipped_item (face_of (0x62 ∷ [])).nominal_glyph (indexed 0x62 5)) ≡ (0x62, 0x62)
  -- without a glyph an item keeps the index that it had
  pub skipped_without : glyph (skipped_item (face_of []).nominal_glyph (indexed 0x62 5)) ≡ (0x62, 5)
  pub variation_sequence : map glyph (variant_items (face_of (0xFE00 ∷ [])) None (item 0x61 0 ∷ item 0xFE00 1 ∷ item 0xFE00 2 ∷ []))
      ≡ (0x61, 7) ∷ (0xFE00, 0xFE00) ∷ []
  pub no_variation_sequence : map glyph
      (variant_items (face_of (0x61 ∷ [])) None (item 0x61 0 ∷ item 0xFE00 1 ∷ []))
      ≡ (0x61, 0x61) ∷ (0xFE00, 0) ∷ []
  pub marks_selector : map selects (variant_items (face_of []) None (item 0x62 0 ∷ item 0xFE00 1 ∷ item 0xFE00 2 ∷ []))
      ≡ (false, false) ∷ (true, true) ∷ (false, true) ∷ []
  pub ignorable_goes : map selects (variant_items (face_of []) (Some (record { 0 = 4 })) (item 0x62 0 ∷ item 0xFE00 1 ∷ []))
      ≡ (false, false) ∷ (true, false) ∷ []
  -- where they stand: in parts from a place on, and in sequences
  pub spans_of_parts : variation_sequence_spans (face_of (0xFE00 ∷ [])) 2
      (map (map (λ c. item c 0)) ((0x62 ∷ []) ∷ (0x61 ∷ 0xFE00 ∷ 0xFE00 ∷ [])
      ∷ (0x62 ∷ 0xFE00 ∷ []) ∷ (0x61 ∷ []) ∷ (0x61 ∷ 0xFE00 ∷ []) ∷ []))
      ≡ (3, 5) ∷ (9, 11) ∷ []
  pub spans_of_sequences : variation_sequences_from fixture (face_of (0xFE00 ∷ [])) 0 (sequences (map (λ c. item c 0)
      (0x62 ∷ 0x61 ∷ 0xFE00 ∷ 0xFE00 ∷ 0x62 ∷ 0xFE00 ∷ 0x61 ∷ 0x301 ∷ 0xFE00 ∷ 0x61 ∷ 0x61 ∷ 0xFE00 ∷ []))) ≡ (1, 3) ∷ (10, 12) ∷ []
  pub spans_from_a_place :
      variation_sequences_from fixture (face_of (0xFE00 ∷ [])) 5
      (sequences (item 0x61 0 ∷ item 0xFE00 0 ∷ []))
      ≡ (5, 7) ∷ []
  pub no_spans : variation_sequences_from fixture (face_of (0xFE00 ∷ [])) 0 (sequences []) ≡ []
  -- two items that become one are merged first
  pub variation_sequence_merged : map at (round_one (rules_in 1 (0x61 ∷ 0xFE00 ∷ [])) (buffer_of (item 0x61 1 ∷ item 0xFE00 0 ∷ []))).items
      ≡ (0x61, 0) ∷ []
  pub variation_sequence_merged_left : map at (round_one (rules_in 1 (0x62 ∷ 0x61 ∷ 0xFE00 ∷ []))
      (buffer_of (item 0x62 1 ∷ item 0x61 1 ∷ item 0xFE00 0 ∷ []))).items ≡ (0x62, 0) ∷ (0x61, 0) ∷ []
  pub apart : map at (variation_sequences_merged (rules_in 1 (0x61 ∷ [])) (buffer_of (item 0x61 1 ∷ item 0xFE00 0 ∷ []))).items
      ≡ (0x61, 1) ∷ (0xFE00, 0) ∷ []
  -- at level CHARACTERS they are marked instead
  pub variation_sequence_marked : map marked (variation_sequences_merged (rules_in 1 (0x61 ∷ 0xFE00 ∷ []))
      (record (buffer_of (item 0x61 1 ∷ item 0xFE00 0 ∷ [])) { cluster_level = Characters })).items ≡ (0x61, (1, 3)) ∷ (0xFE00, (0, 0)) ∷ []

variants_worked : VariantsWorked
unfolding merge
variants_worked = record {
  skipped_with_glyph = refl;
  skipped_without = refl;
  variation_sequence = refl;
  no_variation_sequence = refl;
  marks_selector = refl;
  ignorable_goes = refl;
  spans_of_parts = refl;
  spans_of_sequences = refl;
  spans_from_a_place = refl;
  no_spans = refl;
  variation_sequence_merged = refl;
  variation_sequence_merged_left = refl;
  apart = refl;
  variation_sequence_marked = refl;
}

-- the scratch flags of round one: past ASCII (1), a default ignorable (2), a fallback space (4), U+034F (8), a marked
-- selector (16)
pub record ScratchOneWorked : Type 0 where
  pub expanded : (round_one (rules_in 1 (0x61 ∷ 0x301 ∷ [])) (buffer_of (item 0xE1 0 ∷ []))).scratch_flags.0 ≡ 1
  pub kept : (round_one (rules_in 1 (0xE1 ∷ [])) (buffer_of (item 0xE1 0 ∷ []))).scratch_flags.0 ≡ 0
  pub space : (round_one (rules_in 1 (0x20 ∷ [])) (buffer_of (item 0x2002 0 ∷ []))).scratch_flags.0 ≡ 4
  pub selector : (round_one (rules_in 1 (0x61 ∷ [])) (buffer_of (item 0x61 0 ∷ item 0xFE00 0 ∷ []))).scratch_flags.0 ≡ 16
  pub variation_sequence : (round_one (rules_in 1 (0x61 ∷ 0xFE00 ∷ [])) (buffer_of (item 0x61 0 ∷ item 0xFE00 0 ∷ []))).scratch_flags.0 ≡ 0

scratch_one_worked : ScratchOneWorked
unfolding merge
scratch_one_worked = record { expanded = refl; kept = refl; space = refl; selector = refl; variation_sequence = refl }

pub record RoundOneWorked : Type 0 where
  pub modes : ModesWorked
  pub glyphs : GlyphsWorked
  pub recast : RecastWorked
  pub items : ItemsWorked
  pub sequences : SequencesWorked
  pub variants : VariantsWorked
  pub scratch : ScratchOneWorked

pub round_one_worked : RoundOneWorked
round_one_worked = record {
  modes = modes_worked;
  glyphs = glyphs_worked;
  recast = recast_worked;
  items = items_worked;
  sequences = sequences_worked;
  variants = variants_worked;
  scratch = scratch_one_worked;
}
