-- Round three, computed on small cases whose answers are worked out by hand.
use Rattle.std.specs.Prelude.{◌≡◌, ℕ, true, List, [], ◌∷◌, ◌++◌, map, replicate, refl}
use Rattle.shape_items.specs.Clusters.{merge}
use Rattle.shape_items.specs.Items.{Item}
use Rattle.shape_common.specs.declared.general_category.hb_unicode_general_category_t.TheVariants.{OtherSymbol}
use Rattle.shape_common.specs.declared.text_types.BufferClusterLevel.TheVariants.{Characters}
use Rattle.shape_normalize.specs.RoundThree.{Placed, recomposed_items, recomposed_by_last, absorbed_spans, chained_spans, round_three}
use Rattle.shape_normalize.specs.RoundThree.{AreComposedInPlace, ends_taken_out}
use Rattle.shape_normalize.specs.Normalized.{normalized}
use Rattle.shape_normalize.specs.Recast.{recast_to}
use Rattle.shape_normalize.specs.RoundTwo.{run_settled}
use Rattle.shape_common.specs.Positions.{zero_position}
use Rattle.shape_plan.specs.Rules.{Rules}
use Rattle.shape_normalize.specs.Worked.Fixture.{rules_in, item, buffer_of, at, marked}

-- every character of the small fixture
abbrev pub all_chars : List ℕ
all_chars = 0x61 ∷ 0xE1 ∷ 0x301 ∷ 0x308 ∷ 0x323 ∷ 0x344 ∷ 0x20DD ∷ 0x1EA1 ∷ 0xE001 ∷ []

abbrev pub recomposed_chars : List ℕ → List Item → List ℕ
recomposed_chars chars items = map (λ (p : Placed). p.item.codepoint) (recomposed_items (rules_in 3 chars) items)

pub record ComposedWorked : Type 0 where
  pub next : recomposed_chars all_chars (item 0x61 0 ∷ item 0x301 1 ∷ []) ≡ 0xE1 ∷ []
  pub without_glyph : recomposed_chars (0x61 ∷ 0x301 ∷ []) (item 0x61 0 ∷ item 0x301 1 ∷ []) ≡ 0x61 ∷ 0x301 ∷ []
  -- past a mark of a smaller ccc
  pub past_smaller : recomposed_chars (0x61 ∷ 0xE1 ∷ 0x301 ∷ 0x323 ∷ []) (item 0x61 0 ∷ item 0x323 1 ∷ item 0x301 2 ∷ [])
      ≡ 0xE1 ∷ 0x323 ∷ []
  -- not past one of the same ccc
  pub past_same : recomposed_chars (0x61 ∷ 0xE1 ∷ 0x301 ∷ 0x308 ∷ []) (item 0x61 0 ∷ item 0x308 1 ∷ item 0x301 2 ∷ [])
      ≡ 0x61 ∷ 0x308 ∷ 0x301 ∷ []
  -- nor if marks of a smaller ccc come after that one
  pub past_same_and_smaller : recomposed_chars (0x61 ∷ 0xE1 ∷ 0x301 ∷ 0x308 ∷ 0x323 ∷ [])
      (item 0x61 0 ∷ item 0x308 1 ∷ item 0x323 2 ∷ item 0x301 3 ∷ []) ≡ 0x61 ∷ 0x308 ∷ 0x323 ∷ 0x301 ∷ []
  -- the first item is a starter, whatever its ccc
  pub first_mark : recomposed_chars all_chars (item 0x308 0 ∷ item 0x301 1 ∷ []) ≡ 0x344 ∷ []
  -- a mark of ccc 0 right after its starter composes, and one after a mark of ccc 0 doesn't
  pub ccc_0 : recomposed_chars all_chars (item 0x61 0 ∷ item 0x20DD 1 ∷ []) ≡ 0xE001 ∷ []
  pub ccc_0_begins_anew : recomposed_chars (0x61 ∷ 0xE1 ∷ 0x301 ∷ 0x20DD ∷ []) (item 0x61 0 ∷ item 0x20DD 1 ∷ item 0x301 2 ∷ [])
      ≡ 0x61 ∷ 0x20DD ∷ 0x301 ∷ []
  -- a letter is no mark, and is the starter from then on
  pub new_starter : recomposed_chars all_chars (item 0x62 0 ∷ item 0x61 1 ∷ item 0x301 2 ∷ []) ≡ 0x62 ∷ 0xE1 ∷ []
  -- so that a mark after it doesn't compose with the starter before
  pub starter_between : recomposed_chars (0x61 ∷ 0xE1 ∷ 0x301 ∷ 0x323 ∷ [])
      (item 0x61 0 ∷ item 0x323 1 ∷ item 0x62 2 ∷ item 0x301 3 ∷ []) ≡ 0x61 ∷ 0x323 ∷ 0x62 ∷ 0x301 ∷ []
  -- and what was emitted before it blocks nothing after it
  pub new_starter_forgets : recomposed_chars (0x61 ∷ 0xE1 ∷ 0x301 ∷ 0x308 ∷ [])
      (item 0x61 0 ∷ item 0x308 1 ∷ item 0x61 2 ∷ item 0x301 3 ∷ []) ≡ 0x61 ∷ 0x308 ∷ 0xE1 ∷ []

composed_worked : ComposedWorked
composed_worked = record {
  next = refl;
  without_glyph = refl;
  past_smaller = refl;
  past_same = refl;
  past_same_and_smaller = refl;
  first_mark = refl;
  ccc_0 = refl;
  ccc_0_begins_anew = refl;
  new_starter = refl;
  starter_between = refl;
  new_starter_forgets = refl;
}

-- U+00E1 and its parts with two other marks, and no letter that has one of those in it
abbrev few_chars : List ℕ
few_chars = 0x61 ∷ 0xE1 ∷ 0x301 ∷ 0x308 ∷ 0x323 ∷ []

-- U+0061, this mark, so many U+0323 and U+0301
abbrev around : ℕ → ℕ → List Item
around mark count = item 0x61 0 ∷ item mark 0 ∷ replicate count (item 0x323 0) ++ item 0x301 0 ∷ []

abbrev normalized_chars : List Item → List ℕ
normalized_chars items = map (λ (one : Item). one.codepoint) (normalized (rules_in 3 few_chars) (buffer_of items)).items

-- the characters that would be emitted if the mark emitted last alone were asked
abbrev chars_by_last : List Item → List ℕ
chars_by_last items = map (λ (p : Placed). p.item.codepoint) (recomposed_by_last (rules_in 3 few_chars) items)

pub record LongRunsWorked : Type 0 where
  -- U+0308 has the ccc of U+0301: a run of 33 stays, and one of 32 is put in order
  pub thirty_three : normalized_chars (around 0x308 31) ≡ 0x61 ∷ 0x308 ∷ replicate 31 0x323 ++ 0x301 ∷ []
  pub thirty_two : normalized_chars (around 0x308 30) ≡ 0x61 ∷ replicate 30 0x323 ++ 0x308 ∷ 0x301 ∷ []
  -- past any number of marks of a smaller ccc
  pub past_many : normalized_chars (around 0x323 32) ≡ 0xE1 ∷ replicate 33 0x323
  -- the other rule composes past U+0308
  pub by_last : chars_by_last (around 0x308 31) ≡ 0xE1 ∷ 0x308 ∷ replicate 31 0x323
  pub by_last_same : chars_by_last (item 0x61 0 ∷ item 0x308 0 ∷ item 0x301 0 ∷ []) ≡ 0x61 ∷ 0x308 ∷ 0x301 ∷ []
  -- and past one that a hook has brought before a smaller ccc
  pub by_last_swapped : chars_by_last (item 0x61 0 ∷ item 0x308 0 ∷ item 0x323 0 ∷ item 0x301 0 ∷ []) ≡ 0xE1 ∷ 0x308 ∷ 0x323 ∷ []
  -- in order, it returns the same
  pub by_last_thirty_two : chars_by_last (item 0x61 0 ∷ replicate 30 (item 0x323 0) ++ item 0x308 0 ∷ item 0x301 0 ∷ [])
      ≡ 0x61 ∷ replicate 30 0x323 ++ 0x308 ∷ 0x301 ∷ []

long_runs_worked : LongRunsWorked
unfolding run_settled merge
long_runs_worked = record {
  thirty_three = refl;
  thirty_two = refl;
  past_many = refl;
  by_last = refl;
  by_last_same = refl;
  by_last_swapped = refl;
  by_last_thirty_two = refl;
}

-- a composed item has the properties of its character and its glyph, and keeps the mask of its starter
pub record ComposedItemWorked : Type 0 where
  pub category : map (λ (p : Placed). p.item.properties.general_category)
      (recomposed_items (rules_in 3 all_chars) (item 0x61 0 ∷ item 0x20DD 1 ∷ [])) ≡ OtherSymbol ∷ []
  pub ignorable : map (λ (p : Placed). p.item.properties.ignorable)
      (recomposed_items (rules_in 3 all_chars) (item 0x61 0 ∷ item 0x20DD 1 ∷ [])) ≡ true ∷ []
  pub ccc : map (λ (p : Placed). p.item.properties.modified_ccc)
      (recomposed_items (rules_in 3 all_chars) (item 0x308 0 ∷ item 0x301 1 ∷ [])) ≡ 230 ∷ []
  pub glyph : map (λ (p : Placed). p.item.glyph_index) (recomposed_items (rules_in 3 all_chars) (item 0x61 0 ∷ item 0x301 1 ∷ []))
      ≡ 0xE1 ∷ []
  pub mask : map marked (round_three (rules_in 3 all_chars)
      (buffer_of (record (item 0x61 0) { mask = 256 } ∷ record (item 0x301 0) { mask = 512 } ∷ []))).items ≡ (0xE1, (0, 256)) ∷ []

composed_item_worked : ComposedItemWorked
unfolding merge
composed_item_worked = record { category = refl; ignorable = refl; ccc = refl; glyph = refl; mask = refl }

-- clusters and flags
pub record MergedOutWorked : Type 0 where
  pub spans_are : absorbed_spans (recomposed_items (rules_in 3 (0x61 ∷ 0xE1 ∷ 0x301 ∷ 0x323 ∷ []))
      (item 0x61 0 ∷ item 0x323 1 ∷ item 0x301 2 ∷ [])) ≡ (0, 3) ∷ []
  pub merged : map at (round_three (rules_in 3 (0x61 ∷ 0xE1 ∷ 0x301 ∷ 0x323 ∷ []))
      (buffer_of (item 0x61 0 ∷ item 0x323 1 ∷ item 0x301 2 ∷ []))).items ≡ (0xE1, 0) ∷ (0x323, 0) ∷ []
  -- growing right over what stands in the cluster of the mark that goes
  pub grows_right : map at (round_three (rules_in 3 all_chars) (buffer_of (item 0x61 0 ∷ item 0x301 1 ∷ item 0x308 1 ∷ []))).items
      ≡ (0xE1, 0) ∷ (0x308, 0) ∷ []
  -- at level CHARACTERS nothing is merged, and nothing is marked
  pub at_characters : map marked (round_three (rules_in 3 all_chars)
      (record (buffer_of (item 0x61 1 ∷ item 0x301 0 ∷ item 0x308 2 ∷ [])) { cluster_level = Characters })).items
      ≡ (0xE1, (1, 0)) ∷ (0x308, (2, 0)) ∷ []
  pub no_flags : (round_three (rules_in 3 (0x61 ∷ 0xE1 ∷ 0x301 ∷ []))
      (record (buffer_of (item 0x61 1 ∷ item 0x301 0 ∷ [])) { cluster_level = Characters })).scratch_flags.0 ≡ 1
  -- the composed characters are seen: U+00E1 is past ASCII (1), U+E001 ignorable too (2)
  pub seen : (round_three (rules_in 3 all_chars) (buffer_of (item 0x61 0 ∷ item 0x301 0 ∷ []))).scratch_flags.0 ≡ 1
  pub seen_ignorable : (round_three (rules_in 3 all_chars) (buffer_of (item 0x61 0 ∷ item 0x20DD 0 ∷ []))).scratch_flags.0 ≡ 3

merged_out_worked : MergedOutWorked
unfolding merge
merged_out_worked =
    record {
      spans_are = refl;
      merged = refl;
      grows_right = refl;
      at_characters = refl;
      no_flags = refl;
      seen = refl;
      seen_ignorable = refl;
    }

-- U+0061 U+0323 U+0301, with U+00E1 composed into the first
abbrev below_and_above : List Item
below_and_above = item 0x61 0 ∷ item 0x323 1 ∷ item 0x301 2 ∷ []

abbrev few_rules : Rules
few_rules = rules_in 3 few_chars

abbrev composed_first : Item
composed_first = recast_to few_rules.unicode few_rules.face.nominal_glyph (item 0x61 0) 0xE1

-- the walk of the code: characters in place, spans, and what stays
pub record InPlaceWorked : Type 0 where
  pub composed : AreComposedInPlace few_rules below_and_above (composed_first ∷ item 0x323 1 ∷ item 0x301 2 ∷ [])
  -- two marks of one letter, and one of the next
  pub chained : chained_spans (recomposed_items (rules_in 3 all_chars) (
      item 0x61 0 ∷ item 0x323 1 ∷ item 0x61 2 ∷ item 0x301 3 ∷ [])) ≡ (0, 2) ∷ (2, 4) ∷ []
  pub taken_out : map at (ends_taken_out ((0, 2) ∷ (2, 4) ∷ []) (buffer_of (
      item 0x61 0 ∷ item 0x323 1 ∷ item 0x62 2 ∷ item 0x301 3 ∷ item 0x63 4 ∷ []))).items ≡ (0x61, 0) ∷ (0x62, 2) ∷ (0x63, 4) ∷ []
  pub positions : (ends_taken_out ((0, 3) ∷ []) (buffer_of below_and_above)).positions ≡ zero_position ∷ zero_position ∷ []
  pub none : map at (ends_taken_out [] (buffer_of below_and_above)).items ≡ (0x61, 0) ∷ (0x323, 1) ∷ (0x301, 2) ∷ []

in_place_worked : InPlaceWorked
in_place_worked = record {
  composed = record { in_place = refl; same = refl };
  chained = refl;
  taken_out = refl;
  positions = refl;
  none = refl;
}

pub record RoundThreeWorked : Type 0 where
  pub composed : ComposedWorked
  pub long_runs : LongRunsWorked
  pub items : ComposedItemWorked
  pub merged : MergedOutWorked
  pub in_place : InPlaceWorked

pub round_three_worked : RoundThreeWorked
round_three_worked = record {
  composed = composed_worked;
  long_runs = long_runs_worked;
  items = composed_item_worked;
  merged = merged_out_worked;
  in_place = in_place_worked;
}
