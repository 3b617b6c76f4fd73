-- What items are after lookups, worked out by hand.
use Rattle.std.specs.Prelude.{◌≡◌, ℕ, List, [], ◌∷◌, Some, None, true, false, map, length, refl}
use Rattle.shape_common.specs.Positions.{zero_position}
use Rattle.shape_common.specs.declared.general_category.hb_unicode_general_category_t.TheVariants.{OtherLetter}
use Rattle.shape_font.specs.Worked.Glyphs.{words}
use Rattle.shape_items.specs.Buffer.{Buffer, new_buffer}
use Rattle.shape_items.specs.Items.{Item, new_item, new_properties}
use Rattle.layout_matching.specs.declared.lookup.Lookup.{Lookup}
use Rattle.layout_substitution.specs.Applied.{left_to_neighbours, list_put, unapplied, value_of}
use Rattle.layout_substitution.specs.Kinds.{single_in, first_single, or_next}
use Rattle.layout_substitution.specs.Ligatures.{Joined, component_among, component_gone, follows, is_own, ligation_of, ligature_made, ligatures_reach}
use Rattle.layout_substitution.specs.Replaced.{is_multiplied, taken_apart, as_component, as_ligature, with_components}
use Rattle.layout_substitution.specs.Start.{untouched}
use Rattle.layout_substitution.specs.Substitutes.{alternate_in, set_of, single_by}
use Rattle.layout_substitution.specs.Tries.{counted_after}
use Rattle.layout_substitution.specs.Worked.{seeing_all, glyph, mark_above}

-- an item whose glyph is of this class
abbrev of_class : ℕ → Item
of_class class = record (new_item 0 0) { properties = record new_properties { glyph_class = record { 0 = class } } }

abbrev buffer_of : List Item → Buffer
buffer_of items = record new_buffer { items = items; positions = map (λ _. zero_position) items }

-- a walk at the one item of a buffer, after a component of ligature 3
abbrev after_component : Item → Joined
after_component item = record { buffer = buffer_of (item ∷ []); walk = record { at = 0; left = 0; id = 3; components = 1; so_far = 1 } }

abbrev of_ligature : ℕ → ℕ → Item
of_ligature id component =
    record (new_item 0 0) { properties = record new_properties { ligature_id = id; ligature_component = component } }

-- a lookup of type 1 with two subtables: 5 becomes 8, and then 6 becomes 20
abbrev two_singles : List ℕ
two_singles = words (1 ∷ 0 ∷ 2 ∷ 10 ∷ 22 ∷ 1 ∷ 6 ∷ 3 ∷ 1 ∷ 1 ∷ 5 ∷ 2 ∷ 8 ∷ 1 ∷ 20 ∷ 1 ∷ 1 ∷ 6 ∷ [])

abbrev Singles : (Lookup → Type 0) → Type 0
Singles fact = (l : Lookup) → l.table.now ≡ two_singles → fact (record l { place = 0; positioning = false })

pub record WorkedMade : Type 0 where
  -- a part of a ligature is guessed to be a base
  pub part_of_a_ligature : (l : Lookup) → l.gdef.now ≡ [] → (taken_apart l 9 0 (of_class 4)).properties.glyph_class.0 ≡ 2
  -- a ligature of a base and marks is none of its own
  pub of_a_base_and_marks : is_own (record { ligature = 0; last = 1; all_marks = true }) (of_class 2) ≡ false
  pub of_marks : is_own (record { ligature = 0; last = 1; all_marks = true }) (of_class 8) ≡ false
  pub of_a_ligature_and_marks : is_own (record { ligature = 0; last = 1; all_marks = true }) (of_class 4) ≡ true
  pub of_bases : is_own (record { ligature = 0; last = 1; all_marks = false }) (of_class 2) ≡ true
  -- a cluster that the glyph before has, too, isn't handed back
  pub cluster_is_shared : map (λ (x : Item). x.mask)
      (left_to_neighbours 1 (buffer_of (record (new_item 0 3) { mask = 1 } ∷ new_item 0 3 ∷ new_item 0 5 ∷ []))).items ≡ 1 ∷ 0 ∷ 0 ∷ []
  -- marks on the components follow, not the ligature itself, and none of another one
  pub mark_follows : follows (after_component (of_ligature 3 1)) ≡ true
  pub ligature_stays : follows (after_component (of_ligature 3 0)) ≡ false
  pub of_another_ligature : follows (after_component (of_ligature 2 1)) ≡ false
  pub one_component_at_first : (untouched (new_item 0 0)).properties.number_of_components ≡ 1
  -- one component is replaced, and doesn't make a ligature
  pub of_one_component : (l : Lookup) → l.gdef.now ≡ [] → l.table.now ≡ words (50 ∷ 1 ∷ []) → map (λ (x : Item). x.properties.ligated)
      (ligature_made l (record { at = 0; random = 1; left = 10; whole = 1 }) (buffer_of (new_item 0 0 ∷ []))
      (record { ligature = 0; last = 0; all_marks = false })).buffer.items ≡ false ∷ []
  -- by each subtable, and by the first that has one
  pub by_the_first : Singles (λ l. single_in l 5 0 ≡ Some 8)
  pub not_by_the_first : Singles (λ l. single_in l 6 0 ≡ None)
  pub by_the_second : Singles (λ l. single_in l 6 1 ≡ Some 20)
  pub by_none_past_the_last : Singles (λ l. first_single l 7 ≡ None)
  pub first_that_has_one : Singles (λ l. first_single l 6 ≡ Some 20)

pub worked_made : WorkedMade
unfolding is_multiplied as_ligature
worked_made = record {
  part_of_a_ligature = λ l g. rw g refl;
  of_a_base_and_marks = refl;
  of_marks = refl;
  of_a_ligature_and_marks = refl;
  of_bases = refl;
  cluster_is_shared = refl;
  mark_follows = refl;
  ligature_stays = refl;
  of_another_ligature = refl;
  one_component_at_first = refl;
  of_one_component = λ l g t. rw (g, t) refl;
  by_the_first = λ l t. rw t refl;
  not_by_the_first = λ l t. rw t refl;
  by_the_second = λ l t. rw t refl;
  by_none_past_the_last = λ l t. rw t refl;
  first_that_has_one = λ l t. rw t refl;
}

-- ---- how components and parts are numbered, and what ends a lookup

-- after a first component that stands for one, and a second one that was a ligature of two
abbrev of_one_and_two : ℕ → ℕ → ℕ
of_one_and_two id component =
    component_among (record { at = 0; left = 0; id = id; components = 2; so_far = 3 }) (of_ligature id component)

-- a ligature of three components
abbrev of_three : Item
of_three = record (of_class 4) { properties = record (of_class 4).properties { number_of_components = 3 } }

-- ligature 50 of 5 and 9 so many times, and then 51 of 5 and 6
abbrev four_ligatures : List ℕ
four_ligatures = words (4 ∷ 10 ∷ 10 ∷ 10 ∷ 16 ∷ 50 ∷ 2 ∷ 9 ∷ 51 ∷ 2 ∷ 6 ∷ [])

abbrev five_ligatures : List ℕ
five_ligatures = words (5 ∷ 12 ∷ 12 ∷ 12 ∷ 12 ∷ 18 ∷ 50 ∷ 2 ∷ 9 ∷ 51 ∷ 2 ∷ 6 ∷ [])

abbrev LooksTo : List ℕ → ℕ → Type 0
LooksTo table to = (l : Lookup) → l.table.now ≡ table → ligatures_reach (seeing_all l) (buffer_of (glyph 5 ∷ glyph 6 ∷ [])) 0 0
    ≡ record { from = 0; to = to; matched = true }

-- a buffer of two items that may have so many
abbrev limited : ℕ → Buffer
limited most = record (buffer_of (new_item 0 0 ∷ new_item 0 0 ∷ [])) { length_limit = Some most }

pub record WorkedNumbers : Type 0 where
  -- one glyph in a list replaces: it is no part of what was taken apart
  pub one_in_a_list : (l : Lookup) → l.gdef.now ≡ [] → l.table.now ≡ words (1 ∷ 30 ∷ [])
      → map (λ (x : Item). x.properties.multiplied) (list_put l 0 0 (buffer_of (new_item 0 0 ∷ []))).items ≡ false ∷ []
  pub two_in_a_list : (l : Lookup) → l.gdef.now ≡ [] → l.table.now ≡ words (2 ∷ 30 ∷ 31 ∷ [])
      → map (λ (x : Item). x.properties.multiplied) (list_put l 0 0 (buffer_of (new_item 0 0 ∷ []))).items ≡ true ∷ true ∷ []
  -- parts count from 0, and a glyph that belongs to a ligature keeps its component
  pub first_part : (l : Lookup) → l.gdef.now ≡ [] → (taken_apart l 30 0 (new_item 0 0)).properties.ligature_component ≡ 0
  pub third_part : (l : Lookup) → l.gdef.now ≡ [] → (taken_apart l 32 2 (new_item 0 0)).properties.ligature_component ≡ 2
  pub part_on_a_component : (l : Lookup) → l.gdef.now ≡ [] → (taken_apart l 32 2 (of_ligature 3 1)).properties.ligature_component ≡ 1
  -- four bits hold them
  pub component_18 : (as_component 1 18 (new_item 0 0)).properties.ligature_component ≡ 2
  pub components_15 : (with_components 1 15 (new_item 0 0)).properties.number_of_components ≡ 15
  pub components_17 : (with_components 1 17 (new_item 0 0)).properties.number_of_components ≡ 1
  -- format 2 has a glyph for each one that it covers: one is stated
  pub substitute : single_by (words (2 ∷ 0 ∷ 1 ∷ 9 ∷ 8 ∷ [])) 0 5 0 ≡ Some 9
  pub past_the_substitutes : single_by (words (2 ∷ 0 ∷ 1 ∷ 9 ∷ 8 ∷ [])) 0 5 1 ≡ None
  -- format 1 adds in 16 bits
  pub further : single_by (words (1 ∷ 0 ∷ 10000 ∷ [])) 0 40000 0 ≡ Some 50000
  pub round : single_by (words (1 ∷ 0 ∷ 2 ∷ [])) 0 0xFFFF 0 ≡ Some 1
  -- sets and lists have one format
  pub set : set_of (words (1 ∷ 8 ∷ 1 ∷ 14 ∷ 1 ∷ 1 ∷ 5 ∷ 1 ∷ 30 ∷ [])) 0 5 ≡ Some 14
  pub set_of_format_2 : set_of (words (2 ∷ 8 ∷ 1 ∷ 14 ∷ 1 ∷ 1 ∷ 5 ∷ 1 ∷ 30 ∷ [])) 0 5 ≡ None
  -- value 0 is no alternate
  pub no_alternate : alternate_in (words (2 ∷ 40 ∷ 41 ∷ [])) 0 0 ≡ None
  pub second_alternate : alternate_in (words (2 ∷ 40 ∷ 41 ∷ [])) 2 0 ≡ Some 41
  pub no_third_alternate : alternate_in (words (2 ∷ 40 ∷ 41 ∷ [])) 3 0 ≡ None
  -- the value is in the bits of the lookup's mask
  pub value : (l : Lookup) → value_of (record l { mask = 0xF0; unit = 16 }) (record (new_item 0 0) { mask = 0x123 }) ≡ 2
  pub no_unit : (l : Lookup) → value_of (record l { mask = 0xF0; unit = 0 }) (record (new_item 0 0) { mask = 0x123 }) ≡ 0
  -- a ligature of marks keeps the class of its first component, and one of its own is no mark
  pub class_of_marks : (l : Lookup) → l.gdef.now ≡ [] → (as_ligature l false 0 1 51 (of_class 8)).properties.glyph_class.0 ≡ 8
  pub class_of_its_own : (l : Lookup) → l.gdef.now ≡ [] → (as_ligature l true 1 2 51 (of_class 8)).properties.glyph_class.0 ≡ 4
  pub category : (with_components 1 2 mark_above).properties.general_category ≡ OtherLetter
  -- of four ligatures each is compared up to the one that is made; of five the next glyph refuses the others first
  pub looks_at_four : LooksTo four_ligatures 2
  pub looks_at_five : LooksTo five_ligatures 0
  -- components 2 and 3 of the ligature are those of the second one; a mark on none of them stands on the last
  pub mark_on_the_first : of_one_and_two 3 1 ≡ 2
  pub mark_on_the_second : of_one_and_two 3 2 ≡ 3
  pub mark_past_the_last : of_one_and_two 3 5 ≡ 3
  pub mark_on_none : of_one_and_two 3 0 ≡ 3
  -- a component that is a ligature counts for its own components
  pub components_so_far : (component_gone (record {
    buffer = buffer_of (of_three ∷ []);
    walk = record { at = 0; left = 1; id = 0; components = 1; so_far = 1 };
  })).walk.so_far ≡ 4
  -- of marks alone, and not of a base and marks
  pub ligature_of_marks : (l : Lookup)
      → (ligation_of l 0 (buffer_of (of_class 8 ∷ [])) (record { ligature = 0; last = 1; all_marks = true })).marks ≡ true
  pub ligature_of_a_base : (l : Lookup)
      → (ligation_of l 0 (buffer_of (of_class 2 ∷ [])) (record { ligature = 0; last = 1; all_marks = true })).marks ≡ false
  -- a next subtable is tried, and counted, if one didn't apply and the list isn't longer than it may be
  pub next_subtable : length (or_next (λ b. unapplied (buffer_of [])) (unapplied (limited 2))).buffer.items ≡ 0
  pub past_the_limit : length (or_next (λ b. unapplied (buffer_of [])) (unapplied (limited 1))).buffer.items ≡ 2
  pub next_is_counted : counted_after (λ b. 5) (unapplied (limited 2)) ≡ 5
  pub none_past_the_limit : counted_after (λ b. 5) (unapplied (limited 1)) ≡ 0
  pub none_after_one_that_applied : counted_after (λ b. 5) (record {
    buffer = limited 2;
    next = Some (record { at = 1; random = 1; left = 10; whole = 2 });
  }) ≡ 0

pub worked_numbers : WorkedNumbers
unfolding is_multiplied as_ligature
worked_numbers = record {
  one_in_a_list = λ l g t. rw (g, t) refl;
  two_in_a_list = λ l g t. rw (g, t) refl;
  first_part = λ l g. rw g refl;
  third_part = λ l g. rw g refl;
  part_on_a_component = λ l g. rw g refl;
  component_18 = refl;
  components_15 = refl;
  components_17 = refl;
  substitute = refl;
  past_the_substitutes = refl;
  further = refl;
  round = refl;
  set = refl;
  set_of_format_2 = refl;
  no_alternate = refl;
  second_alternate = refl;
  no_third_alternate = refl;
  value = λ l. refl;
  no_unit = λ l. refl;
  class_of_marks = λ l g. rw g refl;
  class_of_its_own = λ l g. rw g refl;
  category = refl;
  looks_at_four = λ l t. rw t refl;
  looks_at_five = λ l t. rw t refl;
  mark_on_the_first = refl;
  mark_on_the_second = refl;
  mark_past_the_last = refl;
  mark_on_none = refl;
  components_so_far = refl;
  ligature_of_marks = λ l. refl;
  ligature_of_a_base = λ l. refl;
  next_subtable = refl;
  past_the_limit = refl;
  next_is_counted = refl;
  none_past_the_limit = refl;
  none_after_one_that_applied = refl;
}
