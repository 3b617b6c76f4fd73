-- What lookups are charged for, computed by hand on tables of 16-bit words.
use Rattle.std.specs.Prelude.{◌≡◌, ℕ, List, [], ◌∷◌, Some, None, true, false, refl}
use Rattle.shape_font.specs.Worked.Glyphs.{words}
use Rattle.shape_items.specs.Items.{Item, new_item, new_properties}
use Rattle.layout_matching.specs.Work.{is_plain, backward_rule, lists_charged, counted_charged, lookup_charged, nested_charged, walk_work, walks_charged}
use Rattle.layout_matching.specs.declared.lookup.Lookup.{Lookup}

-- three ligatures of two components that share one place, the last of them NULL
abbrev pub shared_ligatures : List ℕ
shared_ligatures = words (4 ∷ 8 ∷ 1 ∷ 8 ∷ 1 ∷ 8 ∷ 1 ∷ 14 ∷ 1 ∷ 1 ∷ 5 ∷ 3 ∷ 8 ∷ 8 ∷ 0 ∷ 50 ∷ 2 ∷ 6 ∷ [])

-- two rules of two glyphs and one lookup, which share one place
abbrev pub shared_rules : List ℕ
shared_rules = words (5 ∷ 8 ∷ 1 ∷ 8 ∷ 1 ∷ 8 ∷ 1 ∷ 14 ∷ 1 ∷ 1 ∷ 5 ∷ 2 ∷ 6 ∷ 6 ∷ 2 ∷ 1 ∷ 6 ∷ 0 ∷ 0 ∷ [])

-- a set of no rules
abbrev pub empty_set : List ℕ
empty_set = words (5 ∷ 8 ∷ 1 ∷ 8 ∷ 1 ∷ 8 ∷ 1 ∷ 14 ∷ 1 ∷ 1 ∷ 5 ∷ 0 ∷ [])

-- one rule of two lists and one lookup, in format 3
abbrev pub one_rule : List ℕ
one_rule = words (5 ∷ 8 ∷ 1 ∷ 8 ∷ 3 ∷ 2 ∷ 1 ∷ 14 ∷ 14 ∷ 0 ∷ 0 ∷ 1 ∷ 1 ∷ 5 ∷ [])

-- kind 8, with two glyphs before and one after
abbrev pub backward_table : List ℕ
backward_table = words (8 ∷ 8 ∷ 1 ∷ 8 ∷ 1 ∷ 18 ∷ 2 ∷ 18 ∷ 18 ∷ 1 ∷ 18 ∷ 1 ∷ 60 ∷ 1 ∷ 1 ∷ 5 ∷ [])

abbrev pub one_alternate : List ℕ
one_alternate = words (3 ∷ 8 ∷ 1 ∷ 8 ∷ 1 ∷ 8 ∷ 1 ∷ 14 ∷ 1 ∷ 1 ∷ 5 ∷ 1 ∷ 40 ∷ [])

-- the same subtable twice
abbrev pub two_subtables : List ℕ
two_subtables = words (1 ∷ 8 ∷ 2 ∷ 10 ∷ 10 ∷ 1 ∷ 6 ∷ 3 ∷ 1 ∷ 1 ∷ 5 ∷ [])

-- the same, of ligatures
abbrev pub two_of_ligatures : List ℕ
two_of_ligatures = words (4 ∷ 8 ∷ 2 ∷ 10 ∷ 10 ∷ 1 ∷ 8 ∷ 1 ∷ 14 ∷ 1 ∷ 1 ∷ 5 ∷ 1 ∷ 4 ∷ 50 ∷ 2 ∷ 6 ∷ [])

-- one without subtables
abbrev pub no_subtables : List ℕ
no_subtables = words (4 ∷ 8 ∷ 0 ∷ [])

-- an extension that stands for one of single substitution
abbrev pub extended_single : List ℕ
extended_single = words (7 ∷ 8 ∷ 1 ∷ 8 ∷ 1 ∷ 1 ∷ 0 ∷ 8 ∷ 1 ∷ 6 ∷ 3 ∷ 1 ∷ 1 ∷ 5 ∷ [])

-- context of `GPOS`, and an extension of `GPOS` that stands for it
abbrev pub context_of_positions : List ℕ
context_of_positions = words (7 ∷ 8 ∷ 1 ∷ 8 ∷ 3 ∷ 2 ∷ 1 ∷ 14 ∷ 14 ∷ 0 ∷ 0 ∷ 1 ∷ 1 ∷ 5 ∷ [])

abbrev pub extended_context : List ℕ
extended_context = words (9 ∷ 8 ∷ 1 ∷ 8 ∷ 1 ∷ 7 ∷ 0 ∷ 8 ∷ 3 ∷ 2 ∷ 1 ∷ 14 ∷ 14 ∷ 0 ∷ 0 ∷ 1 ∷ 1 ∷ 5 ∷ [])

-- a lookup of `GSUB` that ignores marks, and is on for bit 1 of a mask
abbrev pub over_marks : Lookup → Lookup
over_marks l = record l {
  place = 0;
  flags = 8;
  mask = 1;
  auto_zwnj = false;
  auto_zwj = true;
  per_syllable = false;
  random = false;
  positioning = false;
}

abbrev pub plain : ℕ → Item
plain glyph = record (new_item 0 0) { glyph_id = glyph; mask = 1 }

abbrev pub a_mark : Item
a_mark = record (plain 9) { properties = record new_properties { glyph_class = record { 0 = 8 } } }

-- marks on component 1 of the ligature with number 3, by glyph 5
abbrev pub on_component : Item
on_component = record (plain 5) { properties = record new_properties { ligature_id = 3; ligature_component = 1 } }

abbrev pub eight_marks : List Item → List Item
eight_marks rest = on_component ∷ on_component ∷ on_component ∷ on_component
    ∷ on_component ∷ on_component ∷ on_component ∷ on_component ∷ rest

-- the ligature
abbrev pub ligature_three : Item
ligature_three = record (plain 8) { properties = record new_properties { ligature_id = 3 } }

abbrev pub of_positions : Lookup → Lookup
of_positions l = record l { place = 0; flags = 8; positioning = true; random = false }

-- ZWNJ, by glyph 5
abbrev pub a_zwnj : Item
a_zwnj = record (plain 5) { properties = record new_properties { ignorable = true; zwnj = true } }

abbrev pub a_zwj : Item
a_zwj = record (plain 12) { properties = record new_properties { ignorable = true; zwj = true } }

-- what is left of 100 at a place
abbrev pub Leaves : List ℕ → List Item → ℕ → ℕ → Type 0
Leaves table items at left = (l : Lookup) → l.table.now ≡ table → lookup_charged (over_marks l) items at 100 ≡ Some left

pub record WorkedWork : Type 0 where
  -- 8 for the subtable, 3 for each ligature and 1 for a NULL offset
  pub ligatures : Leaves shared_ligatures (plain 5 ∷ []) 0 85
  pub just_enough : (l : Lookup) → l.table.now ≡ shared_ligatures → lookup_charged (over_marks l) (plain 5 ∷ []) 0 15 ≡ Some 0
  pub too_little : (l : Lookup) → l.table.now ≡ shared_ligatures → lookup_charged (over_marks l) (plain 5 ∷ []) 0 14 ≡ None
  pub another_glyph : Leaves shared_ligatures (plain 6 ∷ []) 0 100
  -- the set and each of its two ligatures look over the two marks, up to the second glyph or to the end, or back
  pub over_two_marks : Leaves shared_ligatures (plain 5 ∷ a_mark ∷ a_mark ∷ plain 6 ∷ []) 0 79
  pub to_the_end : Leaves shared_ligatures (plain 5 ∷ a_mark ∷ a_mark ∷ []) 0 79
  pub after_two_marks : Leaves shared_ligatures (plain 5 ∷ a_mark ∷ a_mark ∷ plain 5 ∷ []) 3 79
  pub marks_behind_the_second : Leaves shared_ligatures (plain 5 ∷ plain 6 ∷ a_mark ∷ a_mark ∷ []) 0 85
  -- 4 for each rule: two glyphs, a lookup and the rule
  pub rules : Leaves shared_rules (plain 5 ∷ []) 0 84
  -- each of them looks over the mark, the set once, and the one that applies once more for its lookup
  pub rules_over_a_mark : Leaves shared_rules (plain 5 ∷ a_mark ∷ plain 6 ∷ []) 0 80
  -- in the same way, over eight marks for the ligature that its first glyph stands on
  pub rules_of_marks : Leaves shared_rules (ligature_three ∷ eight_marks (on_component ∷ plain 6 ∷ [])) 9 76
  pub rules_of_three_marks :
      Leaves shared_rules (ligature_three ∷ on_component ∷ on_component ∷ on_component ∷ on_component ∷ plain 6 ∷ []) 4 84
  pub marks_of_another_ligature : Leaves shared_rules (ligature_three ∷ eight_marks (
      record on_component { properties = record on_component.properties { ligature_id = 4 } } ∷ plain 6 ∷ [])) 9 84
  pub marks_from_the_start : Leaves shared_rules (eight_marks (on_component ∷ plain 6 ∷ [])) 8 76
  -- a set without rules looks over what stands beside its glyph
  pub no_rules : Leaves empty_set (ligature_three ∷ eight_marks (on_component ∷ [])) 9 90
  pub no_rules_over_marks : Leaves empty_set (plain 5 ∷ a_mark ∷ a_mark ∷ plain 6 ∷ []) 0 90
  pub no_rules_after_marks : Leaves empty_set (plain 6 ∷ a_mark ∷ a_mark ∷ a_mark ∷ plain 5 ∷ []) 4 89
  -- positioning doesn't look for it
  pub positions_of_marks : (l : Lookup) → l.table.now ≡ context_of_positions
      → lookup_charged (of_positions l) (ligature_three ∷ eight_marks (on_component ∷ [])) 9 100 ≡ Some 74
  -- 8 for the subtable, 8 for each of two glyphs, which are searched for in lists, a lookup and the rule
  pub whole_rule : Leaves one_rule (plain 5 ∷ []) 0 74
  pub not_its_first_glyph : Leaves one_rule (plain 6 ∷ []) 0 100
  -- 1 more for a mark that it skips, for itself and for its lookup; 8 for ZWNJ, which its list is searched for
  pub whole_rule_over_a_mark : Leaves one_rule (plain 5 ∷ a_mark ∷ plain 6 ∷ []) 0 72
  pub whole_rule_over_zwnj : (l : Lookup) → l.table.now ≡ context_of_positions
      → lookup_charged (of_positions l) (plain 5 ∷ a_zwnj ∷ plain 6 ∷ []) 0 100 ≡ Some 58
  -- of the marks that it looks at for the ligature nothing is searched for
  pub whole_rule_of_marks : Leaves one_rule (ligature_three ∷ eight_marks (on_component ∷ [])) 9 70
  -- 8, 8 for each of four glyphs, and the rule; 1 for a mark that is skipped, 8 for ZWJ
  pub backwards : Leaves backward_table (plain 5 ∷ []) 0 59
  pub back_over_a_mark : Leaves backward_table (a_mark ∷ plain 5 ∷ []) 1 58
  pub back_over_zwj : Leaves backward_table (a_zwj ∷ plain 5 ∷ []) 1 51
  -- of these 8 for each of four glyphs, 7 are for the lists
  pub lists : lists_charged (backward_rule backward_table 8) 28 ≡ Some 0
  pub too_little_for_lists : lists_charged (backward_rule backward_table 8) 27 ≡ None
  pub without_lists : (l : Lookup) → counted_charged (over_marks l) (a_zwj ∷ plain 5 ∷ []) 1 (backward_rule backward_table 8) 100 ≡ Some 87
  -- kinds 1 to 3 are paid by the walk, but for an alternate at random, and an extension, whose type is 7
  pub alternate : Leaves one_alternate (plain 5 ∷ plain 6 ∷ plain 7 ∷ []) 0 100
  pub at_random : (l : Lookup) → l.table.now ≡ one_alternate
      → lookup_charged (record (over_marks l) { random = true }) (plain 5 ∷ plain 6 ∷ plain 7 ∷ []) 0 100 ≡ Some 89
  pub singles : Leaves two_subtables (plain 5 ∷ []) 0 100
  pub extension : Leaves extended_single (plain 5 ∷ []) 0 92
  -- in `GPOS` all but context is
  pub positions : (l : Lookup) → l.table.now ≡ two_subtables → lookup_charged (of_positions l) (plain 5 ∷ []) 0 100 ≡ Some 100
  pub context : (l : Lookup) → l.table.now ≡ context_of_positions → is_plain (of_positions l) ≡ false
  pub far_context : (l : Lookup) → l.table.now ≡ extended_context → is_plain (of_positions l) ≡ false
  -- but where it begins at a glyph that is passed over: 8 for each of two subtables, and what it passes over beside the glyph
  pub at_zwnj : (l : Lookup) → l.table.now ≡ two_subtables
      → lookup_charged (of_positions l) (a_zwnj ∷ a_zwnj ∷ a_zwnj ∷ []) 1 100 ≡ Some 80
  pub another_zwnj : (l : Lookup) → l.table.now ≡ two_subtables
      → lookup_charged (of_positions l) (a_zwnj ∷ record a_zwnj { glyph_id = 6 } ∷ a_zwnj ∷ []) 1 100 ≡ Some 100
  -- 8, and 3 for the ligature, for each of two subtables
  pub each_subtable : Leaves two_of_ligatures (plain 5 ∷ []) 0 78
  -- 8 for each subtable and 32, and what they cost at the place; 16 for each of a plain one
  pub nested : (l : Lookup) → l.table.now ≡ two_of_ligatures → nested_charged (over_marks l) (plain 5 ∷ []) 0 100 ≡ Some 30
  pub nested_singles : (l : Lookup) → l.table.now ≡ two_subtables → nested_charged (over_marks l) (plain 5 ∷ []) 0 100 ≡ Some 20
  pub walk : (l : Lookup) → l.table.now ≡ two_of_ligatures → walk_work (over_marks l) 3 ≡ 48
  pub walk_of_singles : (l : Lookup) → l.table.now ≡ two_subtables → walk_work (over_marks l) 3 ≡ 96
  -- 8, as for one subtable
  pub walk_of_none : (l : Lookup) → l.table.now ≡ no_subtables → walk_work (over_marks l) 3 ≡ 24
  -- in `GPOS` 10 more for the devices of each subtable, but where it isn't plain
  pub walk_of_devices : (l : Lookup) → l.table.now ≡ two_subtables → walk_work (record (of_positions l) { device_work = 10 }) 3 ≡ 156
  pub walk_of_gsub : (l : Lookup) → l.table.now ≡ two_subtables → walk_work (record (over_marks l) { device_work = 10 }) 3 ≡ 96
  pub walk_of_context : (l : Lookup) → l.table.now ≡ context_of_positions
      → walk_work (record (of_positions l) { device_work = 10 }) 3 ≡ 24
  pub nested_devices : (l : Lookup) → l.table.now ≡ two_subtables
      → nested_charged (record (of_positions l) { device_work = 10 }) (plain 5 ∷ []) 0 110 ≡ Some 10
  -- 48 for each lookup, and nothing is left where that doesn't suffice
  pub walks : (l : Lookup) → l.table.now ≡ two_of_ligatures → walks_charged (over_marks l ∷ over_marks l ∷ []) 3 100 ≡ 4
  pub walks_too_dear : (l : Lookup) → l.table.now ≡ two_of_ligatures → walks_charged (over_marks l ∷ over_marks l ∷ []) 3 95 ≡ 0

pub worked_work : WorkedWork
worked_work = record {
  ligatures = λ l t. rw t refl;
  just_enough = λ l t. rw t refl;
  too_little = λ l t. rw t refl;
  another_glyph = λ l t. rw t refl;
  over_two_marks = λ l t. rw t refl;
  to_the_end = λ l t. rw t refl;
  after_two_marks = λ l t. rw t refl;
  marks_behind_the_second = λ l t. rw t refl;
  rules = λ l t. rw t refl;
  rules_over_a_mark = λ l t. rw t refl;
  rules_of_marks = λ l t. rw t refl;
  rules_of_three_marks = λ l t. rw t refl;
  marks_of_another_ligature = λ l t. rw t refl;
  marks_from_the_start = λ l t. rw t refl;
  no_rules = λ l t. rw t refl;
  no_rules_over_marks = λ l t. rw t refl;
  no_rules_after_marks = λ l t. rw t refl;
  positions_of_marks = λ l t. rw t refl;
  whole_rule = λ l t. rw t refl;
  not_its_first_glyph = λ l t. rw t refl;
  whole_rule_over_a_mark = λ l t. rw t refl;
  whole_rule_over_zwnj = λ l t. rw t refl;
  whole_rule_of_marks = λ l t. rw t refl;
  backwards = λ l t. rw t refl;
  back_over_a_mark = λ l t. rw t refl;
  back_over_zwj = λ l t. rw t refl;
  lists = refl;
  too_little_for_lists = refl;
  without_lists = λ l. refl;
  alternate = λ l t. rw t refl;
  at_random = λ l t. rw t refl;
  singles = λ l t. rw t refl;
  extension = λ l t. rw t refl;
  positions = λ l t. rw t refl;
  context = λ l t. rw t refl;
  far_context = λ l t. rw t refl;
  at_zwnj = λ l t. rw t refl;
  another_zwnj = λ l t. rw t refl;
  each_subtable = λ l t. rw t refl;
  nested = λ l t. rw t refl;
  nested_singles = λ l t. rw t refl;
  walk = λ l t. rw t refl;
  walk_of_singles = λ l t. rw t refl;
  walk_of_none = λ l t. rw t refl;
  walk_of_devices = λ l t. rw t refl;
  walk_of_gsub = λ l t. rw t refl;
  walk_of_context = λ l t. rw t refl;
  nested_devices = λ l t. rw t refl;
  walks = λ l t. rw t refl;
  walks_too_dear = λ l t. rw t refl;
}
