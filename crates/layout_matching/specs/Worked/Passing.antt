-- What lookups are charged for where they pass over glyphs that lists are searched for, computed by hand.
use Rattle.std.specs.Prelude.{◌≡◌, ℕ, List, [], ◌∷◌, Some, true, false, refl}
use Rattle.shape_font.specs.Worked.Glyphs.{words}
use Rattle.shape_items.specs.Items.{Item}
use Rattle.layout_matching.specs.Skipping.{is_mark_left_out}
use Rattle.layout_matching.specs.Work.{searches, passing_work, passed_after, passed_before, lookup_charged, IsBeside}
use Rattle.layout_matching.specs.Worked.Work.{shared_ligatures, shared_rules, one_rule, two_subtables, over_marks, of_positions, plain, a_mark, a_zwj, a_zwnj}
use Rattle.layout_matching.specs.declared.lookup.Lookup.{Lookup}

-- a `GDEF` whose one set of marks is of glyph 7
abbrev pub set_of_seven : List ℕ
set_of_seven = words (1 ∷ 2 ∷ 0 ∷ 0 ∷ 0 ∷ 0 ∷ 14 ∷ 1 ∷ 1 ∷ 0 ∷ 8 ∷ 1 ∷ 1 ∷ 7 ∷ [])

-- a lookup that sees the marks of that set alone
abbrev pub by_set : Lookup → Lookup
by_set l = record (over_marks l) { flags = 16; mark_set = 0 }

-- glyph 5 is of class 1, glyph 6 of class 2; a rule of class 1 wants class 2 after its glyph, and names no lookup
abbrev pub by_classes : List ℕ
by_classes = words (5 ∷ 8 ∷ 1 ∷ 8 ∷ 2 ∷ 12 ∷ 18 ∷ 2 ∷ 0 ∷ 28 ∷ 1 ∷ 1 ∷ 5 ∷ 1 ∷ 5 ∷ 2 ∷ 1 ∷ 2 ∷ 1 ∷ 4 ∷ 2 ∷ 0 ∷ 2 ∷ [])

-- rules of two glyphs that name one lookup, two lookups, and one
abbrev pub unlike_rules : List ℕ
unlike_rules = words (5 ∷ 8 ∷ 1 ∷ 8 ∷ 1 ∷ 8 ∷ 1 ∷ 14 ∷ 1 ∷ 1 ∷ 5 ∷ 3 ∷ 8 ∷ 18 ∷ 8 ∷ 2 ∷ 1 ∷ 6 ∷ 0 ∷ 0 ∷ 2 ∷ 2 ∷ 6 ∷ 0 ∷ 0 ∷ 0 ∷ 0 ∷ [])

-- a chained rule of glyph 5 that wants glyph 4 before it, and names no lookup
abbrev pub after_four : List ℕ
after_four = words (6 ∷ 8 ∷ 1 ∷ 8 ∷ 1 ∷ 8 ∷ 1 ∷ 14 ∷ 1 ∷ 1 ∷ 5 ∷ 1 ∷ 4 ∷ 1 ∷ 4 ∷ 1 ∷ 0 ∷ 0 ∷ [])

abbrev pub in_syllable : ℕ → Item → Item
in_syllable n item = record item { properties = record item.properties { syllable = n } }

-- a mark of the set
abbrev pub a_seven : Item
a_seven = record a_mark { glyph_id = 7 }

-- one that is a default ignorable too
abbrev pub ignorable_seven : Item
ignorable_seven = record a_seven { properties = record a_seven.properties { ignorable = true } }

-- what is left of 100 at the first glyph, to a lookup that ignores marks, and to one that sees those of the set
abbrev pub Leaves : List ℕ → List Item → ℕ → Type 0
Leaves table items left = (l : Lookup) → l.table.now ≡ table → lookup_charged (over_marks l) items 0 100 ≡ Some left

abbrev pub LeavesBySet : List ℕ → List Item → ℕ → Type 0
LeavesBySet table items left = (l : Lookup) → l.gdef.now ≡ set_of_seven → l.table.now ≡ table
    → lookup_charged (by_set l) items 0 100 ≡ Some left

pub record WorkedPassing : Type 0 where
  -- 84 after two rules of 4 units each; a mark that isn't of the set costs 8, once for the set, for each rule and for a lookup
  pub rules_by_set : LeavesBySet shared_rules (plain 5 ∷ a_mark ∷ plain 6 ∷ []) 52
  -- one of the set isn't passed over
  pub rules_at_a_mark_of_the_set : LeavesBySet shared_rules (plain 5 ∷ a_seven ∷ plain 6 ∷ []) 84
  pub rules_without_a_mark : LeavesBySet shared_rules (plain 5 ∷ plain 6 ∷ []) 84
  -- 85 after three ligatures, of which one is NULL: for the set and for two of them
  pub ligatures_by_set : LeavesBySet shared_ligatures (plain 5 ∷ a_mark ∷ plain 6 ∷ []) 61
  -- rules that the next glyph refuses look no further: the set alone looks over the mark
  pub refused_rules : Leaves shared_rules (plain 5 ∷ a_mark ∷ plain 7 ∷ []) 83
  pub refused_rules_by_set : LeavesBySet shared_rules (plain 5 ∷ a_mark ∷ plain 7 ∷ []) 76
  -- 79 after rules of 4, 5 and 4 units; the set, each of the three, and the two lookups of the second
  pub most_lookups : Leaves unlike_rules (plain 5 ∷ a_mark ∷ plain 6 ∷ []) 73
  -- 89 after a rule of 3 units; the set and the rule, which the glyph before doesn't refuse, though it is of another syllable
  pub of_any_syllable : (l : Lookup) → l.table.now ≡ after_four
      → lookup_charged (record (over_marks l) { per_syllable = true }) (in_syllable 2 (plain 4) ∷ a_mark ∷ in_syllable 1 (plain 5) ∷ [])
      2 100 ≡ Some 87
  -- 89 after a rule of two glyphs; a mark that is skipped is in no class
  pub classes : Leaves by_classes (plain 5 ∷ plain 6 ∷ []) 89
  pub classes_over_a_mark : Leaves by_classes (plain 5 ∷ a_mark ∷ plain 6 ∷ []) 87
  pub classes_refused : Leaves by_classes (plain 5 ∷ a_mark ∷ plain 5 ∷ []) 88
  -- that of ZWJ is searched for, once for the set and once for the rule
  pub classes_over_zwj : Leaves by_classes (plain 5 ∷ a_zwj ∷ plain 6 ∷ []) 73
  -- a rule of glyphs searches for none, once for the set, for each rule and for a lookup
  pub rules_over_zwj : Leaves shared_rules (plain 5 ∷ a_zwj ∷ plain 6 ∷ []) 80
  pub classes_by_set : LeavesBySet by_classes (plain 5 ∷ a_mark ∷ plain 6 ∷ []) 73
  -- a mark of the set that is a default ignorable is searched for in the set and in the classes: 15
  pub classes_by_set_over_both : LeavesBySet by_classes (plain 5 ∷ ignorable_seven ∷ plain 6 ∷ []) 59
  -- 74 after a rule of two lists; a mark costs 8, for itself and for its lookup
  pub lists_by_set : LeavesBySet one_rule (plain 5 ∷ a_mark ∷ plain 6 ∷ []) 58
  pub lists_by_set_over_both : LeavesBySet one_rule (plain 5 ∷ ignorable_seven ∷ plain 6 ∷ []) 44
  -- where a plain lookup begins at a glyph that is passed over: for each of two subtables 8, and 8 for a mark
  pub plain_by_set : (l : Lookup) → l.gdef.now ≡ set_of_seven → l.table.now ≡ two_subtables
      → lookup_charged (record (of_positions l) { flags = 16; mark_set = 0 }) (a_zwnj ∷ a_mark ∷ plain 6 ∷ []) 0 100 ≡ Some 68
  -- on the way to the second glyph that isn't passed over, and to the end if there is none
  pub to_the_second :
      (l : Lookup) → passed_after (over_marks l) false (plain 5 ∷ a_mark ∷ plain 6 ∷ a_mark ∷ a_mark ∷ plain 6 ∷ a_mark ∷ []) 0 2 ≡ 3
  pub to_the_end : (l : Lookup) → passed_after (over_marks l) false (plain 5 ∷ a_mark ∷ plain 6 ∷ a_mark ∷ a_mark ∷ []) 0 2 ≡ 3
  pub to_none : (l : Lookup) → passed_after (over_marks l) false (plain 5 ∷ a_mark ∷ []) 0 0 ≡ 0
  pub to_the_second_before :
      (l : Lookup) → passed_before (over_marks l) false (a_mark ∷ plain 6 ∷ a_mark ∷ a_mark ∷ plain 6 ∷ a_mark ∷ plain 5 ∷ []) 6 2 ≡ 3
  pub to_the_start : (l : Lookup) → passed_before (over_marks l) false (a_mark ∷ a_mark ∷ plain 6 ∷ a_mark ∷ plain 5 ∷ []) 4 2 ≡ 3
  -- no list, one, or two
  pub no_list : (l : Lookup) → passing_work (over_marks l) false a_mark ≡ 1
  pub no_list_of_a_skipped_mark : (l : Lookup) → searches (over_marks l) true a_mark ≡ 0
  pub one_list : (l : Lookup) → passing_work (over_marks l) true a_zwj ≡ 8
  pub the_set : (l : Lookup) → passing_work (by_set l) false a_mark ≡ 8
  pub no_set_of_a_letter : (l : Lookup) → passing_work (by_set l) false a_zwj ≡ 1
  pub two_lists : (l : Lookup) → l.gdef.now ≡ set_of_seven → passing_work (by_set l) true a_seven ≡ 15
  -- a set takes the place of a class (flags 0x0110): a mark of the set is seen, whatever its class, and no other mark is
  pub set_and_class : (l : Lookup) → l.gdef.now ≡ set_of_seven → is_mark_left_out (record (by_set l) { flags = 0x110 }) a_seven ≡ false
  pub class_without_the_set : (l : Lookup) → l.gdef.now ≡ set_of_seven → is_mark_left_out (record (by_set l) { flags = 0x110 })
      (record a_mark { properties = record a_mark.properties { mark_attachment_class = 1 } }) ≡ true
  -- to the next glyph over one mark, and to the one before over two; a rule that looks for none passes over nothing
  pub beside_after : (l : Lookup) → IsBeside (over_marks l) false (plain 6 ∷ a_mark ∷ a_mark ∷ plain 5 ∷ a_mark ∷ plain 6 ∷ []) 3
      (record { before = 0; after = 1; passed = 1 })
  pub beside_before : (l : Lookup) → IsBeside (over_marks l) false (plain 6 ∷ a_mark ∷ a_mark ∷ plain 5 ∷ a_mark ∷ plain 6 ∷ []) 3
      (record { before = 1; after = 0; passed = 2 })
  pub beside_both : (l : Lookup) → IsBeside (over_marks l) false (plain 6 ∷ a_mark ∷ a_mark ∷ plain 5 ∷ a_mark ∷ plain 6 ∷ []) 3
      (record { before = 1; after = 1; passed = 3 })
  pub beside_nothing : (l : Lookup) → IsBeside (over_marks l) false (a_mark ∷ plain 5 ∷ a_mark ∷ []) 1
      (record { before = 0; after = 0; passed = 0 })
  -- ZWJ is searched for in a list
  pub beside_in_a_list : (l : Lookup) → IsBeside (over_marks l) true (plain 5 ∷ a_zwj ∷ plain 6 ∷ []) 0
      (record { before = 0; after = 1; passed = 8 })

pub worked_passing : WorkedPassing
worked_passing = record {
  rules_by_set = λ l g t. rw g (rw t refl);
  rules_at_a_mark_of_the_set = λ l g t. rw g (rw t refl);
  rules_without_a_mark = λ l g t. rw g (rw t refl);
  ligatures_by_set = λ l g t. rw g (rw t refl);
  refused_rules = λ l t. rw t refl;
  refused_rules_by_set = λ l g t. rw g (rw t refl);
  most_lookups = λ l t. rw t refl;
  of_any_syllable = λ l t. rw t refl;
  classes = λ l t. rw t refl;
  classes_over_a_mark = λ l t. rw t refl;
  classes_refused = λ l t. rw t refl;
  classes_over_zwj = λ l t. rw t refl;
  rules_over_zwj = λ l t. rw t refl;
  classes_by_set = λ l g t. rw g (rw t refl);
  classes_by_set_over_both = λ l g t. rw g (rw t refl);
  lists_by_set = λ l g t. rw g (rw t refl);
  lists_by_set_over_both = λ l g t. rw g (rw t refl);
  plain_by_set = λ l g t. rw g (rw t refl);
  to_the_second = λ l. refl;
  to_the_end = λ l. refl;
  to_none = λ l. refl;
  to_the_second_before = λ l. refl;
  to_the_start = λ l. refl;
  no_list = λ l. refl;
  no_list_of_a_skipped_mark = λ l. refl;
  one_list = λ l. refl;
  the_set = λ l. refl;
  no_set_of_a_letter = λ l. refl;
  two_lists = λ l g. rw g refl;
  set_and_class = λ l g. rw g refl;
  class_without_the_set = λ l g. rw g refl;
  beside_after = λ l. refl;
  beside_before = λ l. refl;
  beside_both = λ l. refl;
  beside_nothing = λ l. refl;
  beside_in_a_list = λ l. refl;
}
