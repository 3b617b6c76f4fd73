-- Marks attached to bases, ligatures and marks, on subtables that were read by hand.
use Rattle.std.specs.Prelude.{◌≡◌, ℕ, pos, negsuc, List, [], ◌∷◌, ◌++◌, Option, Some, None, true, false, length, refl}
use Rattle.shape_common.specs.Wrapping.{◌-ʷ◌}
use Rattle.std.specs.Int.{int_wrap}
use Rattle.shape_common.specs.declared.text_types.Direction.TheVariants.{LeftToRight}
use Rattle.shape_font.specs.Bytes.{i16_of}
use Rattle.shape_items.specs.Items.{Item}
use Rattle.layout_tables.specs.declared.lookups.LookupSubtable.{LookupSubtable}
use Rattle.layout_matching.specs.declared.lookup.Lookup.{Lookup}
use Rattle.layout_positions.specs.Lookups.{Applied}
use Rattle.layout_positions.specs.Marks.{base_of, base_work, search_work, seek_work, mark_base_applied, mark_ligature_applied, mark_mark_applied}
use Rattle.layout_positions.specs.Marks.{for_marks, is_base_seen}
use Rattle.layout_positions.specs.Walk.{none_seen}
use Rattle.layout_positions.specs.Worked.Lines.{base, mark, ligature, mark_on, component_of, ignorable, line, offsets, chains, masks}
use Rattle.layout_positions.specs.Worked.Pairs.{IsLookup}

-- mark 8 of class 1, its anchor at 10, 20; glyph 2 with an anchor at 300, 500 for class 1, and none for class 0
abbrev pub on_bases : List ℕ
on_bases = 0 ∷ 1 ∷ 0 ∷ 12 ∷ 0 ∷ 18 ∷ 0 ∷ 2 ∷ 0 ∷ 24 ∷ 0 ∷ 30 ∷ 0 ∷ 1 ∷ 0 ∷ 1 ∷ 0 ∷ 8 ∷ 0 ∷ 1 ∷ 0 ∷ 1 ∷ 0 ∷ 2
    ∷ 0 ∷ 1 ∷ 0 ∷ 1 ∷ 0 ∷ 12 ∷ 0 ∷ 1 ∷ 0 ∷ 0 ∷ 0 ∷ 12 ∷ 0 ∷ 1 ∷ 0 ∷ 10 ∷ 0 ∷ 20 ∷ 0 ∷ 1 ∷ 1 ∷ 44 ∷ 1 ∷ 244 ∷ []

-- mark 8 of class 0, its anchor at 10, 0; ligature 4 of three components with anchors at 100, 200 and 300
abbrev pub on_ligatures : List ℕ
on_ligatures = 0 ∷ 1 ∷ 0 ∷ 12 ∷ 0 ∷ 18 ∷ 0 ∷ 1 ∷ 0 ∷ 24 ∷ 0 ∷ 30 ∷ 0 ∷ 1 ∷ 0 ∷ 1 ∷ 0 ∷ 8 ∷ 0 ∷ 1 ∷ 0 ∷ 1 ∷ 0 ∷ 4
    ∷ 0 ∷ 1 ∷ 0 ∷ 0 ∷ 0 ∷ 24 ∷ 0 ∷ 1 ∷ 0 ∷ 4 ∷ 0 ∷ 3 ∷ 0 ∷ 8 ∷ 0 ∷ 20 ∷ 0 ∷ 26 ∷ 0 ∷ 1 ∷ 0 ∷ 100 ∷ 0 ∷ 0
    ∷ 0 ∷ 1 ∷ 0 ∷ 10 ∷ 0 ∷ 0 ∷ 0 ∷ 1 ∷ 0 ∷ 200 ∷ 0 ∷ 0 ∷ 0 ∷ 1 ∷ 1 ∷ 44 ∷ 0 ∷ 0 ∷ []

abbrev on_base : Lookup → List Item → Applied
on_base l items = mark_base_applied l 0 (Some 0) 1 (line LeftToRight items)

abbrev on_ligature : Lookup → Item → Applied
on_ligature l x = mark_ligature_applied l 0 (Some 0) 1 (line LeftToRight (ligature 4 5 0 ∷ x ∷ []))

abbrev on_mark : Lookup → Item → Item → Applied
on_mark l x y = mark_mark_applied l 0 1 (line LeftToRight (x ∷ y ∷ []))

-- the masks of a line in which what is unsafe to concat is asked for
abbrev base_asked : Lookup → Option ℕ → List Item → List ℕ
base_asked l place items = masks (mark_base_applied l 0 place 1 (record (line LeftToRight items) { flags = record { 0 = 64 } })).buffer

abbrev mark_asked : Lookup → List Item → List ℕ
mark_asked l items = masks (mark_mark_applied l 0 1 (record (line LeftToRight items) { flags = record { 0 = 64 } })).buffer

pub record WorkedMarks : Type 0 where
  pub anchors_meet : (l : Lookup) → IsLookup l on_bases 0
      → offsets (on_base l (base 2 0 ∷ mark 8 0 ∷ [])).buffer ≡ (pos 0, pos 0) ∷ (pos 290, pos 480) ∷ []
  pub attached_to_the_base : (l : Lookup) → IsLookup l on_bases 0
      → chains (on_base l (base 2 0 ∷ mark 8 0 ∷ [])).buffer ≡ pos 0 ∷ negsuc 0 ∷ []
  pub goes_on : (l : Lookup) → IsLookup l on_bases 0 → (on_base l (base 2 0 ∷ mark 8 0 ∷ [])).next ≡ Some 2
  pub unsafe_between : (l : Lookup) → IsLookup l on_bases 0 → masks (on_base l (base 2 0 ∷ mark 8 1 ∷ [])).buffer ≡ 16 ∷ 19 ∷ []
  pub other_base : (l : Lookup) → IsLookup l on_bases 0 → (on_base l (base 3 0 ∷ mark 8 0 ∷ [])).next ≡ None
  pub other_mark : (l : Lookup) → IsLookup l on_bases 0 → (on_base l (base 2 0 ∷ mark 7 0 ∷ [])).next ≡ None
  pub no_base : (l : Lookup) → IsLookup l on_bases 0 → (mark_base_applied l 0 None 0 (line LeftToRight (mark 8 0 ∷ []))).next ≡ None
  -- 2 is UNSAFE_TO_CONCAT
  pub other_base_in_vain : (l : Lookup) → IsLookup l on_bases 0
      → base_asked l (Some 0) (base 3 0 ∷ mark 8 1 ∷ base 7 2 ∷ []) ≡ 18 ∷ 18 ∷ 16 ∷ []
  pub no_base_in_vain : (l : Lookup) → IsLookup l on_bases 0 → base_asked l None (mark 7 0 ∷ mark 8 1 ∷ base 7 2 ∷ []) ≡ 18 ∷ 18 ∷ 16 ∷ []
  -- a mark on a mark: bases and ligatures are seen, whatever the flags
  pub no_class_is_skipped : (l : Lookup) → (for_marks (record l { flags = 6 })).flags ≡ 0
  pub lookup_is_off : (l : Lookup) → is_base_seen (record l { mask = 1; positioning = true; auto_zwj = true }) (record (base 2 0) { mask = 2 }) ≡ false

pub worked_marks : WorkedMarks
unfolding i16_of ◌-ʷ◌ int_wrap
worked_marks = record {
  anchors_meet = λ l is. rw (is.scale, is.table) refl;
  attached_to_the_base = λ l is. rw is.table refl;
  goes_on = λ l is. rw is.table refl;
  unsafe_between = λ l is. rw is.table refl;
  other_base = λ l is. rw is.table refl;
  other_mark = λ l is. rw is.table refl;
  no_base = λ l is. rw is.table refl;
  other_base_in_vain = λ l is. rw is.table refl;
  no_base_in_vain = λ l is. rw is.table refl;
  no_class_is_skipped = λ l. refl;
  lookup_is_off = λ l. refl;
}

-- ---- the base of a mark

-- subtables at 0: one of bases, which lists glyph 2, and one of ligatures
abbrev of_bases : LookupSubtable
of_bases = record { kind = 4; start = 0 }

abbrev of_ligatures : LookupSubtable
of_ligatures = record { kind = 5; start = 0 }

pub record WorkedBases : Type 0 where
  pub before_it : (l : Lookup) → IsLookup l [] 0 → base_of l of_bases (base 2 0 ∷ mark 8 0 ∷ []) 1 none_seen ≡ Some 0
  pub over_marks : (l : Lookup) → IsLookup l [] 0 → base_of l of_bases (base 2 0 ∷ mark 8 0 ∷ mark 8 0 ∷ []) 2 none_seen ≡ Some 0
  pub over_ignorables : (l : Lookup) → IsLookup l [] 0 → base_of l of_bases (base 2 0 ∷ ignorable 0 ∷ mark 8 0 ∷ []) 2 none_seen ≡ Some 0
  pub not_past_another_base : (l : Lookup) → IsLookup l [] 0 → base_of l of_bases (base 2 0 ∷ base 3 1 ∷ mark 8 1 ∷ []) 2 none_seen ≡ Some 1
  pub seen_before : (l : Lookup) → IsLookup l [] 0
      → base_of l of_bases (base 2 0 ∷ mark 8 0 ∷ mark 8 0 ∷ []) 2 (record { until = 1; place = Some 0 }) ≡ Some 0
  pub another_one_since : (l : Lookup) → IsLookup l [] 0
      → base_of l of_bases (base 2 0 ∷ base 3 1 ∷ mark 8 1 ∷ []) 2 (record { until = 1; place = Some 0 }) ≡ Some 1
  pub seen_too_far : (l : Lookup) → IsLookup l [] 0
      → base_of l of_bases (base 2 0 ∷ mark 8 0 ∷ base 3 1 ∷ []) 1 (record { until = 3; place = Some 2 }) ≡ Some 0
  pub none : (l : Lookup) → IsLookup l [] 0 → base_of l of_bases (mark 8 0 ∷ mark 8 0 ∷ []) 1 none_seen ≡ None

pub worked_bases : WorkedBases
worked_bases = record {
  before_it = λ l is. rw is.mask refl;
  over_marks = λ l is. rw is.mask refl;
  over_ignorables = λ l is. rw (is.mask, is.zwj, is.positioning) refl;
  not_past_another_base = λ l is. rw is.mask refl;
  seen_before = λ l is. refl;
  another_one_since = λ l is. rw is.mask refl;
  seen_too_far = λ l is. rw is.mask refl;
  none = λ l is. refl;
}

-- one for each place that is looked at, and one for every four glyphs from the base on
pub record WorkedBaseWork : Type 0 where
  pub three_places : base_work 3 none_seen (Some 0) ≡ 3
  pub no_base : base_work 5 none_seen None ≡ 6
  pub one_place_more : base_work 9 (record { until = 8; place = Some 0 }) (Some 0) ≡ 3
  pub none_more : base_work 3 (record { until = 3; place = Some 0 }) (Some 0) ≡ 0
  pub base_since_then : base_work 9 (record { until = 4; place = Some 0 }) (Some 7) ≡ 2
  pub back_again : base_work 9 (record { until = 20; place = Some 15 }) (Some 1) ≡ 10

pub worked_base_work : WorkedBaseWork
worked_base_work = record {
  three_places = refl;
  no_base = refl;
  one_place_more = refl;
  none_more = refl;
  base_since_then = refl;
  back_again = refl;
}

-- ---- of a glyph that was taken apart the first component is the base

abbrev of_ligature : ℕ → Item → Item
of_ligature id item = record item { properties = record item.properties { ligature_id = id } }

abbrev base_in : Lookup → LookupSubtable → List Item → Option ℕ
base_in l subtable items = base_of l subtable (items ++ mark 8 0 ∷ []) (length items) none_seen

pub record WorkedMultiplied : Type 0 where
  pub first_component : (l : Lookup) → IsLookup l on_bases 0
      → base_in l of_bases (component_of 0 (base 2 0) ∷ component_of 1 (base 3 0) ∷ []) ≡ Some 0
  pub first_of_three : (l : Lookup) → IsLookup l on_bases 0
      → base_in l of_bases (component_of 0 (base 5 0) ∷ component_of 1 (base 3 0) ∷ component_of 2 (base 3 0) ∷ []) ≡ Some 0
  pub component_that_is_listed : (l : Lookup) → IsLookup l on_bases 0
      → base_in l of_bases (component_of 0 (base 3 0) ∷ component_of 1 (base 2 0) ∷ []) ≡ Some 1
  pub mark_on_the_first : (l : Lookup) → IsLookup l on_bases 0
      → base_of l of_bases (component_of 0 (base 3 0) ∷ mark 8 0 ∷ component_of 1 (base 5 0) ∷ []) 1 none_seen ≡ Some 0
  pub component_after_a_mark : (l : Lookup) → IsLookup l on_bases 0
      → base_in l of_bases (component_of 0 (base 2 0) ∷ component_of 1 (mark 7 0) ∷ component_of 2 (base 3 0) ∷ []) ≡ Some 2
  -- the next glyph is another one's component
  pub next_first_component : (l : Lookup) → IsLookup l on_bases 0
      → base_in l of_bases (component_of 0 (base 2 0) ∷ component_of 0 (base 3 0) ∷ []) ≡ Some 1
  pub not_the_component_before : (l : Lookup) → IsLookup l on_bases 0
      → base_in l of_bases (component_of 0 (base 2 0) ∷ component_of 2 (base 3 0) ∷ []) ≡ Some 1
  pub of_another_ligature : (l : Lookup) → IsLookup l on_bases 0
      → base_in l of_bases (component_of 0 (of_ligature 1 (base 2 0)) ∷ component_of 1 (of_ligature 2 (base 3 0)) ∷ []) ≡ Some 1
  pub of_one_ligature : (l : Lookup) → IsLookup l on_bases 0
      → base_in l of_bases (component_of 0 (of_ligature 1 (base 2 0)) ∷ component_of 1 (of_ligature 1 (base 3 0)) ∷ []) ≡ Some 0
  pub after_a_whole_glyph : (l : Lookup) → IsLookup l on_bases 0 → base_in l of_bases (base 2 0 ∷ component_of 1 (base 3 0) ∷ []) ≡ Some 1
  pub whole_glyph : (l : Lookup) → IsLookup l on_bases 0
      → base_in l of_bases (component_of 0 (base 2 0)
      ∷ record (base 3 0) { properties = record (component_of 1 (base 3 0)).properties { multiplied = false } } ∷ [])
      ≡ Some 1
  pub first_in_the_line : (l : Lookup) → IsLookup l on_bases 0 → base_in l of_bases (component_of 1 (base 3 0) ∷ []) ≡ Some 0
  pub for_ligatures : (l : Lookup) → IsLookup l on_bases 0
      → base_in l of_ligatures (component_of 0 (base 2 0) ∷ component_of 1 (base 3 0) ∷ []) ≡ Some 1
  -- a component that one subtable passed over stays passed over for the next one
  pub passed_over_before : (l : Lookup) → IsLookup l on_bases 0
      → base_of l of_bases (component_of 0 (base 3 0) ∷ component_of 1 (base 2 0) ∷ mark 8 0 ∷ []) 2 (record { until = 2; place = Some 0 })
      ≡ Some 0

pub worked_multiplied : WorkedMultiplied
worked_multiplied = record {
  first_component = λ l is. rw (is.mask, is.table) refl;
  first_of_three = λ l is. rw (is.mask, is.table) refl;
  component_that_is_listed = λ l is. rw (is.mask, is.table) refl;
  mark_on_the_first = λ l is. rw is.mask refl;
  component_after_a_mark = λ l is. rw is.mask refl;
  next_first_component = λ l is. rw is.mask refl;
  not_the_component_before = λ l is. rw is.mask refl;
  of_another_ligature = λ l is. rw is.mask refl;
  of_one_ligature = λ l is. rw (is.mask, is.table) refl;
  after_a_whole_glyph = λ l is. rw is.mask refl;
  whole_glyph = λ l is. rw is.mask refl;
  first_in_the_line = λ l is. rw is.mask refl;
  for_ligatures = λ l is. rw is.mask refl;
  passed_over_before = λ l is. refl;
}

-- ---- what a search of the list costs: 7 more for each place, which is 8 with the place

-- glyphs of three components and a mark; the second component and the third are searched for
abbrev components : List Item
components = component_of 0 (base 5 0) ∷ component_of 1 (base 3 0) ∷ component_of 2 (base 3 0) ∷ mark 8 0 ∷ []

pub record WorkedSearchWork : Type 0 where
  pub two_components : (l : Lookup) → IsLookup l on_bases 0 → search_work l of_bases components 3 none_seen (Some 0) ≡ 14
  pub three_places_two_searched : (l : Lookup) → IsLookup l on_bases 0 → seek_work l of_bases components 3 none_seen (Some 0) ≡ 17
  pub one_component : (l : Lookup) → IsLookup l on_bases 0 → search_work l of_bases components 3 none_seen (Some 2) ≡ 7
  -- no base: four places, and one for the four of them
  pub up_to_the_start : (l : Lookup) → IsLookup l on_bases 0
      → seek_work l of_bases (components ++ mark 8 0 ∷ []) 4 none_seen None ≡ 19
  pub looked_at_before : (l : Lookup) → IsLookup l on_bases 0
      → search_work l of_bases components 3 (record { until = 3; place = Some 0 }) (Some 0) ≡ 0
  pub no_component : (l : Lookup) → IsLookup l on_bases 0
      → seek_work l of_bases (base 2 0 ∷ mark 8 0 ∷ mark 8 0 ∷ []) 2 none_seen (Some 0) ≡ 2
  pub not_for_ligatures : (l : Lookup) → IsLookup l on_bases 0 → search_work l of_ligatures components 3 none_seen (Some 0) ≡ 0

pub worked_search_work : WorkedSearchWork
worked_search_work = record {
  two_components = λ l is. rw is.mask refl;
  three_places_two_searched = λ l is. rw is.mask refl;
  one_component = λ l is. rw is.mask refl;
  up_to_the_start = λ l is. rw is.mask refl;
  looked_at_before = λ l is. refl;
  no_component = λ l is. rw is.mask refl;
  not_for_ligatures = λ l is. refl;
}

-- ---- components, and marks on marks

pub record WorkedComponents : Type 0 where
  pub first : (l : Lookup) → IsLookup l on_ligatures 0
      → offsets (on_ligature l (mark_on 8 5 1 0)).buffer ≡ (pos 0, pos 0) ∷ (pos 90, pos 0) ∷ []
  pub second : (l : Lookup) → IsLookup l on_ligatures 0
      → offsets (on_ligature l (mark_on 8 5 2 0)).buffer ≡ (pos 0, pos 0) ∷ (pos 190, pos 0) ∷ []
  pub third : (l : Lookup) → IsLookup l on_ligatures 0
      → offsets (on_ligature l (mark_on 8 5 3 0)).buffer ≡ (pos 0, pos 0) ∷ (pos 290, pos 0) ∷ []
  -- a mark past the components, of another ligature, or that came after, stands on the last one
  pub past_them : (l : Lookup) → IsLookup l on_ligatures 0
      → offsets (on_ligature l (mark_on 8 5 4 0)).buffer ≡ (pos 0, pos 0) ∷ (pos 290, pos 0) ∷ []
  pub of_another : (l : Lookup) → IsLookup l on_ligatures 0
      → offsets (on_ligature l (mark_on 8 6 1 0)).buffer ≡ (pos 0, pos 0) ∷ (pos 290, pos 0) ∷ []
  pub after_it : (l : Lookup) → IsLookup l on_ligatures 0
      → offsets (on_ligature l (mark 8 0)).buffer ≡ (pos 0, pos 0) ∷ (pos 290, pos 0) ∷ []
  pub on_the_mark_before : (l : Lookup) → IsLookup l on_bases 0
      → offsets (on_mark l (mark 2 0) (mark 8 0)).buffer ≡ (pos 0, pos 0) ∷ (pos 290, pos 480) ∷ []
  pub not_on_a_base : (l : Lookup) → IsLookup l on_bases 0 → (on_mark l (base 2 0) (mark 8 0)).next ≡ None
  pub same_component : (l : Lookup) → IsLookup l on_bases 0 → (on_mark l (mark_on 2 5 1 0) (mark_on 8 5 1 0)).next ≡ Some 2
  pub other_component : (l : Lookup) → IsLookup l on_bases 0 → (on_mark l (mark_on 2 5 1 0) (mark_on 8 5 2 0)).next ≡ None
  pub other_ligature : (l : Lookup) → IsLookup l on_bases 0 → (on_mark l (mark_on 2 5 1 0) (mark_on 8 6 1 0)).next ≡ None
  pub mark_that_is_a_ligature : (l : Lookup) → IsLookup l on_bases 0 → (on_mark l (mark_on 2 5 0 0) (mark 8 0)).next ≡ Some 2
  -- marks are seen though the flags skip marks
  pub whatever_the_flags : (l : Lookup) → IsLookup l on_bases 8 → (on_mark l (mark 2 0) (mark 8 0)).next ≡ Some 2
  pub no_ligature_of_this_mark : (l : Lookup) → IsLookup l on_bases 0 → (on_mark l (mark 2 0) (mark_on 8 5 0 0)).next ≡ Some 2
  pub components_of_no_ligature : (l : Lookup) → IsLookup l on_bases 0 → (on_mark l (mark_on 2 0 1 0) (mark_on 8 0 2 0)).next ≡ Some 2
  pub one_base_and_a_component : (l : Lookup) → IsLookup l on_bases 0 → (on_mark l (mark 2 0) (mark_on 8 5 1 0)).next ≡ None
  -- the upper byte is the class of the marks that the lookup sees
  pub of_another_class : (l : Lookup) → IsLookup l on_bases 0x200 → (on_mark l (mark 2 0) (mark 8 0)).next ≡ None
  pub base_in_vain : (l : Lookup) → IsLookup l on_bases 0 → mark_asked l (base 2 0 ∷ mark 8 1 ∷ base 7 2 ∷ []) ≡ 18 ∷ 18 ∷ 16 ∷ []

pub worked_components : WorkedComponents
unfolding i16_of ◌-ʷ◌ int_wrap
worked_components = record {
  first = λ l is. rw (is.scale, is.table) refl;
  second = λ l is. rw (is.scale, is.table) refl;
  third = λ l is. rw (is.scale, is.table) refl;
  past_them = λ l is. rw (is.scale, is.table) refl;
  of_another = λ l is. rw (is.scale, is.table) refl;
  after_it = λ l is. rw (is.scale, is.table) refl;
  on_the_mark_before = λ l is. rw (is.scale, is.table, is.flags, is.mask) refl;
  not_on_a_base = λ l is. rw (is.table, is.flags, is.mask) refl;
  same_component = λ l is. rw (is.table, is.flags, is.mask) refl;
  other_component = λ l is. rw (is.table, is.flags, is.mask) refl;
  other_ligature = λ l is. rw (is.table, is.flags, is.mask) refl;
  mark_that_is_a_ligature = λ l is. rw (is.table, is.flags, is.mask) refl;
  whatever_the_flags = λ l is. rw (is.table, is.flags, is.mask) refl;
  no_ligature_of_this_mark = λ l is. rw (is.table, is.flags, is.mask) refl;
  components_of_no_ligature = λ l is. rw (is.table, is.flags, is.mask) refl;
  one_base_and_a_component = λ l is. rw (is.table, is.flags, is.mask) refl;
  of_another_class = λ l is. rw (is.table, is.flags) refl;
  base_in_vain = λ l is. rw (is.table, is.flags, is.mask) refl;
}
