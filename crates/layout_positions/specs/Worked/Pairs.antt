-- Single and pair adjustment, on subtables that were read by hand.
use Rattle.std.specs.Prelude.{◌≡◌, ℕ, ℤ, pos, negsuc, List, [], ◌∷◌, ◌++◌, Some, None, true, false, refl}
use Rattle.std.specs.Int.{int_wrap}
use Rattle.std.specs.Int.Count.{ones}
use Rattle.shape_common.specs.Wrapping.{◌+ʷ◌, ◌-ʷ◌}
use Rattle.shape_common.specs.declared.text_types.Direction.{Direction}
use Rattle.shape_common.specs.declared.text_types.Direction.TheVariants.{LeftToRight, RightToLeft, TopToBottom}
use Rattle.shape_font.specs.Bytes.{i16_of}
use Rattle.shape_items.specs.Items.{Item}
use Rattle.layout_matching.specs.declared.lookup.Lookup.{Lookup}
use Rattle.layout_positions.specs.Lookups.{Applied}
use Rattle.layout_positions.specs.Pairs.{single_of, single_applied, pair_of, pair_applied}
use Rattle.layout_positions.specs.Values.{none_counted}
use Rattle.layout_positions.specs.Worked.Lines.{over, base, mark, ignorable, line, advances, offsets, masks}
use Rattle.layout_positions.specs.declared.values.Adjustment.{Adjustment}

-- a list of glyphs 2 and 3
abbrev list : List ℕ
list = 0 ∷ 1 ∷ 0 ∷ 2 ∷ 0 ∷ 2 ∷ 0 ∷ 3 ∷ []

-- both 10 to the right and 50 narrower
abbrev pub single_one : List ℕ
single_one = 0 ∷ 1 ∷ 0 ∷ 10 ∷ 0 ∷ 5 ∷ 0 ∷ 10 ∷ 0xFF ∷ 0xCE ∷ list

-- 2 by 10, 3 by 20 upwards; a third glyph of the list would have no record
abbrev pub single_two : List ℕ
single_two = 0 ∷ 2 ∷ 0 ∷ 12 ∷ 0 ∷ 2 ∷ 0 ∷ 2 ∷ 0 ∷ 10 ∷ 0 ∷ 20 ∷ 0 ∷ 1 ∷ 0 ∷ 3 ∷ 0 ∷ 2 ∷ 0 ∷ 3 ∷ 0 ∷ 4 ∷ []

abbrev upwards : ℤ → Adjustment
upwards y = record { x_placement = pos 0; y_placement = y; x_advance = pos 0; y_advance = pos 0; counted = none_counted }

abbrev wider : ℤ → Adjustment
wider w = record { x_placement = pos 0; y_placement = pos 0; x_advance = w; y_advance = pos 0; counted = none_counted }

-- format 1: 2 then 3 by -50, 2 then 5 by -60, 3 then 3 by -70, on the advance of the first glyph
abbrev pub pairs_one : List ℕ
pairs_one = 0 ∷ 1 ∷ 0 ∷ 14 ∷ 0 ∷ 4 ∷ 0 ∷ 0 ∷ 0 ∷ 2 ∷ 0 ∷ 22 ∷ 0 ∷ 32 ∷ (list
    ++ (0 ∷ 2 ∷ 0 ∷ 3 ∷ 0xFF ∷ 0xCE ∷ 0 ∷ 5 ∷ 0xFF ∷ 0xC4 ∷ 0 ∷ 1 ∷ 0 ∷ 3 ∷ 0xFF ∷ 0xBA ∷ []))

-- the same for 2 then 3 with a record for the second glyph: 30 to the right
abbrev pub pairs_both : List ℕ
pairs_both = 0 ∷ 1 ∷ 0 ∷ 12 ∷ 0 ∷ 4 ∷ 0 ∷ 1 ∷ 0 ∷ 1 ∷ 0 ∷ 20 ∷ (list ++ (0 ∷ 1 ∷ 0 ∷ 3 ∷ 0xFF ∷ 0xCE ∷ 0 ∷ 30 ∷ []))

-- format 2 that states so many classes of each: 2 is of class 0 as a first glyph and 3 of class 1, 5 is of class 1 as a second one;
-- rows 0: 1, 2; 1: 3, 4
abbrev pairs_of_classes : ℕ → ℕ → List ℕ
pairs_of_classes firsts seconds = 0 ∷ 2 ∷ 0 ∷ 24 ∷ 0 ∷ 4 ∷ 0 ∷ 0 ∷ 0 ∷ 32 ∷ 0 ∷ 40 ∷ 0 ∷ firsts ∷ 0 ∷ seconds
    ∷ 0 ∷ 1 ∷ 0 ∷ 2 ∷ 0 ∷ 3 ∷ 0 ∷ 4
    ∷ (list ++ (0 ∷ 1 ∷ 0 ∷ 3 ∷ 0 ∷ 1 ∷ 0 ∷ 1 ∷ 0 ∷ 1 ∷ 0 ∷ 5 ∷ 0 ∷ 1 ∷ 0 ∷ 1 ∷ []))

abbrev pub pairs_two : List ℕ
pairs_two = pairs_of_classes 2 2

-- format 2 without lists of classes, so that all glyphs are of class 0, and one value
abbrev without_classes : List ℕ
without_classes = 0 ∷ 2 ∷ 0 ∷ 0 ∷ 0 ∷ 4 ∷ 0 ∷ 0 ∷ 0 ∷ 0 ∷ 0 ∷ 0 ∷ 0 ∷ 1 ∷ 0 ∷ 1 ∷ []

pub record WorkedTables : Type 0 where
  pub same_for_all : (l : Lookup) → single_of (over single_one l) 0 3
      ≡ Some (record { x_placement = pos 10; y_placement = pos 0; x_advance = negsuc 49; y_advance = pos 0; counted = none_counted })
  pub not_covered : (l : Lookup) → single_of (over single_one l) 0 4 ≡ None
  pub one_for_each : (l : Lookup) → single_of (over single_two l) 0 3 ≡ Some (upwards (pos 20))
  pub past_the_records : (l : Lookup) → single_of (over single_two l) 0 4 ≡ None
  pub listed : (l : Lookup) → pair_of (over pairs_one l) 0 0 2 3
      ≡ Some (record { first = wider (negsuc 49); second = wider (pos 0); has_second = false })
  pub listed_after_it : (l : Lookup) → pair_of (over pairs_one l) 0 0 2 5
      ≡ Some (record { first = wider (negsuc 59); second = wider (pos 0); has_second = false })
  pub listed_in_the_second_set : (l : Lookup) → pair_of (over pairs_one l) 0 1 3 3
      ≡ Some (record { first = wider (negsuc 69); second = wider (pos 0); has_second = false })
  pub not_listed : (l : Lookup) → pair_of (over pairs_one l) 0 0 2 4 ≡ None
  pub past_the_sets : (l : Lookup) → pair_of (over pairs_one l) 0 2 4 3 ≡ None
  pub second_record : (l : Lookup) → pair_of (over pairs_both l) 0 0 2 3 ≡ Some (record {
    first = wider (negsuc 49);
    second = record { x_placement = pos 30; y_placement = pos 0; x_advance = pos 0; y_advance = pos 0; counted = none_counted };
    has_second = true;
  })
  pub class_0_of_both : (l : Lookup) → pair_of (over pairs_two l) 0 0 2 7
      ≡ Some (record { first = wider (pos 1); second = wider (pos 0); has_second = false })
  pub class_0_then_1 : (l : Lookup) → pair_of (over pairs_two l) 0 0 2 5
      ≡ Some (record { first = wider (pos 2); second = wider (pos 0); has_second = false })
  pub class_1_then_0 : (l : Lookup) → pair_of (over pairs_two l) 0 1 3 7
      ≡ Some (record { first = wider (pos 3); second = wider (pos 0); has_second = false })
  pub class_1_then_1 : (l : Lookup) → pair_of (over pairs_two l) 0 1 3 5
      ≡ Some (record { first = wider (pos 4); second = wider (pos 0); has_second = false })
  pub other_format_of_single : (l : Lookup) → single_of (over (0 ∷ 3 ∷ 0 ∷ 10 ∷ 0 ∷ 5 ∷ 0 ∷ 10 ∷ 0xFF ∷ 0xCE ∷ list) l) 0 3 ≡ None
  pub past_the_first_classes : (l : Lookup) → pair_of (over (pairs_of_classes 1 2) l) 0 1 3 5 ≡ None
  pub past_the_second_classes : (l : Lookup) → pair_of (over (pairs_of_classes 2 1) l) 0 0 2 5 ≡ None
  pub all_of_class_0 : (l : Lookup) → pair_of (over (without_classes ++ 0 ∷ 9 ∷ []) l) 0 0 2 5
      ≡ Some (record { first = wider (pos 9); second = wider (pos 0); has_second = false })
  pub value_past_the_end : (l : Lookup) → pair_of (over (without_classes ++ 0 ∷ []) l) 0 0 2 5 ≡ None
  pub other_format_of_pairs : (l : Lookup) → pair_of (over (0 ∷ 3 ∷ 0 ∷ 0 ∷ 0 ∷ 4 ∷ 0 ∷ 0 ∷ 0 ∷ 0 ∷ 0 ∷ 0 ∷ 0 ∷ 1 ∷ 0 ∷ 1 ∷ 0 ∷ 9 ∷ []) l) 0 0 2 5
      ≡ None

pub worked_tables : WorkedTables
unfolding i16_of ones
worked_tables = record {
  same_for_all = λ _. refl;
  not_covered = λ _. refl;
  one_for_each = λ _. refl;
  past_the_records = λ _. refl;
  listed = λ _. refl;
  listed_after_it = λ _. refl;
  listed_in_the_second_set = λ _. refl;
  not_listed = λ _. refl;
  past_the_sets = λ _. refl;
  second_record = λ _. refl;
  class_0_of_both = λ _. refl;
  class_0_then_1 = λ _. refl;
  class_1_then_0 = λ _. refl;
  class_1_then_1 = λ _. refl;
  other_format_of_single = λ _. refl;
  past_the_first_classes = λ _. refl;
  past_the_second_classes = λ _. refl;
  all_of_class_0 = λ _. refl;
  value_past_the_end = λ _. refl;
  other_format_of_pairs = λ _. refl;
}

-- ---- over lines, by a lookup for bit 16 that passes over default ignorables, of a font at no size

pub record IsLookup (l : Lookup) (t : List ℕ) (f : ℕ) : Type 0 where
  pub table : l.table.now ≡ t
  pub scale : l.scale ≡ None
  pub flags : l.flags ≡ f
  pub mask : l.mask ≡ 16
  pub zwj : l.auto_zwj ≡ true
  pub positioning : l.positioning ≡ true
  pub syllables : l.per_syllable ≡ false

abbrev pair_by : Lookup → List Item → Applied
pair_by l items = pair_applied l 0 0 (line LeftToRight items)

-- the masks of a line in which what is unsafe to concat is asked for
abbrev masks_asked : Lookup → Direction → List Item → List ℕ
masks_asked l direction items = masks (pair_applied l 0 0 (record (line direction items) { flags = record { 0 = 64 } })).buffer

pub record WorkedLines : Type 0 where
  pub single : (l : Lookup) → IsLookup l single_one 0
      → offsets (single_applied l 0 1 (line LeftToRight (base 7 0 ∷ base 3 1 ∷ []))).buffer ≡ (pos 0, pos 0) ∷ (pos 10, pos 0) ∷ []
  pub single_goes_on : (l : Lookup) → IsLookup l single_one 0
      → (single_applied l 0 1 (line LeftToRight (base 7 0 ∷ base 3 1 ∷ []))).next ≡ Some 2
  pub first_glyph_narrower : (l : Lookup) → IsLookup l pairs_one 0
      → advances (pair_by l (base 2 0 ∷ base 3 1 ∷ [])).buffer ≡ (pos 550, pos 0) ∷ (pos 600, pos 0) ∷ []
  pub goes_on_at_the_second : (l : Lookup) → IsLookup l pairs_one 0 → (pair_by l (base 2 0 ∷ base 3 1 ∷ [])).next ≡ Some 1
  pub over_an_ignorable : (l : Lookup) → IsLookup l pairs_one 0
      → advances (pair_by l (base 2 0 ∷ ignorable 0 ∷ base 3 1 ∷ [])).buffer ≡ (pos 550, pos 0) ∷ (pos 600, pos 0) ∷ (pos 600, pos 0) ∷ []
  pub unsafe_between : (l : Lookup) → IsLookup l pairs_one 0
      → masks (pair_by l (base 2 0 ∷ base 3 1 ∷ base 7 2 ∷ [])).buffer ≡ 16 ∷ 19 ∷ 16 ∷ []
  pub not_over_a_mark : (l : Lookup) → IsLookup l pairs_one 0 → (pair_by l (base 2 0 ∷ mark 8 0 ∷ base 3 1 ∷ [])).next ≡ None
  pub over_a_mark_by_the_flag : (l : Lookup) → IsLookup l pairs_one 8
      → (pair_by l (base 2 0 ∷ mark 8 0 ∷ base 3 1 ∷ [])).next ≡ Some 2
  pub second_glyph_moved : (l : Lookup) → IsLookup l pairs_both 0
      → offsets (pair_by l (base 2 0 ∷ base 3 1 ∷ [])).buffer ≡ (pos 0, pos 0) ∷ (pos 30, pos 0) ∷ []
  pub goes_on_after_the_second : (l : Lookup) → IsLookup l pairs_both 0 → (pair_by l (base 2 0 ∷ base 3 1 ∷ [])).next ≡ Some 2
  pub unsafe_after_the_second : (l : Lookup) → IsLookup l pairs_both 0
      → masks (pair_by l (base 2 0 ∷ base 3 1 ∷ base 7 2 ∷ [])).buffer ≡ 16 ∷ 19 ∷ 19 ∷ []
  pub classes : (l : Lookup) → IsLookup l pairs_two 0
      → advances (pair_by l (base 2 0 ∷ base 7 1 ∷ [])).buffer ≡ (pos 601, pos 0) ∷ (pos 600, pos 0) ∷ []
  -- the first record has no advance down the line
  pub not_in_a_vertical_line : (l : Lookup) → IsLookup l pairs_one 0
      → advances (pair_applied l 0 0 (line TopToBottom (base 2 0 ∷ base 3 1 ∷ []))).buffer ≡ (pos 600, pos 0) ∷ (pos 600, pos 0) ∷ []
  pub backward : (l : Lookup) → IsLookup l pairs_one 0
      → advances (pair_applied l 0 0 (line RightToLeft (base 2 0 ∷ base 3 1 ∷ []))).buffer ≡ (pos 550, pos 0) ∷ (pos 600, pos 0) ∷ []
  -- 2 is UNSAFE_TO_CONCAT
  pub unlisted_in_vain : (l : Lookup) → IsLookup l pairs_one 0
      → masks_asked l LeftToRight (base 2 0 ∷ base 4 1 ∷ base 7 2 ∷ []) ≡ 18 ∷ 18 ∷ 16 ∷ []
  pub no_second_glyph : (l : Lookup) → IsLookup l pairs_one 0 → masks_asked l LeftToRight (base 2 0 ∷ []) ≡ 18 ∷ []
  pub off_for_the_second_glyph : (l : Lookup) → IsLookup l pairs_one 0
      → masks_asked l LeftToRight (base 2 0 ∷ record (base 3 1) { mask = 8 } ∷ base 7 2 ∷ []) ≡ 18 ∷ 10 ∷ 16 ∷ []
  -- a value for horizontal lines alone; a listed pair without effect is no reason
  pub classes_that_move_nothing : (l : Lookup) → IsLookup l pairs_two 0
      → masks_asked l TopToBottom (base 2 0 ∷ base 7 1 ∷ base 7 2 ∷ []) ≡ 18 ∷ 18 ∷ 16 ∷ []
  pub listed_that_moves_nothing : (l : Lookup) → IsLookup l pairs_one 0
      → masks_asked l TopToBottom (base 2 0 ∷ base 3 1 ∷ []) ≡ 16 ∷ 16 ∷ []

pub worked_lines : WorkedLines
unfolding i16_of ◌+ʷ◌ ◌-ʷ◌ int_wrap ones
worked_lines = record {
  single = λ l is. rw (is.scale, is.table) refl;
  single_goes_on = λ l is. rw is.table refl;
  first_glyph_narrower = λ l is. rw (is.scale, is.table, is.flags, is.mask) refl;
  goes_on_at_the_second = λ l is. rw (is.table, is.flags, is.mask) refl;
  over_an_ignorable = λ l is. rw (is.scale, is.table, is.flags, is.mask, is.zwj, is.positioning) refl;
  unsafe_between = λ l is. rw (is.scale, is.table, is.flags, is.mask) refl;
  not_over_a_mark = λ l is. rw (is.table, is.flags, is.mask) refl;
  over_a_mark_by_the_flag = λ l is. rw (is.table, is.flags, is.mask) refl;
  second_glyph_moved = λ l is. rw (is.scale, is.table, is.flags, is.mask) refl;
  goes_on_after_the_second = λ l is. rw (is.table, is.flags, is.mask) refl;
  unsafe_after_the_second = λ l is. rw (is.scale, is.table, is.flags, is.mask) refl;
  classes = λ l is. rw (is.scale, is.table, is.flags, is.mask) refl;
  not_in_a_vertical_line = λ l is. rw (is.scale, is.table, is.flags, is.mask) refl;
  backward = λ l is. rw (is.scale, is.table, is.flags, is.mask) refl;
  unlisted_in_vain = λ l is. rw (is.table, is.flags, is.mask) refl;
  no_second_glyph = λ l is. rw is.table refl;
  off_for_the_second_glyph = λ l is. rw (is.table, is.flags, is.mask) refl;
  classes_that_move_nothing = λ l is. rw (is.scale, is.table, is.flags, is.mask) refl;
  listed_that_moves_nothing = λ l is. rw (is.scale, is.table, is.flags, is.mask) refl;
}
