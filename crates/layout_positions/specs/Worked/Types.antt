-- Subtables of marks that stand far away, marks of class 0, pairs down a line, and flags with a mark attachment class, computed by
-- hand on tables of 16-bit words.
use Rattle.std.specs.Prelude.{◌≡◌, ℕ, pos, List, [], ◌∷◌, Some, None, refl}
use Rattle.std.specs.Int.{int_wrap}
use Rattle.std.specs.Int.Count.{ones}
use Rattle.shape_common.specs.Wrapping.{◌+ʷ◌, ◌-ʷ◌}
use Rattle.shape_common.specs.declared.text_types.Direction.TheVariants.{LeftToRight, TopToBottom, BottomToTop}
use Rattle.shape_font.specs.Bytes.{i16_of}
use Rattle.shape_font.specs.Worked.Glyphs.{words}
use Rattle.shape_items.specs.Items.{Item}
use Rattle.layout_matching.specs.declared.lookup.Lookup.{Lookup}
use Rattle.layout_positions.specs.Lookups.{Applied}
use Rattle.layout_positions.specs.Marks.{mark_base_applied, mark_mark_applied}
use Rattle.layout_positions.specs.Pairs.{pair_applied}
use Rattle.layout_positions.specs.Worked.Lines.{base, mark, ligature, mark_on, line, advances, offsets, masks}
use Rattle.layout_positions.specs.Worked.Marks.{on_bases, on_ligatures}
use Rattle.layout_positions.specs.Worked.Pairs.{pairs_one, IsLookup}
use Rattle.layout_positions.specs.Worked.Walk.{one_subtable, over, still}

-- an extension of a type, whose subtable stands 8 bytes further
abbrev pub far_of : ℕ → List ℕ → List ℕ
far_of kind subtable = one_subtable 9 (0 ∷ 1 ∷ 0 ∷ kind ∷ 0 ∷ 0 ∷ 0 ∷ 8 ∷ subtable)

pub record WorkedFarMarks : Type 0 where
  pub on_a_component : (l : Lookup) → IsLookup l (far_of 5 on_ligatures) 0 → l.place ≡ 0 → l.device_work ≡ 0
      → offsets (over l (ligature 4 5 0 ∷ mark_on 8 5 2 0 ∷ [])) ≡ still ∷ (pos 190, pos 0) ∷ []
  pub on_a_mark : (l : Lookup) → IsLookup l (far_of 6 on_bases) 0 → l.place ≡ 0 → l.device_work ≡ 0
      → offsets (over l (mark 2 0 ∷ mark 8 0 ∷ [])) ≡ still ∷ (pos 290, pos 480) ∷ []
  -- a mark is no base for type 6, and a base no mark
  pub of_its_own_type : (l : Lookup) → IsLookup l (far_of 6 on_bases) 0 → l.place ≡ 0 → l.device_work ≡ 0
      → offsets (over l (base 2 0 ∷ mark 8 0 ∷ [])) ≡ still ∷ still ∷ []

pub worked_far_marks : WorkedFarMarks
unfolding i16_of ◌-ʷ◌ int_wrap
worked_far_marks = record {
  on_a_component = λ l is p d. rw (is.scale, is.table, is.flags, is.mask, is.positioning, p, d) refl;
  on_a_mark = λ l is p d. rw (is.scale, is.table, is.flags, is.mask, is.positioning, p, d) refl;
  of_its_own_type = λ l is p d. rw (is.table, is.flags, is.mask, is.positioning, p, d) refl;
}

-- mark 7 of class 0, its anchor at 5, 6, and mark 8 of class 1, at 10, 20; glyph 2 with anchors at 100, 200 for class 0 and at
-- 300, 500 for class 1
abbrev pub two_classes : List ℕ
two_classes = words (1 ∷ 12 ∷ 20 ∷ 2 ∷ 26 ∷ 48 ∷ 1 ∷ 2 ∷ 7 ∷ 8 ∷ 1 ∷ 1 ∷ 2 ∷ 2 ∷ 0 ∷ 10 ∷ 1 ∷ 16 ∷ 1 ∷ 5 ∷ 6 ∷ 1 ∷ 10 ∷ 20
    ∷ 1 ∷ 6 ∷ 12 ∷ 1 ∷ 100 ∷ 200 ∷ 1 ∷ 300 ∷ 500 ∷ [])

abbrev on_base : Lookup → Item → Applied
on_base l x = mark_base_applied l 0 (Some 0) 1 (line LeftToRight (base 2 0 ∷ x ∷ []))

abbrev on_mark : Lookup → Item → Item → Applied
on_mark l x y = mark_mark_applied l 0 1 (line LeftToRight (x ∷ y ∷ []))

pub record WorkedMarkClasses : Type 0 where
  pub class_0 : (l : Lookup) → IsLookup l two_classes 0 → offsets (on_base l (mark 7 0)).buffer ≡ still ∷ (pos 95, pos 194) ∷ []
  pub class_1 : (l : Lookup) → IsLookup l two_classes 0 → offsets (on_base l (mark 8 0)).buffer ≡ still ∷ (pos 290, pos 480) ∷ []
  pub class_0_on_a_mark : (l : Lookup) → IsLookup l two_classes 0
      → offsets (on_mark l (mark 2 0) (mark 7 0)).buffer ≡ still ∷ (pos 95, pos 194) ∷ []

pub worked_mark_classes : WorkedMarkClasses
unfolding i16_of ◌-ʷ◌ int_wrap
worked_mark_classes = record {
  class_0 = λ l is. rw (is.scale, is.table) refl;
  class_1 = λ l is. rw (is.scale, is.table) refl;
  class_0_on_a_mark = λ l is. rw (is.scale, is.table, is.flags, is.mask) refl;
}

-- 2 then 3 by -50 down the line
abbrev pub pairs_down : List ℕ
pairs_down = words (1 ∷ 12 ∷ 8 ∷ 0 ∷ 1 ∷ 18 ∷ 1 ∷ 1 ∷ 2 ∷ 1 ∷ 3 ∷ 0xFFCE ∷ [])

pub record WorkedPairsDown : Type 0 where
  pub downwards : (l : Lookup) → IsLookup l pairs_down 0
      → advances (pair_applied l 0 0 (line TopToBottom (base 2 0 ∷ base 3 1 ∷ []))).buffer ≡ (pos 600, pos 50) ∷ (pos 600, pos 0) ∷ []
  pub upwards : (l : Lookup) → IsLookup l pairs_down 0
      → advances (pair_applied l 0 0 (line BottomToTop (base 2 0 ∷ base 3 1 ∷ []))).buffer ≡ (pos 600, pos 50) ∷ (pos 600, pos 0) ∷ []
  pub unsafe_between : (l : Lookup) → IsLookup l pairs_down 0
      → masks (pair_applied l 0 0 (line TopToBottom (base 2 0 ∷ base 3 1 ∷ []))).buffer ≡ 16 ∷ 19 ∷ []
  -- along a horizontal line nothing moves, and the lookup goes on after the pair
  pub not_to_the_right : (l : Lookup) → IsLookup l pairs_down 0
      → advances (pair_applied l 0 0 (line LeftToRight (base 2 0 ∷ base 3 1 ∷ []))).buffer ≡ (pos 600, pos 0) ∷ (pos 600, pos 0) ∷ []
  pub applied_to_the_right : (l : Lookup) → IsLookup l pairs_down 0
      → (pair_applied l 0 0 (line LeftToRight (base 2 0 ∷ base 3 1 ∷ []))).next ≡ Some 1

pub worked_pairs_down : WorkedPairsDown
unfolding i16_of ◌+ʷ◌ ◌-ʷ◌ int_wrap ones
worked_pairs_down = record {
  downwards = λ l is. rw (is.scale, is.table, is.flags, is.mask) refl;
  upwards = λ l is. rw (is.scale, is.table, is.flags, is.mask) refl;
  unsafe_between = λ l is. rw (is.scale, is.table, is.flags, is.mask) refl;
  not_to_the_right = λ l is. rw (is.scale, is.table, is.flags, is.mask) refl;
  applied_to_the_right = λ l is. rw (is.table, is.flags, is.mask) refl;
}

-- a mark of a mark attachment class
abbrev pub classed_mark : ℕ → ℕ → Item
classed_mark glyph class = record (mark glyph 0) { properties = record (mark glyph 0).properties { mark_attachment_class = class } }

abbrev pair_over : Lookup → Item → Applied
pair_over l x = pair_applied l 0 0 (line LeftToRight (base 2 0 ∷ x ∷ base 3 1 ∷ []))

-- flags 0x1004: ligatures are ignored, and marks of another class than 16
pub record WorkedFlags : Type 0 where
  pub over_a_ligature : (l : Lookup) → IsLookup l pairs_one 0x1004 → (pair_over l (ligature 9 0 0)).next ≡ Some 2
  pub over_a_mark_of_class_1 : (l : Lookup) → IsLookup l pairs_one 0x1004 → (pair_over l (classed_mark 9 1)).next ≡ Some 2
  pub not_over_one_of_class_16 : (l : Lookup) → IsLookup l pairs_one 0x1004 → (pair_over l (classed_mark 9 16)).next ≡ None
  pub not_over_a_base : (l : Lookup) → IsLookup l pairs_one 0x1004 → (pair_over l (base 9 0)).next ≡ None
  -- a mark takes the nearest mark of the class
  pub on_a_mark_of_class_16 : (l : Lookup) → IsLookup l on_bases 0x1004 → (on_mark l (classed_mark 2 16) (classed_mark 8 16)).next ≡ Some 2
  pub not_on_one_of_class_1 : (l : Lookup) → IsLookup l on_bases 0x1004 → (on_mark l (classed_mark 2 1) (classed_mark 8 16)).next ≡ None

pub worked_flags : WorkedFlags
unfolding i16_of ◌+ʷ◌ ◌-ʷ◌ int_wrap ones
worked_flags = record {
  over_a_ligature = λ l is. rw (is.table, is.flags, is.mask) refl;
  over_a_mark_of_class_1 = λ l is. rw (is.table, is.flags, is.mask) refl;
  not_over_one_of_class_16 = λ l is. rw (is.table, is.flags, is.mask) refl;
  not_over_a_base = λ l is. rw (is.table, is.flags, is.mask) refl;
  on_a_mark_of_class_16 = λ l is. rw (is.table, is.flags, is.mask) refl;
  not_on_one_of_class_1 = λ l is. rw (is.table, is.flags) refl;
}
