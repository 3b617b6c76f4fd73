-- Value records and anchors, on bytes that were read by hand.
use Rattle.std.specs.Prelude.{◌≡◌, ℕ, ℤ, pos, negsuc, List, [], ◌∷◌, ◌++◌, Some, None, true, false, refl}
use Rattle.shape_font.specs.Worked.Glyphs.{words}
use Rattle.std.specs.Int.{int_wrap}
use Rattle.std.specs.Int.Count.{ones}
use Rattle.shape_common.specs.Positions.{zero_position}
use Rattle.shape_common.specs.Wrapping.{◌+ʷ◌, ◌-ʷ◌}
use Rattle.shape_font.specs.Bytes.{i16_of}
use Rattle.layout_matching.specs.declared.lookup.Lookup.{Lookup}
use Rattle.layout_positions.specs.Sizes.{point}
use Rattle.layout_positions.specs.Anchors.{anchor_at, anchor_by, anchor_in, class_of_mark, anchor_of_mark}
use Rattle.layout_positions.specs.Values.{value_size, advance_only, none_counted, value_at, value_in, adjusted, has_effect}
use Rattle.layout_positions.specs.Worked.Lines.{over, varying}
use Rattle.layout_positions.specs.declared.values.Adjustment.{Adjustment}

abbrev adjustment : ℤ → ℤ → ℤ → ℤ → Adjustment
adjustment x y w h = record { x_placement = x; y_placement = y; x_advance = w; y_advance = h; counted = none_counted }

-- 10, -20, 30, -40
abbrev numbers : List ℕ
numbers = 0 ∷ 10 ∷ 0xFF ∷ 0xEC ∷ 0 ∷ 30 ∷ 0xFF ∷ 0xD8 ∷ []

pub record WorkedValues : Type 0 where
  -- two bytes for each bit, whatever it is of: 0x10 to 0x80 are offsets of devices
  pub sizes : (value_size 0 ∷ value_size 4 ∷ value_size 0xF ∷ value_size 0xFF ∷ value_size 0x50 ∷ []) ≡ 0 ∷ 2 ∷ 8 ∷ 16 ∷ 4 ∷ []
  -- reserved bits as well, as HarfBuzz counts them
  pub reserved : value_size 0x101 ≡ 4
  pub nothing : (l : Lookup) → value_at (over numbers l) 0 0 0 ≡ adjustment (pos 0) (pos 0) (pos 0) (pos 0)
  pub all : (l : Lookup) → value_at (over numbers l) 15 0 0 ≡ adjustment (pos 10) (negsuc 19) (pos 30) (negsuc 39)
  pub advance_alone : (l : Lookup) → value_at (over numbers l) 4 0 0 ≡ adjustment (pos 0) (pos 0) (pos 10) (pos 0)
  pub of_an_advance : advance_only (pos 10) ≡ adjustment (pos 0) (pos 0) (pos 10) (pos 0)
  pub lower_bits_first : (l : Lookup) → value_at (over numbers l) 10 0 0 ≡ adjustment (pos 0) (pos 10) (pos 0) (negsuc 19)
  pub devices_passed_over : (l : Lookup) → value_at (varying numbers [] [] l) 0xF5 0 0 ≡ adjustment (pos 10) (pos 0) (negsuc 19) (pos 0)
  pub past_the_end : (l : Lookup) → value_at (over numbers l) 3 0 6 ≡ adjustment (negsuc 39) (pos 0) (pos 0) (pos 0)
  pub whole_record : (l : Lookup) → value_in (over numbers l) 3 0 4 ≡ Some (adjustment (pos 30) (negsuc 39) (pos 0) (pos 0))
  pub no_whole_record : (l : Lookup) → value_in (over numbers l) 3 0 6 ≡ None
  pub along_a_horizontal_line : adjusted true (adjustment (pos 1) (pos 2) (pos 3) (pos 4))
      (record zero_position { x_advance = pos 600; y_advance = pos 7 })
      ≡ record zero_position { x_advance = pos 603; y_advance = pos 7; x_offset = pos 1; y_offset = pos 2 }
  -- down a vertical line advances are negative, so that a greater one grows down
  pub down_a_vertical_line : adjusted false (adjustment (pos 1) (pos 2) (pos 3) (pos 4))
      (record zero_position { x_advance = pos 600; y_advance = negsuc 999 })
      ≡ record zero_position { x_advance = pos 600; y_advance = negsuc 1003; x_offset = pos 1; y_offset = pos 2 }
  pub sums_wrap : adjusted true (adjustment (pos 0) (pos 0) (pos 1) (pos 0)) (record zero_position { x_advance = pos 2147483647 })
      ≡ record zero_position { x_advance = negsuc 2147483647 }
  pub placement_has_effect : has_effect true (adjustment (pos 0) (negsuc 0) (pos 0) (pos 0)) ≡ true
  pub advance_along_has_effect : has_effect true (adjustment (pos 0) (pos 0) (pos 1) (pos 0)) ≡ true
  pub advance_across_has_none : has_effect true (adjustment (pos 0) (pos 0) (pos 0) (pos 1)) ≡ false
  pub vertical_advance_has_effect : has_effect false (adjustment (pos 0) (pos 0) (pos 0) (pos 1)) ≡ true
  pub zeros_have_none : has_effect true (adjustment (pos 0) (pos 0) (pos 0) (pos 0)) ≡ false
  pub placement_along_has_effect : has_effect true (adjustment (pos 1) (pos 0) (pos 0) (pos 0)) ≡ true

pub worked_values : WorkedValues
unfolding i16_of ◌+ʷ◌ ◌-ʷ◌ int_wrap ones
worked_values = record {
  sizes = refl;
  reserved = refl;
  nothing = λ _. refl;
  all = λ _. refl;
  advance_alone = λ _. refl;
  of_an_advance = refl;
  lower_bits_first = λ _. refl;
  devices_passed_over = λ _. refl;
  past_the_end = λ _. refl;
  whole_record = λ _. refl;
  no_whole_record = λ _. refl;
  along_a_horizontal_line = refl;
  down_a_vertical_line = refl;
  sums_wrap = refl;
  placement_has_effect = refl;
  advance_along_has_effect = refl;
  advance_across_has_none = refl;
  vertical_advance_has_effect = refl;
  zeros_have_none = refl;
  placement_along_has_effect = refl;
}

-- ---- anchors: an anchor of a format at 100, -5

abbrev anchor : ℕ → List ℕ
anchor format = 0 ∷ format ∷ 0 ∷ 100 ∷ 0xFF ∷ 0xFB ∷ []

-- a matrix of two rows for two classes; row 1 has an anchor for class 1 alone, at 10 from the matrix
abbrev matrix : List ℕ
matrix = 0 ∷ 2 ∷ 0 ∷ 0 ∷ 0 ∷ 0 ∷ 0 ∷ 0 ∷ 0 ∷ 10 ∷ 0 ∷ 1 ∷ 0 ∷ 7 ∷ 0 ∷ 8 ∷ []

-- an array of two marks: class 1 with an anchor at 10 from the array, class 3 without one
abbrev marks : List ℕ
marks = 0 ∷ 2 ∷ 0 ∷ 1 ∷ 0 ∷ 10 ∷ 0 ∷ 3 ∷ 0 ∷ 0 ∷ 0 ∷ 2 ∷ 0 ∷ 7 ∷ 0 ∷ 8 ∷ 0 ∷ 0 ∷ []

pub record WorkedAnchors : Type 0 where
  pub format_1 : (l : Lookup) → anchor_at (over (anchor 1) l) 0 ≡ point (pos 100) (negsuc 4)
  pub format_2 : (l : Lookup) → anchor_at (over (anchor 2) l) 0 ≡ point (pos 100) (negsuc 4)
  pub format_3 : (l : Lookup) → anchor_at (varying (anchor 3) [] [] l) 0 ≡ point (pos 100) (negsuc 4)
  pub other_format : (l : Lookup) → anchor_at (over (anchor 4) l) 0 ≡ point (pos 0) (pos 0)
  pub no_offset : (l : Lookup) → anchor_by (over (0 ∷ 0 ∷ anchor 1) l) 0 0 ≡ None
  pub at_the_end : (l : Lookup) → anchor_by (over (0 ∷ 2 ∷ anchor 1) l) 0 0 ≡ Some (point (pos 100) (negsuc 4))
  -- formats 2 and 3 have a point of the outline, or two devices, after the coordinates
  pub past_the_end : (l : Lookup) → anchor_by (over (0 ∷ 2 ∷ anchor 2) l) 0 0 ≡ None
  pub cut_short : (l : Lookup) → anchor_by (over (0 ∷ 2 ∷ 0 ∷ 1 ∷ 0 ∷ 100 ∷ 0xFF ∷ []) l) 0 0 ≡ None
  pub in_the_matrix : (l : Lookup) → anchor_in (over matrix l) 2 1 1 0 ≡ Some (point (pos 7) (pos 8))
  pub none_for_the_class : (l : Lookup) → anchor_in (over matrix l) 2 1 0 0 ≡ None
  pub past_the_rows : (l : Lookup) → anchor_in (over matrix l) 2 2 0 0 ≡ None
  pub past_the_classes : (l : Lookup) → anchor_in (over matrix l) 2 0 2 0 ≡ None
  pub class_of_the_first : class_of_mark marks 0 (Some 0) ≡ 1
  pub class_of_the_second : class_of_mark marks 1 (Some 0) ≡ 3
  pub class_past_the_end : class_of_mark marks 2 (Some 0) ≡ 0
  pub anchor_of_the_first : (l : Lookup) → anchor_of_mark (over marks l) 0 (Some 0) ≡ point (pos 7) (pos 8)
  pub anchor_of_the_second : (l : Lookup) → anchor_of_mark (over marks l) 1 (Some 0) ≡ point (pos 0) (pos 0)
  pub without_an_array : class_of_mark marks 0 None ≡ 0
  -- format 2 has 8 bytes, format 3 has 10; of another format its own two are enough
  pub whole_format_2 : (l : Lookup) → anchor_by (over (0 ∷ 2 ∷ (anchor 2 ++ 0 ∷ 7 ∷ [])) l) 0 0
      ≡ Some (point (pos 100) (negsuc 4))
  pub format_3_past_the_end : (l : Lookup) → anchor_by (over (0 ∷ 2 ∷ (anchor 3 ++ 0 ∷ 0 ∷ 0 ∷ [])) l) 0 0 ≡ None
  pub whole_format_3 : (l : Lookup) → anchor_by (varying (0 ∷ 2 ∷ (anchor 3 ++ 0 ∷ 0 ∷ 0 ∷ 0 ∷ [])) [] [] l) 0 0
      ≡ Some (point (pos 100) (negsuc 4))
  pub two_bytes_of_another_format : (l : Lookup) → anchor_by (over (0 ∷ 2 ∷ 0 ∷ 4 ∷ []) l) 0 0 ≡ Some (point (pos 0) (pos 0))
  pub one_byte : (l : Lookup) → anchor_by (over (0 ∷ 2 ∷ 0 ∷ []) l) 0 0 ≡ None
  -- a row of one class: the anchor behind it is that of the next row
  pub class_past_the_last : (l : Lookup) → anchor_in (over (words (2 ∷ 6 ∷ 12 ∷ 1 ∷ 7 ∷ 8 ∷ 1 ∷ 9 ∷ 10 ∷ [])) l) 1 0 1 0 ≡ None

pub worked_anchors : WorkedAnchors
unfolding i16_of
worked_anchors = record {
  format_1 = λ _. refl;
  format_2 = λ _. refl;
  format_3 = λ _. refl;
  other_format = λ _. refl;
  no_offset = λ _. refl;
  at_the_end = λ _. refl;
  past_the_end = λ _. refl;
  cut_short = λ _. refl;
  in_the_matrix = λ _. refl;
  none_for_the_class = λ _. refl;
  past_the_rows = λ _. refl;
  past_the_classes = λ _. refl;
  class_of_the_first = refl;
  class_of_the_second = refl;
  class_past_the_end = refl;
  anchor_of_the_first = λ _. refl;
  anchor_of_the_second = λ _. refl;
  without_an_array = refl;
  whole_format_2 = λ _. refl;
  format_3_past_the_end = λ _. refl;
  whole_format_3 = λ _. refl;
  two_bytes_of_another_format = λ _. refl;
  one_byte = λ _. refl;
  class_past_the_last = λ _. refl;
}
