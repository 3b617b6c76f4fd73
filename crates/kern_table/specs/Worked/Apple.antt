-- Apple's version of the table, on bytes that were read by hand.
use Rattle.std.specs.Prelude.{None, ◌≡◌, ℕ, ℤ, pos, negsuc, List, [], ◌∷◌, ◌++◌, ◌/◌, ◌%◌, true, false, refl}
use Rattle.std.specs.Int.{int_wrap}
use Rattle.shape_common.specs.Wrapping.{◌+ʷ◌, ◌-ʷ◌}
use Rattle.shape_common.specs.declared.text_types.Direction.{Direction}
use Rattle.shape_common.specs.declared.text_types.Direction.TheVariants.{LeftToRight, RightToLeft, TopToBottom}
use Rattle.shape_font.specs.Bytes.{i16_of}
use Rattle.kern_table.specs.Headers.{first_start, length_of, format_of, coverage_of, header_size}
use Rattle.kern_table.specs.Pairs.{value_of}
use Rattle.kern_table.specs.Sides.{glyph_of_pair}
use Rattle.kern_table.specs.Tables.{subtable_count_of, is_read, table_kerned}
use Rattle.kern_table.specs.Worked.Kern.{on, line, along, down, numbers_body, still}

-- version 1.0, and so many subtables
abbrev pub apple : ℕ → List ℕ
apple count = 0 ∷ 1 ∷ 0 ∷ 0 ∷ 0 ∷ 0 ∷ 0 ∷ count ∷ []

-- 28 bytes: a header with the two halves of a length, a coverage and a format, and two pairs: glyphs 2 and 3 by -50, 3 and 2 by -35
abbrev pub pairs_of : ℕ → ℕ → ℕ → ℕ → List ℕ
pairs_of high low coverage format = high / 256 ∷ high % 256 ∷ low / 256 ∷ low % 256 ∷ coverage ∷ format ∷ 0 ∷ 0
    ∷ 0 ∷ 2 ∷ 0 ∷ 0 ∷ 0 ∷ 0 ∷ 0 ∷ 0
    ∷ 0 ∷ 2 ∷ 0 ∷ 3 ∷ 0xFF ∷ 0xCE ∷ 0 ∷ 3 ∷ 0 ∷ 2 ∷ 0xFF ∷ 0xDD ∷ []

abbrev pub pairs : ℕ → List ℕ
pairs coverage = pairs_of 0 28 coverage 0

-- 40 bytes, with the values of glyphs 2 and 3 by classes: the first row has 0 and -50, the second one -35 and 7
abbrev pub classes : List ℕ
classes = 0 ∷ 0 ∷ 0 ∷ 40 ∷ 0 ∷ 2 ∷ 0 ∷ 0 ∷ 0 ∷ 4 ∷ 0 ∷ 16 ∷ 0 ∷ 24 ∷ 0 ∷ 32
    ∷ 0 ∷ 2 ∷ 0 ∷ 2 ∷ 0 ∷ 32 ∷ 0 ∷ 36
    ∷ 0 ∷ 2 ∷ 0 ∷ 2 ∷ 0 ∷ 0 ∷ 0 ∷ 2
    ∷ 0 ∷ 0 ∷ 0xFF ∷ 0xCE ∷ 0xFF ∷ 0xDD ∷ 0 ∷ 7 ∷ []

-- 32 bytes of format 3, with 4 glyphs and the values 7, -50 and -35: glyph 2 has left class 1, and glyph 3 right class 1
abbrev pub numbers : ℕ → ℕ → ℕ → List ℕ
numbers values lefts rights = 0 ∷ 0 ∷ 0 ∷ 32 ∷ 0 ∷ 3 ∷ 0 ∷ 0 ∷ numbers_body values lefts rights

-- 8 bytes of a state machine
abbrev pub machine : List ℕ
machine = 0 ∷ 0 ∷ 0 ∷ 8 ∷ 0 ∷ 1 ∷ 0 ∷ 0 ∷ []

-- glyphs 2 and 3 in a horizontal line
abbrev pub kerned_by : List ℕ → Direction → List (ℤ × ℤ)
kerned_by t direction = along (table_kerned None t 16 (line direction (on 2 0 ∷ on 3 1 ∷ [])))

abbrev pub once : List (ℤ × ℤ)
once = (pos 575, pos 0) ∷ (pos 575, negsuc 24) ∷ []

abbrev pub twice : List (ℤ × ℤ)
twice = (pos 550, pos 0) ∷ (pos 550, negsuc 49) ∷ []

abbrev pub apart : List (ℤ × ℤ)
apart = still ∷ still ∷ []

pub record WorkedApple : Type 0 where
  pub subtables : subtable_count_of (apple 3) ≡ 3
  pub count_of_32_bits : subtable_count_of (0 ∷ 1 ∷ 0 ∷ 0 ∷ 0 ∷ 1 ∷ 0 ∷ 2 ∷ []) ≡ 65538
  pub first_pair : value_of (apple 1 ++ pairs 0) 8 2 3 ≡ negsuc 49
  pub second_pair : value_of (apple 1 ++ pairs 0) 8 3 2 ≡ negsuc 34
  pub no_pair : value_of (apple 1 ++ pairs 0) 8 2 2 ≡ pos 0
  pub first_row : value_of (apple 1 ++ classes) 8 2 3 ≡ negsuc 49
  pub second_row : value_of (apple 1 ++ classes) 8 3 2 ≡ negsuc 34
  pub no_class : value_of (apple 1 ++ classes) 8 4 3 ≡ pos 0
  pub at_the_left : glyph_of_pair (apple 1 ++ pairs 0) 8 true 1 ≡ 3
  pub at_the_right : glyph_of_pair (apple 1 ++ pairs 0) 8 false 1 ≡ 2
  -- horizontal is the bit that isn't set
  pub horizontal : is_read (apple 1 ++ pairs 0) 8 true ≡ true
  pub not_vertical : is_read (apple 1 ++ pairs 0) 8 false ≡ false
  pub vertical : is_read (apple 1 ++ pairs 0x80) 8 false ≡ true
  pub vertical_alone : is_read (apple 1 ++ pairs 0x80) 8 true ≡ false
  pub across_the_line : is_read (apple 1 ++ pairs 0x40) 8 true ≡ false
  pub of_an_instance : is_read (apple 1 ++ pairs 0x20) 8 true ≡ false
  pub other_bits : is_read (apple 1 ++ pairs 0x1F) 8 true ≡ true
  pub by_classes : is_read (apple 1 ++ classes) 8 true ≡ true
  pub state_machine : is_read (apple 1 ++ pairs_of 0 28 0 1) 8 true ≡ false
  pub other_format : is_read (apple 1 ++ pairs_of 0 28 0 4) 8 true ≡ false
  pub format_3 : is_read (apple 1 ++ numbers 3 2 2) 8 true ≡ true
  pub by_numbers : value_of (apple 1 ++ numbers 3 2 2) 8 2 3 ≡ negsuc 49
  pub kerned_by_numbers : kerned_by (apple 1 ++ numbers 3 2 2) LeftToRight ≡ once
  pub one : kerned_by (apple 1 ++ pairs 0) LeftToRight ≡ once
  -- from the left of the line: 3 stands there, before 2
  pub backward : kerned_by (apple 1 ++ pairs 0) RightToLeft ≡ (pos 583, negsuc 16) ∷ (pos 582, pos 0) ∷ []
  pub not_downwards : kerned_by (apple 1 ++ pairs 0) TopToBottom ≡ apart
  pub downwards : down (table_kerned None (apple 1 ++ pairs 0x80) 16 (line TopToBottom (on 2 0 ∷ on 3 1 ∷ [])))
      ≡ (negsuc 24, pos 0) ∷ (negsuc 24, negsuc 24) ∷ []
  pub two : kerned_by (apple 2 ++ pairs 0 ++ classes) LeftToRight ≡ twice
  pub one_of_two : kerned_by (apple 1 ++ pairs 0 ++ classes) LeftToRight ≡ once
  pub none : kerned_by (apple 0 ++ pairs 0) LeftToRight ≡ apart
  pub after_a_machine : kerned_by (apple 2 ++ machine ++ pairs 0) LeftToRight ≡ once
  -- shorter than its header
  pub short : kerned_by (apple 2 ++ pairs_of 0 7 0 0 ++ pairs 0) LeftToRight ≡ apart
  -- the second one would begin 65536 bytes later
  pub length_of_32_bits : kerned_by (apple 2 ++ pairs_of 1 28 0 0 ++ pairs 0) LeftToRight ≡ once
  -- as long as a table can be, with the 8 bytes before it; and longer by 1
  pub longest : kerned_by (apple 1 ++ pairs_of 0xFFFF 0xFFF7 0 0) LeftToRight ≡ once
  pub too_long : kerned_by (apple 1 ++ pairs_of 0xFFFF 0xFFF8 0 0) LeftToRight ≡ apart

pub worked_apple : WorkedApple
unfolding i16_of ◌+ʷ◌ ◌-ʷ◌ int_wrap first_start length_of value_of format_of coverage_of header_size
worked_apple = record {
  subtables = refl;
  count_of_32_bits = refl;
  first_pair = refl;
  second_pair = refl;
  no_pair = refl;
  first_row = refl;
  second_row = refl;
  no_class = refl;
  at_the_left = refl;
  at_the_right = refl;
  horizontal = refl;
  not_vertical = refl;
  vertical = refl;
  vertical_alone = refl;
  across_the_line = refl;
  of_an_instance = refl;
  other_bits = refl;
  by_classes = refl;
  state_machine = refl;
  other_format = refl;
  format_3 = refl;
  by_numbers = refl;
  kerned_by_numbers = refl;
  one = refl;
  backward = refl;
  not_downwards = refl;
  downwards = refl;
  two = refl;
  one_of_two = refl;
  none = refl;
  after_a_machine = refl;
  short = refl;
  length_of_32_bits = refl;
  longest = refl;
  too_long = refl;
}
