-- Kerning, on tables and buffers that were read by hand.
use Rattle.std.specs.Prelude.{◌≡◌, ℕ, ℤ, pos, negsuc, List, [], ◌∷◌, ◌++◌, map, Some, None, true, false, refl}
use Rattle.shape_items.specs.Buffer.{Buffer, new_buffer}
use Rattle.shape_items.specs.Items.{Item, new_item, new_properties}
use Rattle.shape_common.specs.Positions.{zero_position}
use Rattle.shape_common.specs.Wrapping.{◌+ʷ◌, ◌-ʷ◌}
use Rattle.shape_common.specs.declared.positions.GlyphPosition.{GlyphPosition}
use Rattle.shape_common.specs.declared.text_types.Direction.{Direction}
use Rattle.shape_common.specs.declared.text_types.Direction.TheVariants.{LeftToRight, RightToLeft, TopToBottom, BottomToTop}
use Rattle.shape_common.specs.declared.text_types.hb_tag_t.{hb_tag_t}
use Rattle.shape_buffer.specs.declared.interfaces.map_request.MapRequest.{MapRequest}
use Rattle.shape_buffer.specs.declared.interfaces.map_request.MapRequest.TheVariants.{Feature, Pause}
use Rattle.shape_buffer.specs.declared.interfaces.map_request.TableIndex.{TableIndex}
use Rattle.std.specs.Int.{int_wrap}
use Rattle.shape_font.specs.Bytes.{i16_of}
use Rattle.kern_table.specs.Headers.{first_start, length_of, format_of, coverage_of, header_size}
use Rattle.kern_table.specs.Map.{map_of, kern_masks}
use Rattle.kern_table.specs.Pairs.{value_of}
use Rattle.kern_table.specs.Tables.{subtable_count_of, is_read, subtable_kerned, table_kerned}
use Rattle.kern_table.specs.Sides.{glyph_of_pair}
use Rattle.kern_table.specs.Walk.{left_after, kerned}

-- a subtable of format 0, of this length and coverage, that states so many pairs and has room for two: glyphs 2 and 3 by
-- -50, 3 and 2 by -35
abbrev pub subtable : ℕ → ℕ → ℕ → List ℕ
subtable len coverage said = 0 ∷ 0 ∷ 0 ∷ len ∷ 0 ∷ coverage ∷ 0 ∷ said ∷ 0 ∷ 0 ∷ 0 ∷ 0 ∷ 0 ∷ 0
    ∷ 0 ∷ 2 ∷ 0 ∷ 3 ∷ 0xFF ∷ 0xCE ∷ 0 ∷ 3 ∷ 0 ∷ 2 ∷ 0xFF ∷ 0xDD ∷ []

abbrev pub table : ℕ → ℕ → List ℕ
table count coverage = 0 ∷ 0 ∷ 0 ∷ count ∷ subtable 26 coverage 2

-- a subtable of format 2 whose rows for glyphs 2 and 3 stand so far from its start, 30 and 34 if they are in the array; right glyph 2
-- has the column at 0, right glyph 3 the one that is given
abbrev pub classes_with : ℕ → ℕ → ℕ → List ℕ
classes_with row_of_2 row_of_3 column_of_3 = 0 ∷ 0 ∷ 0 ∷ 38 ∷ 2 ∷ 1 ∷ 0 ∷ 4 ∷ 0 ∷ 14 ∷ 0 ∷ 22 ∷ 0 ∷ 30
    ∷ 0 ∷ 2 ∷ 0 ∷ 2 ∷ 0 ∷ row_of_2 ∷ 0 ∷ row_of_3
    ∷ 0 ∷ 2 ∷ 0 ∷ 2 ∷ 0 ∷ 0 ∷ 0 ∷ column_of_3
    ∷ 0 ∷ 0 ∷ 0xFF ∷ 0xCE ∷ 0xFF ∷ 0xDD ∷ 0 ∷ 7 ∷ []

-- the first row has 0 and -50, the second one -35 and 7
abbrev pub classes : ℕ → ℕ → List ℕ
classes row_of_2 row_of_3 = classes_with row_of_2 row_of_3 2

abbrev pub class_table : ℕ → ℕ → List ℕ
class_table row_of_2 row_of_3 = 0 ∷ 0 ∷ 0 ∷ 1 ∷ classes row_of_2 row_of_3

-- the same, but 200 right glyphs are stated, and the table has room for 6
abbrev pub cut_off : List ℕ
cut_off = 0 ∷ 0 ∷ 0 ∷ 1 ∷ 0 ∷ 0 ∷ 0 ∷ 38 ∷ 2 ∷ 1 ∷ 0 ∷ 4 ∷ 0 ∷ 14 ∷ 0 ∷ 22 ∷ 0 ∷ 30
    ∷ 0 ∷ 2 ∷ 0 ∷ 2 ∷ 0 ∷ 30 ∷ 0 ∷ 34
    ∷ 0 ∷ 2 ∷ 0 ∷ 200 ∷ 0 ∷ 0 ∷ 0 ∷ 2
    ∷ 0 ∷ 0 ∷ 0xFF ∷ 0xCE ∷ 0xFF ∷ 0xDD ∷ 0 ∷ 7 ∷ []

-- one value, -50 for glyphs 2 and 3, with which the array begins
abbrev pub one_value : List ℕ
one_value = 0 ∷ 0 ∷ 0 ∷ 1 ∷ 0 ∷ 0 ∷ 0 ∷ 28 ∷ 2 ∷ 1 ∷ 0 ∷ 2 ∷ 0 ∷ 14 ∷ 0 ∷ 20 ∷ 0 ∷ 26
    ∷ 0 ∷ 2 ∷ 0 ∷ 1 ∷ 0 ∷ 26 ∷ 0 ∷ 3 ∷ 0 ∷ 1 ∷ 0 ∷ 0 ∷ 0xFF ∷ 0xCE ∷ []

pub record WorkedClasses : Type 0 where
  pub first_row : value_of (class_table 30 34) 4 2 3 ≡ negsuc 49
  pub second_row : value_of (class_table 30 34) 4 3 2 ≡ negsuc 34
  pub last : value_of (class_table 30 34) 4 3 3 ≡ pos 7
  pub left_of_no_class : value_of (class_table 30 34) 4 4 3 ≡ pos 0
  pub right_of_no_class : value_of (class_table 30 34) 4 2 4 ≡ pos 0
  pub before_the_first_glyph : value_of (class_table 30 34) 4 1 3 ≡ pos 0
  pub past_all_glyphs : value_of (class_table 30 34) 4 65538 3 ≡ pos 0
  pub both_in_one_row : value_of (class_table 34 34) 4 2 3 ≡ pos 7
  -- 28 and 2 lead to the first value, 27 and 2 before it
  pub before_the_row : value_of (class_table 28 34) 4 2 3 ≡ pos 0
  pub before_the_array : value_of (class_table 27 34) 4 2 3 ≡ pos 0
  -- 33 bytes are one value and a half after 30
  pub odd : value_of (class_table 33 34) 4 2 2 ≡ negsuc 49
  -- 35 bytes would be -35
  pub class_1_is_none : value_of (0 ∷ 0 ∷ 0 ∷ 1 ∷ classes_with 30 34 1) 4 3 3 ≡ pos 0
  pub past_the_table : value_of (class_table 30 200) 4 3 3 ≡ pos 0
  pub of_this_line : is_read (class_table 30 34) 4 true ≡ true
  pub of_the_other_line : is_read (class_table 30 34) 4 false ≡ false
  -- class 0 would be the first value of the row, -35
  pub past_the_room : value_of cut_off 4 3 8 ≡ pos 0
  -- one right glyph is stated; what follows would be a class
  pub past_the_count : value_of (0 ∷ 0 ∷ 0 ∷ 1 ∷ 0 ∷ 0 ∷ 0 ∷ 38 ∷ 2 ∷ 1 ∷ 0 ∷ 4 ∷ 0 ∷ 14 ∷ 0 ∷ 22 ∷ 0 ∷ 30
      ∷ 0 ∷ 2 ∷ 0 ∷ 2 ∷ 0 ∷ 30 ∷ 0 ∷ 34 ∷ 0 ∷ 2 ∷ 0 ∷ 1 ∷ 0 ∷ 0 ∷ 0 ∷ 2 ∷ 0 ∷ 0 ∷ 0xFF ∷ 0xCE ∷ 0xFF ∷ 0xDD ∷ 0 ∷ 7 ∷ []) 4 3 3 ≡ pos 0
  pub first_of_the_array : value_of one_value 4 2 3 ≡ negsuc 49

pub worked_classes : WorkedClasses
unfolding i16_of value_of format_of coverage_of header_size
worked_classes = record {
  first_row = refl;
  second_row = refl;
  last = refl;
  left_of_no_class = refl;
  right_of_no_class = refl;
  before_the_first_glyph = refl;
  past_all_glyphs = refl;
  both_in_one_row = refl;
  before_the_row = refl;
  before_the_array = refl;
  odd = refl;
  class_1_is_none = refl;
  past_the_table = refl;
  of_this_line = refl;
  of_the_other_line = refl;
  past_the_room = refl;
  past_the_count = refl;
  first_of_the_array = refl;
}

-- the fields of format 3, for 4 glyphs: so many values, left classes and right ones are stated. The values are 7, -50 and -35; glyph 2 has
-- left class 1, glyph 3 right class 1, and the others have class 0. Left class 0 leads to numbers 0 and 2, left class 1 to 3 and 1
abbrev pub numbers_body : ℕ → ℕ → ℕ → List ℕ
numbers_body values lefts rights = 0 ∷ 4 ∷ values ∷ lefts ∷ rights ∷ 0
    ∷ 0 ∷ 7 ∷ 0xFF ∷ 0xCE ∷ 0xFF ∷ 0xDD
    ∷ 0 ∷ 0 ∷ 1 ∷ 0 ∷ 0 ∷ 0 ∷ 0 ∷ 1 ∷ 0 ∷ 2 ∷ 3 ∷ 1 ∷ []

abbrev pub numbers : ℕ → ℕ → ℕ → List ℕ
numbers values lefts rights = 0 ∷ 0 ∷ 0 ∷ 1 ∷ 0 ∷ 0 ∷ 0 ∷ 30 ∷ 3 ∷ 1 ∷ numbers_body values lefts rights

pub record WorkedNumbers : Type 0 where
  pub both : value_of (numbers 3 2 2) 4 2 3 ≡ negsuc 49
  pub neither : value_of (numbers 3 2 2) 4 3 2 ≡ pos 7
  pub right_alone : value_of (numbers 3 2 2) 4 3 3 ≡ negsuc 34
  -- number 3 is that of no value
  pub past_the_values : value_of (numbers 3 2 2) 4 2 2 ≡ pos 0
  -- glyph 9 has class 0 at both sides
  pub left_past_all_glyphs : value_of (numbers 3 2 2) 4 9 3 ≡ negsuc 34
  pub right_past_all_glyphs : value_of (numbers 3 2 2) 4 3 9 ≡ pos 7
  pub left_class_past_the_count : value_of (numbers 3 1 2) 4 2 3 ≡ pos 0
  pub right_class_past_the_count : value_of (numbers 3 2 1) 4 3 3 ≡ pos 0
  -- rows of one number: left class 1 leads to number 2
  pub rows_of_one : value_of (numbers 3 2 1) 4 2 2 ≡ negsuc 34
  pub of_this_line : is_read (numbers 3 2 2) 4 true ≡ true
  pub of_the_other_line : is_read (numbers 3 2 2) 4 false ≡ false

pub worked_numbers : WorkedNumbers
unfolding i16_of value_of format_of coverage_of header_size
worked_numbers = record {
  both = refl;
  neither = refl;
  right_alone = refl;
  past_the_values = refl;
  left_past_all_glyphs = refl;
  right_past_all_glyphs = refl;
  left_class_past_the_count = refl;
  right_class_past_the_count = refl;
  rows_of_one = refl;
  of_this_line = refl;
  of_the_other_line = refl;
}

pub record WorkedValues : Type 0 where
  pub first : value_of (table 1 1) 4 2 3 ≡ negsuc 49
  pub second : value_of (table 1 1) 4 3 2 ≡ negsuc 34
  pub other : value_of (table 1 1) 4 2 2 ≡ pos 0
  pub past_the_count : value_of (0 ∷ 0 ∷ 0 ∷ 1 ∷ subtable 26 1 1) 4 3 2 ≡ pos 0
  pub no_more_than_there_is_room_for : value_of (0 ∷ 0 ∷ 0 ∷ 1 ∷ subtable 26 1 200) 4 3 2 ≡ negsuc 34
  -- 65538 is 2 past 65536
  pub past_all_glyphs : value_of (table 1 1) 4 65538 3 ≡ pos 0
  pub no_subtable : value_of [] 4 2 3 ≡ pos 0
  pub read_along_the_line : is_read (table 1 1) 4 true ≡ true
  pub not_across_it : is_read (table 1 5) 4 true ≡ false
  pub not_in_the_other_line : is_read (table 1 1) 4 false ≡ false
  pub vertical : is_read (table 1 0) 4 false ≡ true
  pub not_in_a_horizontal_line : is_read (table 1 0) 4 true ≡ false
  pub other_format : is_read (0 ∷ 0 ∷ 0 ∷ 1 ∷ 0 ∷ 0 ∷ 0 ∷ 14 ∷ 4 ∷ 1 ∷ []) 4 true ≡ false
  pub subtables : subtable_count_of (table 3 1) ≡ 3
  pub other_version : subtable_count_of (0 ∷ 2 ∷ 0 ∷ 0 ∷ 0 ∷ 0 ∷ 0 ∷ 1 ∷ []) ≡ 0
  -- where a count would stand if the version were 0
  pub count_of_another_version : subtable_count_of (0 ∷ 2 ∷ 0 ∷ 3 ∷ []) ≡ 0
  pub minimum_too : is_read (table 1 3) 4 true ≡ true
  -- 65536 more than the right glyph of (2, 3) if the left one is 1
  pub right_past_all_glyphs : value_of (table 1 1) 4 1 65539 ≡ pos 0
  pub overriding_too : is_read (table 1 9) 4 true ≡ true
  pub format_1 : is_read (0 ∷ 0 ∷ 0 ∷ 1 ∷ 0 ∷ 0 ∷ 0 ∷ 14 ∷ 1 ∷ 1 ∷ []) 4 true ≡ false
  pub many_subtables : subtable_count_of (0 ∷ 0 ∷ 1 ∷ 0 ∷ []) ≡ 256
  -- 256 pairs are stated, and the table has room for one
  pub many_pairs : value_of (0 ∷ 0 ∷ 0 ∷ 1 ∷ 0 ∷ 0 ∷ 0 ∷ 20 ∷ 0 ∷ 1 ∷ 1 ∷ 0 ∷ 0 ∷ 0 ∷ 0 ∷ 0 ∷ 0 ∷ 0
      ∷ 0 ∷ 2 ∷ 0 ∷ 3 ∷ 0xFF ∷ 0xCE ∷ []) 4 2 3 ≡ negsuc 49
  pub at_the_left : glyph_of_pair (table 1 1) 4 true 0 ≡ 2
  pub at_the_right : glyph_of_pair (table 1 1) 4 false 0 ≡ 3
  pub at_the_left_of_the_second : glyph_of_pair (table 1 1) 4 true 1 ≡ 3
  pub at_the_right_of_the_second : glyph_of_pair (table 1 1) 4 false 1 ≡ 2

pub worked_values : WorkedValues
unfolding i16_of value_of format_of coverage_of header_size
worked_values = record {
  first = refl;
  second = refl;
  other = refl;
  past_the_count = refl;
  no_more_than_there_is_room_for = refl;
  past_all_glyphs = refl;
  no_subtable = refl;
  read_along_the_line = refl;
  not_across_it = refl;
  not_in_the_other_line = refl;
  vertical = refl;
  not_in_a_horizontal_line = refl;
  other_format = refl;
  subtables = refl;
  other_version = refl;
  count_of_another_version = refl;
  minimum_too = refl;
  right_past_all_glyphs = refl;
  overriding_too = refl;
  format_1 = refl;
  many_subtables = refl;
  many_pairs = refl;
  at_the_left = refl;
  at_the_right = refl;
  at_the_left_of_the_second = refl;
  at_the_right_of_the_second = refl;
}

-- an item with a glyph, for which kerning is on (bit 4) or off
abbrev pub on : ℕ → ℕ → Item
on glyph cluster = record (new_item 0 cluster) { glyph_id = glyph; mask = 16 }

abbrev pub off : ℕ → ℕ → Item
off glyph cluster = record (new_item 0 cluster) { glyph_id = glyph }

-- a glyph of these classes, a mark, and a default ignorable
abbrev pub in_classes : ℕ → ℕ → Item
in_classes bits cluster = record (on 9 cluster) { properties = record new_properties { glyph_class = record { 0 = bits } } }

abbrev pub mark : ℕ → Item
mark cluster = in_classes 8 cluster

abbrev pub ignorable : ℕ → Item
ignorable cluster = record (on 9 cluster) { properties = record new_properties { ignorable = true } }

-- a line of these items, each 600 wide
abbrev pub line : Direction → List Item → Buffer
line direction items = record new_buffer {
  items = items;
  positions = map (λ _. record zero_position { x_advance = pos 600 }) items;
  direction = direction;
}

-- advances and offsets along a horizontal line
abbrev pub along : Buffer → List (ℤ × ℤ)
along b = map (λ (p : GlyphPosition). (p.x_advance, p.x_offset)) b.positions

-- the same down a vertical line
abbrev pub down : Buffer → List (ℤ × ℤ)
down b = map (λ (p : GlyphPosition). (p.y_advance, p.y_offset)) b.positions

abbrev pub masks : Buffer → List ℕ
masks b = map (λ (x : Item). x.mask) b.items

abbrev pub by_subtable : List Item → Buffer
by_subtable items = kerned None (table 1 1) 4 16 (line LeftToRight items)

abbrev pub still : ℤ × ℤ
still = (pos 600, pos 0)

pub record WorkedLines : Type 0 where
  pub half_to_each : along (by_subtable (on 2 0 ∷ on 3 1 ∷ [])) ≡ (pos 575, pos 0) ∷ (pos 575, negsuc 24) ∷ []
  -- -35 is -18 and -17
  pub half_downwards : along (by_subtable (on 3 0 ∷ on 2 1 ∷ [])) ≡ (pos 582, pos 0) ∷ (pos 583, negsuc 16) ∷ []
  pub each_pair : along (by_subtable (on 2 0 ∷ on 3 1 ∷ on 2 2 ∷ []))
      ≡ (pos 575, pos 0) ∷ (pos 557, negsuc 24) ∷ (pos 583, negsuc 16) ∷ []
  pub over_a_mark : along (by_subtable (on 2 0 ∷ mark 0 ∷ on 3 1 ∷ [])) ≡ (pos 575, pos 0) ∷ still ∷ (pos 575, negsuc 24) ∷ []
  pub over_an_ignorable : along (by_subtable (on 2 0 ∷ ignorable 0 ∷ on 3 1 ∷ [])) ≡ (pos 575, pos 0) ∷ still ∷ (pos 575, negsuc 24) ∷ []
  pub not_over_a_letter : along (by_subtable (on 2 0 ∷ on 8 0 ∷ on 3 1 ∷ [])) ≡ still ∷ still ∷ still ∷ []
  pub off_on_the_right : along (by_subtable (on 2 0 ∷ off 3 1 ∷ [])) ≡ still ∷ still ∷ []
  pub off_on_the_left : along (by_subtable (off 2 0 ∷ on 3 1 ∷ [])) ≡ still ∷ still ∷ []
  pub off_between : along (by_subtable (on 2 0 ∷ off 8 1 ∷ on 3 2 ∷ [])) ≡ still ∷ still ∷ still ∷ []
  pub mark_in_front_waits : left_after 16 0 None (mark 0 ∷ []) ≡ Some 0
  pub unsafe_between : masks (by_subtable (on 2 0 ∷ mark 0 ∷ on 3 1 ∷ on 8 2 ∷ [])) ≡ 16 ∷ 16 ∷ 19 ∷ 16 ∷ []
  -- every glyph, if it is asked for
  pub concat_asked : masks (kerned None (table 1 1) 4 16 (record (line LeftToRight (on 8 0 ∷ on 8 1 ∷ [])) { flags = record { 0 = 64 } }))
      ≡ 18 ∷ 18 ∷ []
  pub concat_unasked : masks (by_subtable (on 8 0 ∷ on 8 1 ∷ [])) ≡ 16 ∷ 16 ∷ []
  -- from the left of the line: 3 stands there, before 2
  pub backward : along (subtable_kerned None (table 1 1) 4 16 (line RightToLeft (on 2 0 ∷ on 3 1 ∷ [])))
      ≡ (pos 583, negsuc 16) ∷ (pos 582, pos 0) ∷ []
  pub downwards : down (subtable_kerned None (table 1 0) 4 16 (line TopToBottom (on 2 0 ∷ on 3 1 ∷ [])))
      ≡ (negsuc 24, pos 0) ∷ (negsuc 24, negsuc 24) ∷ []
  pub upwards : down (subtable_kerned None (table 1 0) 4 16 (line BottomToTop (on 2 0 ∷ on 3 1 ∷ [])))
      ≡ (negsuc 16, negsuc 16) ∷ (negsuc 17, pos 0) ∷ []
  pub down_alone : along (subtable_kerned None (table 1 0) 4 16 (line TopToBottom (on 2 0 ∷ on 3 1 ∷ []))) ≡ still ∷ still ∷ []
  pub other_line : along (subtable_kerned None (table 1 1) 4 16 (line TopToBottom (on 2 0 ∷ on 3 1 ∷ []))) ≡ still ∷ still ∷ []
  pub whole_table : along (table_kerned None (table 1 1) 16 (line LeftToRight (on 2 0 ∷ on 3 1 ∷ [])))
      ≡ (pos 575, pos 0) ∷ (pos 575, negsuc 24) ∷ []
  pub two_subtables : along (table_kerned None (table 2 1 ++ subtable 26 1 2) 16 (line LeftToRight (on 2 0 ∷ on 3 1 ∷ [])))
      ≡ (pos 550, pos 0) ∷ (pos 550, negsuc 49) ∷ []
  pub short_subtable : along (table_kerned None (0 ∷ 0 ∷ 0 ∷ 1 ∷ subtable 5 1 2) 16 (line LeftToRight (on 2 0 ∷ on 3 1 ∷ [])))
      ≡ still ∷ still ∷ []
  pub no_mask : along (table_kerned None (table 1 1) 0 (line LeftToRight (on 2 0 ∷ on 3 1 ∷ []))) ≡ still ∷ still ∷ []
  pub no_mask_no_flags : masks (table_kerned None (table 1 1) 0 (record (line LeftToRight (on 2 0 ∷ on 3 1 ∷ [])) { flags = record { 0 = 64 } }))
      ≡ 16 ∷ 16 ∷ []
  pub by_classes : along (table_kerned None (class_table 30 34) 16 (line LeftToRight (on 2 0 ∷ on 3 1 ∷ on 2 2 ∷ [])))
      ≡ (pos 575, pos 0) ∷ (pos 557, negsuc 24) ∷ (pos 583, negsuc 16) ∷ []
  pub by_pairs_and_by_classes : along (table_kerned None (table 2 1 ++ classes 30 34) 16 (line LeftToRight (on 2 0 ∷ on 3 1 ∷ [])))
      ≡ (pos 550, pos 0) ∷ (pos 550, negsuc 49) ∷ []
  -- six bytes of another format, and a subtable after them
  pub after_a_short_subtable : along (table_kerned None (0 ∷ 0 ∷ 0 ∷ 2 ∷ 0 ∷ 0 ∷ 0 ∷ 6 ∷ 1 ∷ 1 ∷ subtable 26 1 2) 16
      (line LeftToRight (on 2 0 ∷ on 3 1 ∷ []))) ≡ (pos 575, pos 0) ∷ (pos 575, negsuc 24) ∷ []
  pub over_a_mark_of_two_classes : along (by_subtable (on 2 0 ∷ in_classes 10 0 ∷ on 3 1 ∷ []))
      ≡ (pos 575, pos 0) ∷ still ∷ (pos 575, negsuc 24) ∷ []
  pub over_a_mark_that_is_off : along (by_subtable (on 2 0 ∷ record (mark 0) { mask = 0 } ∷ on 3 1 ∷ []))
      ≡ (pos 575, pos 0) ∷ still ∷ (pos 575, negsuc 24) ∷ []

pub worked_lines : WorkedLines
unfolding i16_of ◌+ʷ◌ ◌-ʷ◌ int_wrap first_start length_of value_of format_of coverage_of header_size
worked_lines = record {
  half_to_each = refl;
  half_downwards = refl;
  each_pair = refl;
  over_a_mark = refl;
  over_an_ignorable = refl;
  not_over_a_letter = refl;
  off_on_the_right = refl;
  off_on_the_left = refl;
  off_between = refl;
  mark_in_front_waits = refl;
  unsafe_between = refl;
  concat_asked = refl;
  concat_unasked = refl;
  backward = refl;
  downwards = refl;
  upwards = refl;
  down_alone = refl;
  other_line = refl;
  whole_table = refl;
  two_subtables = refl;
  short_subtable = refl;
  no_mask = refl;
  no_mask_no_flags = refl;
  by_classes = refl;
  by_pairs_and_by_classes = refl;
  after_a_short_subtable = refl;
  over_a_mark_of_two_classes = refl;
  over_a_mark_that_is_off = refl;
}

-- requests for `kern`: for the whole text or for a range, with a fallback or without
abbrev pub KERN : hb_tag_t
KERN = record { 0 = 0x6b65726e }

abbrev pub whole : ℕ → MapRequest
whole value = Feature KERN 3 value

abbrev pub range : ℕ → MapRequest
range value = Feature KERN 0 value

pub record WorkedMaps : Type 0 where
  pub everywhere : map_of (whole 1 ∷ []) ≡ record { is_on = true; everywhere = 1 }
  pub switched_off : map_of (whole 1 ∷ whole 0 ∷ []) ≡ record { is_on = false; everywhere = 0 }
  pub off_in_a_range : map_of (whole 1 ∷ range 0 ∷ []) ≡ record { is_on = true; everywhere = 1 }
  pub on_in_a_range : map_of (whole 0 ∷ range 1 ∷ []) ≡ record { is_on = true; everywhere = 0 }
  pub nothing_stands_in : map_of (range 1 ∷ []) ≡ record { is_on = false; everywhere = 0 }
  pub other_feature : map_of (Feature (record { 0 = 1 }) 3 1 ∷ Pause None ∷ []) ≡ record { is_on = false; everywhere = 0 }
  pub bits : (kern_masks (record { is_on = true; everywhere = 1 })).mask KERN ≡ (4080, 4)
  pub one : (kern_masks (record { is_on = true; everywhere = 1 })).one_mask KERN ≡ 16
  pub on_for_all : (kern_masks (record { is_on = true; everywhere = 1 })).global_mask ≡ 16
  pub off_for_all : (kern_masks (record { is_on = true; everywhere = 0 })).global_mask ≡ 0
  pub no_bits : (kern_masks (record { is_on = false; everywhere = 1 })).mask KERN ≡ (0, 4)
  pub no_bits_for_others : (kern_masks (record { is_on = true; everywhere = 1 })).mask (record { 0 = 1 }) ≡ (0, 4)
  pub eight_bits : map_of (whole 257 ∷ []) ≡ record { is_on = true; everywhere = 1 }
  pub one_off : (kern_masks (record { is_on = false; everywhere = 1 })).one_mask KERN ≡ 0
  pub by_value_for_all : (kern_masks (record { is_on = true; everywhere = 2 })).global_mask ≡ 32
  pub no_one_for_others : (kern_masks (record { is_on = true; everywhere = 1 })).one_mask (record { 0 = 1 }) ≡ 0
  -- for the whole text (1) without a fallback, and for a range with one (2)
  pub without_a_fallback : map_of (Feature KERN 1 1 ∷ []) ≡ record { is_on = false; everywhere = 1 }
  pub range_with_a_fallback : map_of (Feature KERN 2 1 ∷ []) ≡ record { is_on = true; everywhere = 0 }
  pub eight_bits_for_all : (kern_masks (record { is_on = true; everywhere = 257 })).global_mask ≡ 16
  pub off_everywhere : (kern_masks (record { is_on = false; everywhere = 1 })).global_mask ≡ 0
  pub no_stages : (kern_masks (record { is_on = true; everywhere = 1 })).stages ≡ 0
  pub no_pause : (kern_masks (record { is_on = true; everywhere = 1 })).pause_after 0 ≡ None
  pub no_feature_of_a_table : (table : TableIndex) → (kern_masks (record { is_on = true; everywhere = 1 })).feature_index table KERN ≡ None

pub worked_maps : WorkedMaps
worked_maps = record {
  everywhere = refl;
  switched_off = refl;
  off_in_a_range = refl;
  on_in_a_range = refl;
  nothing_stands_in = refl;
  other_feature = refl;
  bits = refl;
  one = refl;
  on_for_all = refl;
  off_for_all = refl;
  no_bits = refl;
  no_bits_for_others = refl;
  eight_bits = refl;
  one_off = refl;
  by_value_for_all = refl;
  no_one_for_others = refl;
  without_a_fallback = refl;
  range_with_a_fallback = refl;
  eight_bits_for_all = refl;
  off_everywhere = refl;
  no_stages = refl;
  no_pause = refl;
  no_feature_of_a_table = λ table. refl;
}
