-- The older table `kern` with state tables and across the line, on tables of 16-bit words that were read by hand.
use Rattle.std.specs.Prelude.{◌≡◌, ℕ, ℤ, pos, negsuc, Bool, List, [], ◌∷◌, ◌++◌, Some, None, true, false, refl}
use Rattle.std.specs.Int.{int_wrap}
use Rattle.apple_tables.specs.declared.states.Entry.{Entry}
use Rattle.kern_table.specs.Headers.{coverage_of, first_start, format_of, header_size, length_of}
use Rattle.kern_table.specs.Pairs.{value_of}
use Rattle.kern_table.specs.Worked.Apple.{apple, pairs}
use Rattle.kern_table.specs.Worked.Kern.{along, down, line, masks, numbers_body, off, on, still}
use Rattle.shape_buffer.specs.PositionWalks.{positions_mapped}
use Rattle.shape_common.specs.Wrapping.{◌+ʷ◌, ◌-ʷ◌}
use Rattle.shape_common.specs.declared.text_types.Direction.{Direction}
use Rattle.shape_common.specs.declared.text_types.Direction.TheVariants.{LeftToRight, RightToLeft, TopToBottom}
use Rattle.shape_font.specs.Bytes.{i16_of}
use Rattle.shape_font.specs.Metrics.{as_short}
use Rattle.shape_font.specs.Worked.Glyphs.{words}
use Rattle.shape_items.specs.Buffer.{Buffer}
use Rattle.shape_items.specs.Items.{Item}
use Rattle.apple_positioning.specs.Driver.{class_for, entry_for, first_state, marked, met_at, stepped}
use Rattle.apple_positioning.specs.Layouts.{empties, old_header_of, old_list_of, step_by, value_place}
use Rattle.apple_positioning.specs.OldStates as old_states
use Rattle.apple_positioning.specs.OldStates.{row_of}
use Rattle.apple_positioning.specs.OldTables.{Font, has_across, has_machine, kern_run}
use Rattle.apple_positioning.specs.Pairs.{kerned}
use Rattle.apple_positioning.specs.Stacking.{popped_one}
use Rattle.apple_positioning.specs.Subtables.{acted, acted_in_order}
use Rattle.apple_positioning.specs.Tables.{finished}
use Rattle.apple_positioning.specs.Worked.Driving.{two, values}
use Rattle.apple_positioning.specs.Worked.Lines.{rises, shifts}
use Rattle.apple_positioning.specs.Worked.Tables.{links}
use Rattle.apple_positioning.specs.declared.chains.Header.{Header}
use Rattle.apple_positioning.specs.declared.values.Layout.TheVariants.{Kerx, Kern}

-- 44 bytes: six classes, of which glyph 2 has class 4, and glyph 3 class 5, at 10; two states at 16, three entries at 28, values at 40
abbrev pub machine_of : List ℕ → List ℕ → List ℕ → List ℕ
machine_of states entries values =
    words (6 ∷ 10 ∷ 16 ∷ 28 ∷ 40 ∷ 2 ∷ 2 ∷ 0x0405 ∷ []) ++ (words states ++ (words entries ++ words values))

-- glyph 2 leads to the second state by entry 1; there glyph 3 leads back by entry 2
abbrev pub states : List ℕ
states = 0 ∷ 0 ∷ 0x0100 ∷ 0 ∷ 0 ∷ 0x0102 ∷ []

-- nothing; push; push, and pop with the values from 40 on
abbrev pub entries : List ℕ
entries = 16 ∷ 0 ∷ 22 ∷ 0x8000 ∷ 16 ∷ 0x8028 ∷ []

abbrev pub machine : List ℕ
machine = machine_of states entries values

abbrev pub entry : ℕ → ℕ → ℕ → Entry
entry at next flags = record { at = at; next = next; flags = flags }

pub record WorkedOldStates : Type 0 where
  pub first_class : old_states.class_of machine 0 2 ≡ 4
  pub second_class : old_states.class_of machine 0 3 ≡ 5
  pub before_the_first_glyph : old_states.class_of machine 0 1 ≡ 1
  pub past_the_last_glyph : old_states.class_of machine 0 4 ≡ 1
  pub deleted : old_states.class_of machine 0 0xFFFF ≡ 2
  -- 200 glyphs are stated, and the table has room for two
  pub past_the_room : old_states.class_of (words (6 ∷ 10 ∷ 16 ∷ 28 ∷ 40 ∷ 2 ∷ 200 ∷ 0x0405 ∷ [])) 0 4 ≡ 1
  pub in_another_table : old_states.class_of (words (7 ∷ 7 ∷ []) ++ machine) 4 3 ≡ 5
  pub of_a_text : old_states.first_state machine 0 ≡ 16
  pub first_row : old_states.entry_of machine 0 16 4 ≡ entry 36 22 0x8000
  pub second_row : old_states.entry_of machine 0 22 5 ≡ entry 40 16 0x8028
  pub no_action : old_states.entry_of machine 0 16 5 ≡ entry 32 16 0
  -- there are six classes: 6 is that of glyphs that aren't named, and not the first of the next row
  pub class_past_the_last : old_states.entry_of (machine_of (0 ∷ 0 ∷ 0x0100 ∷ 0x0200 ∷ 0 ∷ 0x0102 ∷ []) entries values) 0 16 6 ≡ entry 32 16 0
  pub start_of_a_row : row_of machine 0 22 ≡ 22
  pub end_of_a_row : row_of machine 0 27 ≡ 22
  pub next_row : row_of machine 0 28 ≡ 28
  -- rows before the first one begin at 10 and 4; towards the first one 9 leads to 10
  pub just_before : row_of machine 0 15 ≡ 16
  pub row_before : row_of machine 0 10 ≡ 10
  pub within_the_row_before : row_of machine 0 9 ≡ 10
  pub without_classes : row_of (words (0 ∷ 0 ∷ 16 ∷ [])) 0 20 ≡ 16

pub record WorkedOldLists : Type 0 where
  pub place_in_flags : value_place (entry 0 0 0x8028) ≡ Some 40
  pub no_place : value_place (entry 0 0 0xC000) ≡ None
  pub place_of_14_bits : value_place (entry 0 0 0xFFFF) ≡ Some 0x3FFF
  pub two_values : old_list_of machine 0 40 2 ≡ Some 40
  pub three_values : old_list_of machine 0 40 3 ≡ None
  pub second_value : old_list_of machine 0 42 1 ≡ Some 42
  pub odd_place : old_list_of machine 0 43 1 ≡ Some 42
  pub before_the_values : old_list_of machine 0 39 1 ≡ None
  pub none_is_emptied : empties (Kern 0) (entry 0 0 0x2000) ≡ false
  pub emptied_by_kerx : empties Kerx (entry 0 0 0x2000) ≡ true
  pub one_value_each : step_by (Kern 0) machine ≡ 2
  pub in_another_table : old_list_of (words (7 ∷ 7 ∷ []) ++ machine) 4 40 2 ≡ Some 44

abbrev pub header : Bool → Bool → Bool → ℕ → Header
header vertical across variation format = record {
  is_vertical = vertical;
  is_cross_stream = across;
  has_variation = variation;
  is_backward = false;
  format = format;
  tuple_count = 0;
}

-- a table of OpenType's version, and one of its subtables: its length, and its format and coverage
abbrev pub opentype : ℕ → List ℕ
opentype count = words (0 ∷ count ∷ [])

abbrev pub opentype_of : ℕ → ℕ → List ℕ → List ℕ
opentype_of len kind body = words (0 ∷ len ∷ kind ∷ []) ++ body

-- the same of Apple's: its length, and its coverage and format
abbrev pub apple_of : ℕ → ℕ → List ℕ → List ℕ
apple_of len kind body = words (0 ∷ len ∷ kind ∷ 0 ∷ []) ++ body

pub record WorkedOldHeaders : Type 0 where
  pub of_apple : old_header_of (apple 1 ++ apple_of 52 1 machine) 8 ≡ header false false false 1
  pub of_apple_vertical : old_header_of (apple 1 ++ apple_of 52 0x8000 machine) 8 ≡ header true false false 0
  pub of_apple_across : old_header_of (apple 1 ++ apple_of 52 0x4003 machine) 8 ≡ header false true false 3
  pub of_apple_variation : old_header_of (apple 1 ++ apple_of 52 0x2001 machine) 8 ≡ header false false true 1
  pub of_apple_other_bits : old_header_of (apple 1 ++ apple_of 52 0x1F01 machine) 8 ≡ header false false false 1
  pub of_opentype : old_header_of (opentype 1 ++ opentype_of 50 0x0101 machine) 4 ≡ header false false false 1
  pub of_opentype_vertical : old_header_of (opentype 1 ++ opentype_of 50 0x0100 machine) 4 ≡ header true false false 1
  pub of_opentype_across : old_header_of (opentype 1 ++ opentype_of 50 0x0205 machine) 4 ≡ header false true false 2
  pub of_opentype_other_bits : old_header_of (opentype 1 ++ opentype_of 50 0x01FB machine) 4 ≡ header false false false 1

-- a machine along the line and one across it, of Apple's
abbrev pub along_it : List ℕ
along_it = apple_of 52 1 machine

abbrev pub across_it : List ℕ
across_it = apple_of 52 0x4001 machine

abbrev pub font : List ℕ → Font
font t = record { kern = t; scale = None; mask = 16 }

-- a line by a table, where so much may be spent
abbrev pub spending : ℕ → Font → Direction → List Item → Buffer
spending left f direction items = kern_run f (record (line direction items) { max_ops = left })

abbrev pub run : List ℕ → Direction → List Item → Buffer
run t direction items = spending 100 (font t) direction items

abbrev pub asking : Font → List Item → Buffer
asking f items = kern_run f (record (line LeftToRight items) { max_ops = 100; flags = record { 0 = 64 } })

-- along the line, as by a machine of `kerx`
abbrev pub popped : List (ℤ × ℤ)
popped = (pos 580, negsuc 19) ∷ (pos 610, pos 10) ∷ []

pub record WorkedOldLines : Type 0 where
  pub apple_machine : along (run (apple 1 ++ along_it) LeftToRight two) ≡ popped
  pub opentype_machine : along (run (opentype 1 ++ opentype_of 50 0x0101 machine) LeftToRight two) ≡ popped
  pub vertical : down (run (apple 1 ++ apple_of 52 0x8001 machine) TopToBottom two) ≡ (negsuc 19, negsuc 19) ∷ (pos 10, pos 10) ∷ []
  pub other_line : along (run (apple 1 ++ along_it) TopToBottom two) ≡ still ∷ still ∷ []
  pub backward_line : along (run (apple 1 ++ along_it) RightToLeft (on 3 0 ∷ on 2 1 ∷ [])) ≡ (pos 610, pos 10) ∷ (pos 580, negsuc 19) ∷ []
  pub unsafe : masks (run (apple 1 ++ along_it) LeftToRight (on 2 0 ∷ on 3 1 ∷ on 8 2 ∷ [])) ≡ 16 ∷ 19 ∷ 16 ∷ []
  pub off_for_one : along (run (apple 1 ++ along_it) LeftToRight (on 2 0 ∷ off 3 1 ∷ [])) ≡ (pos 580, negsuc 19) ∷ still ∷ []
  pub variation : along (run (apple 1 ++ apple_of 52 0x2001 machine) LeftToRight two) ≡ still ∷ still ∷ []
  -- 0x2028 leads past the end
  pub place_past_the_end : along (run (apple 1 ++ apple_of 52 1 (machine_of states (16 ∷ 0 ∷ 22 ∷ 0x8000 ∷ 16 ∷ 0xA028 ∷ []) values)) LeftToRight two)
      ≡ still ∷ still ∷ []
  -- the value of the second glyph is the last one: the first one stays on the stack
  pub left_on_the_stack : along (run (apple 1 ++ apple_of 54 1 (machine_of states entries (10 ∷ 0xFFED ∷ 40 ∷ []))) LeftToRight
      (on 2 0 ∷ on 2 1 ∷ on 3 2 ∷ [])) ≡ still ∷ popped
  -- there are two values for three glyphs
  pub value_lacking : along (run (apple 1 ++ along_it) LeftToRight (on 2 0 ∷ on 2 1 ∷ on 3 2 ∷ [])) ≡ still ∷ still ∷ still ∷ []
  -- 50 bytes end before the second value; of the last subtable all bytes count
  pub last_by_all_bytes : along (run (apple 1 ++ apple_of 50 1 machine) LeftToRight two) ≡ popped
  pub first_by_its_own : along (run (apple 2 ++ (apple_of 50 1 machine ++ pairs 0)) LeftToRight two) ≡ still ∷ still ∷ []
  pub machine_and_pairs : along (run (apple 2 ++ (along_it ++ pairs 0)) LeftToRight two) ≡ (pos 555, negsuc 19) ∷ (pos 585, negsuc 14) ∷ []
  pub pairs_and_machine : along (run (apple 2 ++ (pairs 0 ++ along_it)) LeftToRight two) ≡ (pos 555, negsuc 19) ∷ (pos 585, negsuc 14) ∷ []
  -- 16 for each glyph, and for each subtable
  pub charged : (run (apple 2 ++ (along_it ++ pairs 0)) LeftToRight two).max_ops ≡ 36
  pub too_costly : along (spending 63 (font (apple 2 ++ (along_it ++ pairs 0))) LeftToRight two) ≡ popped
  pub nothing_left : (spending 63 (font (apple 2 ++ (along_it ++ pairs 0))) LeftToRight two).max_ops ≡ 0
  pub off_everywhere : along (spending 100 (record (font (apple 1 ++ along_it)) { mask = 0 }) LeftToRight two) ≡ still ∷ still ∷ []
  pub off_everywhere_is_charged : (spending 100 (record (font (apple 1 ++ along_it)) { mask = 0 }) LeftToRight two).max_ops ≡ 68
  pub concat_asked : masks (asking (font (apple 1 ++ apple_of 52 0x8001 machine)) (on 8 0 ∷ on 8 1 ∷ [])) ≡ 18 ∷ 18 ∷ []
  pub concat_of_pairs_alone : masks (asking (font (apple 1 ++ pairs 0x80)) (on 8 0 ∷ on 8 1 ∷ [])) ≡ 16 ∷ 16 ∷ []
  pub none : along (run (apple 0 ++ along_it) LeftToRight two) ≡ still ∷ still ∷ []

pub record WorkedOldRises : Type 0 where
  pub machine_across : rises (run (apple 1 ++ across_it) LeftToRight two) ≡ negsuc 19 ∷ pos 10 ∷ []
  pub not_along : along (run (apple 1 ++ across_it) LeftToRight two) ≡ still ∷ still ∷ []
  pub each_follows : links (run (apple 1 ++ across_it) LeftToRight two) ≡ (negsuc 0, 2) ∷ (negsuc 0, 2) ∷ []
  pub each_follows_backward : links (run (apple 1 ++ across_it) RightToLeft (on 3 0 ∷ on 2 1 ∷ [])) ≡ (pos 1, 2) ∷ (pos 1, 2) ∷ []
  pub noted : (run (apple 1 ++ across_it) LeftToRight two).scratch_flags.0 ≡ 96
  pub whatever_the_mask : rises (spending 100 (record (font (apple 1 ++ across_it)) { mask = 0 }) LeftToRight two) ≡ negsuc 19 ∷ pos 10 ∷ []
  pub beside : shifts (run (apple 1 ++ apple_of 52 0xC001 machine) TopToBottom two) ≡ negsuc 19 ∷ pos 10 ∷ []
  pub opentype_machine : rises (run (opentype 1 ++ opentype_of 50 0x0105 machine) LeftToRight two) ≡ negsuc 19 ∷ pos 10 ∷ []
  pub pairs_across : rises (run (apple 1 ++ pairs 0x40) LeftToRight two) ≡ pos 0 ∷ negsuc 49 ∷ []
  pub numbers_across : rises (run (apple 1 ++ apple_of 32 0x4003 (numbers_body 3 2 2)) LeftToRight two) ≡ pos 0 ∷ negsuc 49 ∷ []
  pub pairs_follow : links (run (apple 1 ++ pairs 0x40) LeftToRight two) ≡ (negsuc 0, 2) ∷ (negsuc 0, 2) ∷ []
  pub pairs_off_everywhere : rises (spending 100 (record (font (apple 1 ++ pairs 0x40)) { mask = 0 }) LeftToRight two) ≡ pos 0 ∷ pos 0 ∷ []
  pub nothing_moved : links (run (apple 1 ++ pairs 0x40) LeftToRight (on 8 0 ∷ on 8 1 ∷ [])) ≡ (pos 0, 2) ∷ (pos 0, 2) ∷ []
  pub of_the_other_kind : links (run (apple 1 ++ apple_of 52 0xC001 machine) LeftToRight two) ≡ (pos 0, 0) ∷ (pos 0, 0) ∷ []
  pub variation : links (run (apple 1 ++ apple_of 52 0x6001 machine) LeftToRight two) ≡ (pos 0, 0) ∷ (pos 0, 0) ∷ []
  pub along_beside_across : along (run (apple 2 ++ (across_it ++ pairs 0)) LeftToRight two) ≡ (pos 575, pos 0) ∷ (pos 575, negsuc 24) ∷ []
  pub across_after_along : rises (run (apple 2 ++ (pairs 0 ++ across_it)) LeftToRight two) ≡ negsuc 19 ∷ pos 10 ∷ []
  -- the second one is too costly: each follows the one before it, and all that was moved stays
  pub too_costly_then : links (spending 63 (font (apple 2 ++ (across_it ++ pairs 0))) LeftToRight two) ≡ (negsuc 0, 2) ∷ (negsuc 0, 2) ∷ []
  -- nothing was moved: none follows another one
  pub loose_when_too_costly : links (spending 63 (font (apple 2 ++ (pairs 0x40 ++ pairs 0))) LeftToRight (on 8 0 ∷ on 8 1 ∷ []))
      ≡ (pos 0, 2) ∷ (pos 0, 2) ∷ []

pub record WorkedOldKinds : Type 0 where
  pub one_machine : has_machine (apple 1 ++ along_it) ≡ true
  pub second_machine : has_machine (apple 2 ++ (pairs 0 ++ along_it)) ≡ true
  pub not_counted : has_machine (apple 1 ++ (pairs 0 ++ along_it)) ≡ false
  pub no_machine : has_machine (apple 1 ++ pairs 0) ≡ false
  pub opentype_machine : has_machine (opentype 1 ++ opentype_of 50 0x0101 machine) ≡ true
  pub of_other_lines_too : has_machine (apple 1 ++ apple_of 52 0xA001 machine) ≡ true
  -- shorter than its header
  pub behind_the_end : has_machine (apple 2 ++ (apple_of 7 0 [] ++ along_it)) ≡ false
  pub across : has_across (apple 1 ++ pairs 0x40) ≡ true
  pub second_across : has_across (apple 2 ++ (pairs 0 ++ across_it)) ≡ true
  pub not_across : has_across (apple 1 ++ along_it) ≡ false
  pub opentype_across : has_across (opentype 1 ++ opentype_of 50 0x0105 machine) ≡ true

pub worked_old_states : WorkedOldStates
worked_old_states = record {
  first_class = refl;
  second_class = refl;
  before_the_first_glyph = refl;
  past_the_last_glyph = refl;
  deleted = refl;
  past_the_room = refl;
  in_another_table = refl;
  of_a_text = refl;
  first_row = refl;
  second_row = refl;
  no_action = refl;
  class_past_the_last = refl;
  start_of_a_row = refl;
  end_of_a_row = refl;
  next_row = refl;
  just_before = refl;
  row_before = refl;
  within_the_row_before = refl;
  without_classes = refl;
}

pub worked_old_lists : WorkedOldLists
worked_old_lists = record {
  place_in_flags = refl;
  no_place = refl;
  place_of_14_bits = refl;
  two_values = refl;
  three_values = refl;
  second_value = refl;
  odd_place = refl;
  before_the_values = refl;
  none_is_emptied = refl;
  emptied_by_kerx = refl;
  one_value_each = refl;
  in_another_table = refl;
}

pub worked_old_headers : WorkedOldHeaders
unfolding format_of coverage_of header_size
worked_old_headers = record {
  of_apple = refl;
  of_apple_vertical = refl;
  of_apple_across = refl;
  of_apple_variation = refl;
  of_apple_other_bits = refl;
  of_opentype = refl;
  of_opentype_vertical = refl;
  of_opentype_across = refl;
  of_opentype_other_bits = refl;
}

pub worked_old_lines : WorkedOldLines
unfolding kern_run finished positions_mapped acted acted_in_order kerned stepped met_at marked class_for entry_for first_state popped_one
    first_start length_of value_of format_of coverage_of header_size as_short i16_of ◌+ʷ◌ ◌-ʷ◌ int_wrap
worked_old_lines = record {
  apple_machine = refl;
  opentype_machine = refl;
  vertical = refl;
  other_line = refl;
  backward_line = refl;
  unsafe = refl;
  off_for_one = refl;
  variation = refl;
  place_past_the_end = refl;
  left_on_the_stack = refl;
  value_lacking = refl;
  last_by_all_bytes = refl;
  first_by_its_own = refl;
  machine_and_pairs = refl;
  pairs_and_machine = refl;
  charged = refl;
  too_costly = refl;
  nothing_left = refl;
  off_everywhere = refl;
  off_everywhere_is_charged = refl;
  concat_asked = refl;
  concat_of_pairs_alone = refl;
  none = refl;
}

pub worked_old_rises : WorkedOldRises
unfolding kern_run finished positions_mapped acted acted_in_order kerned stepped met_at marked class_for entry_for first_state popped_one
    first_start length_of value_of format_of coverage_of header_size as_short i16_of ◌+ʷ◌ ◌-ʷ◌ int_wrap
worked_old_rises = record {
  machine_across = refl;
  not_along = refl;
  each_follows = refl;
  each_follows_backward = refl;
  noted = refl;
  whatever_the_mask = refl;
  beside = refl;
  opentype_machine = refl;
  pairs_across = refl;
  numbers_across = refl;
  pairs_follow = refl;
  pairs_off_everywhere = refl;
  nothing_moved = refl;
  of_the_other_kind = refl;
  variation = refl;
  along_beside_across = refl;
  across_after_along = refl;
  too_costly_then = refl;
  loose_when_too_costly = refl;
}

pub worked_old_kinds : WorkedOldKinds
unfolding first_start length_of format_of coverage_of header_size
worked_old_kinds = record {
  one_machine = refl;
  second_machine = refl;
  not_counted = refl;
  no_machine = refl;
  opentype_machine = refl;
  of_other_lines_too = refl;
  behind_the_end = refl;
  across = refl;
  second_across = refl;
  not_across = refl;
  opentype_across = refl;
}
