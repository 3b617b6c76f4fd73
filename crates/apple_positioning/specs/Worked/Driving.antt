-- Lines that subtables with a state table kern and attach, on subtables of 16-bit words that were read by hand.
use Rattle.std.specs.Prelude.{◌≡◌, ℕ, ℤ, pos, negsuc, List, [], ◌∷◌, ◌++◌, map, Some, refl}
use Rattle.std.specs.Int.{int_wrap}
use Rattle.font_sizes.specs.Factors.{if_short, nearest}
use Rattle.kern_table.specs.Worked.Kern.{along, down, line, masks, off, on, still}
use Rattle.shape_common.specs.Wrapping.{◌+ʷ◌, ◌-ʷ◌}
use Rattle.shape_common.specs.declared.positions.GlyphPosition.{GlyphPosition}
use Rattle.shape_common.specs.declared.text_types.Direction.{Direction}
use Rattle.shape_common.specs.declared.text_types.Direction.TheVariants.{LeftToRight, RightToLeft, TopToBottom}
use Rattle.shape_font.specs.Bytes.{i16_of}
use Rattle.shape_font.specs.Metrics.{as_short}
use Rattle.shape_font.specs.Worked.Glyphs.{words}
use Rattle.shape_items.specs.Buffer.{Buffer}
use Rattle.shape_items.specs.Items.{Item}
use Rattle.apple_positioning.specs.Attaching.{chain_to}
use Rattle.apple_positioning.specs.Driver.{class_for, entry_for, first_state, marked, met_at, stepped}
use Rattle.apple_positioning.specs.Runs.{Source}
use Rattle.apple_positioning.specs.Stacking.{popped_one}
use Rattle.apple_positioning.specs.Subtables.{acted, acted_in_order, subtable_run}
use Rattle.apple_positioning.specs.Worked.Lines.{half_as_wide, plain, rises, shifts}

-- a state table of six classes: glyph 2 has class 4, and glyph 3 class 5. Two states stand at 42, three entries at 66, and what they lead
-- to at 84
abbrev pub machine : ℕ → ℕ → ℕ → List ℕ → List ℕ → List ℕ → List ℕ
machine coverage format kind states entries rest =
    words (0 ∷ 92 ∷ coverage ∷ format ∷ 0 ∷ 0 ∷ 0 ∷ 6 ∷ 0 ∷ 20 ∷ 0 ∷ 30 ∷ 0 ∷ 54 ∷ kind ∷ 72 ∷ 8 ∷ 2 ∷ 2 ∷ 4 ∷ 5 ∷ [])
    ++ (words states ++ (words entries ++ words rest))

-- glyph 2 leads to the second state by entry 1; there glyph 3 leads back by entry 2
abbrev pub states : List ℕ
states = 0 ∷ 0 ∷ 0 ∷ 0 ∷ 1 ∷ 0 ∷ 0 ∷ 0 ∷ 0 ∷ 0 ∷ 1 ∷ 2 ∷ []

-- nothing; push; push, and pop with the values from byte 0 on
abbrev pub entries : List ℕ
entries = 0 ∷ 0 ∷ 0xFFFF ∷ 1 ∷ 0x8000 ∷ 0xFFFF ∷ 0 ∷ 0x8000 ∷ 0 ∷ []

-- the last glyph becomes wider by 10, the one before it closer by 20
abbrev pub values : List ℕ
values = 10 ∷ 0xFFED ∷ []

-- a line whose run may still look at a glyph again a few times
abbrev pub short : Direction → List Item → Buffer
short direction items = record (line direction items) { max_ops = 40 }

abbrev pub stacked : ℕ → List ℕ → List ℕ → Direction → List Item → Buffer
stacked coverage entries values direction items =
    subtable_run (plain (machine coverage 1 0 states entries values)) (short direction items)

abbrev pub two : List Item
two = on 2 0 ∷ on 3 1 ∷ []

-- the same where each glyph follows the one before it, and stands 5 above the line
abbrev pub joined : GlyphPosition → GlyphPosition
joined p = record p { attach_type = 2; attach_chain = negsuc 0; y_offset = pos 5; x_offset = pos 6 }

abbrev pub crossed : ℕ → List ℕ → Direction → Buffer
crossed coverage values direction = let b = short direction two in
    subtable_run (plain (machine coverage 1 0 states entries values)) (record b { positions = map joined b.positions })

-- the same table, whose second state leads to entry 2 at the end of the text
abbrev pub ending : List ℕ → List Item → Buffer
ending values items = subtable_run (plain (machine 0 1 0 (0 ∷ 0 ∷ 0 ∷ 0 ∷ 1 ∷ 0 ∷ 2 ∷ 0 ∷ 0 ∷ 0 ∷ 1 ∷ 2 ∷ []) entries values)) (short LeftToRight items)

-- four entries, of which entry 1 has the same glyph looked at again, and entry 3 doesn't; so much is left for that
abbrev pub staying : ℕ → Buffer
staying left = subtable_run (plain (machine 0 1 0 (0 ∷ 0 ∷ 0 ∷ 0 ∷ 1 ∷ 0 ∷ 0 ∷ 0 ∷ 0 ∷ 0 ∷ 3 ∷ 2 ∷ [])
    (0 ∷ 0 ∷ 0xFFFF ∷ 1 ∷ 0xC000 ∷ 0xFFFF ∷ 0 ∷ 0x8000 ∷ 6 ∷ 1 ∷ 0x8000 ∷ 0xFFFF ∷ []) (2 ∷ 4 ∷ 8 ∷ [])))
    (record (short LeftToRight two) { max_ops = left })

-- which glyphs each one follows
abbrev pub chains_in : Buffer → List ℤ
chains_in b = map (λ (p : GlyphPosition). p.attach_chain) b.positions

pub record WorkedStacking : Type 0 where
  pub popped : along (stacked 0 entries values LeftToRight two) ≡ (pos 580, negsuc 19) ∷ (pos 610, pos 10) ∷ []
  pub unsafe : masks (stacked 0 entries values LeftToRight (on 2 0 ∷ on 3 1 ∷ on 8 2 ∷ [])) ≡ 16 ∷ 19 ∷ 16 ∷ []
  -- at glyph 2 after glyph 2 nothing is done, and a text that begins there leads to the same
  pub safe : masks (stacked 0 entries values LeftToRight (on 2 0 ∷ on 2 1 ∷ [])) ≡ 16 ∷ 16 ∷ []
  -- glyph 8 leads from the second state to the first, as at the start
  pub safe_after_another : masks (stacked 0 entries values LeftToRight (on 2 0 ∷ on 8 1 ∷ [])) ≡ 16 ∷ 16 ∷ []
  pub nothing_pushed : along (stacked 0 entries values LeftToRight (on 3 0 ∷ on 3 1 ∷ [])) ≡ still ∷ still ∷ []
  -- 11 is 10, and the last one
  pub first_is_last : along (stacked 0 entries (11 ∷ 0xFFED ∷ []) LeftToRight two) ≡ still ∷ (pos 610, pos 10) ∷ []
  pub no_last : along (stacked 0 entries (10 ∷ 20 ∷ []) LeftToRight two) ≡ (pos 620, pos 20) ∷ (pos 610, pos 10) ∷ []
  pub value_lacking : along (stacked 0 entries (10 ∷ []) LeftToRight two) ≡ still ∷ still ∷ []
  pub off_for_one : along (stacked 0 entries values LeftToRight (on 2 0 ∷ off 3 1 ∷ [])) ≡ (pos 580, negsuc 19) ∷ still ∷ []
  -- the value of the second glyph is the last one: the first one stays on the stack
  pub left_on_the_stack : along (stacked 0 entries (10 ∷ 11 ∷ 40 ∷ []) LeftToRight (on 2 0 ∷ on 2 1 ∷ on 3 2 ∷ []))
      ≡ still ∷ (pos 610, pos 10) ∷ (pos 610, pos 10) ∷ []
  -- entry 2 empties the stack, and pushes
  pub emptied : along (stacked 0 (0 ∷ 0 ∷ 0xFFFF ∷ 1 ∷ 0x8000 ∷ 0xFFFF ∷ 0 ∷ 0xA000 ∷ 0 ∷ []) (10 ∷ 20 ∷ []) LeftToRight two)
      ≡ still ∷ (pos 610, pos 10) ∷ []
  -- 2 is the last glyph of the text, and the first one of the line
  pub backward_line : along (stacked 0 entries values RightToLeft (on 3 0 ∷ on 2 1 ∷ [])) ≡ (pos 610, pos 10) ∷ (pos 580, negsuc 19) ∷ []
  pub processed_backward : along (stacked 0x1000 entries values LeftToRight (on 3 0 ∷ on 2 1 ∷ []))
      ≡ (pos 610, pos 10) ∷ (pos 580, negsuc 19) ∷ []
  pub vertical : down (stacked 0x8000 entries values TopToBottom two) ≡ (negsuc 19, negsuc 19) ∷ (pos 10, pos 10) ∷ []
  pub other_line : along (stacked 0x8000 entries values LeftToRight two) ≡ still ∷ still ∷ []
  -- at the end of the text, which is pushed, too, and whose value doesn't count
  pub at_the_end : along (ending (10 ∷ 0xFFED ∷ []) (on 2 0 ∷ [])) ≡ (pos 580, negsuc 19) ∷ []
  pub at_the_end_after_the_last : along (ending (11 ∷ 20 ∷ []) (on 2 0 ∷ [])) ≡ (pos 620, pos 20) ∷ []
  pub unsafe_before_the_end : masks (ending values (on 2 0 ∷ on 8 1 ∷ [])) ≡ 16 ∷ 19 ∷ []
  -- glyph 2 is looked at again in the second state, where it is pushed once more; glyph 3 pops three
  pub looked_at_again : along (staying 16) ≡ (pos 612, pos 12) ∷ (pos 602, pos 2) ∷ []
  pub too_costly_to_look_again : along (staying 15) ≡ (pos 604, pos 4) ∷ (pos 602, pos 2) ∷ []
  pub charged : (staying 40).max_ops ≡ 24
  pub off_everywhere : along (subtable_run (record (plain (machine 0 1 0 states entries values)) { mask = 0 }) (short LeftToRight two)) ≡ still ∷ still ∷ []
  pub sized : along (subtable_run (record (plain (machine 0 1 0 states entries values)) { scale = Some half_as_wide }) (short LeftToRight two))
      ≡ (pos 590, negsuc 9) ∷ (pos 605, pos 5) ∷ []

pub record WorkedCrossing : Type 0 where
  pub raised : rises (crossed 0x4000 values LeftToRight) ≡ negsuc 14 ∷ pos 15 ∷ []
  pub noted : (crossed 0x4000 values LeftToRight).scratch_flags.0 ≡ 96
  pub not_along : along (crossed 0x4000 values LeftToRight) ≡ (pos 600, pos 6) ∷ (pos 600, pos 6) ∷ []
  -- -32768
  pub put_back : rises (crossed 0x4000 (0x8000 ∷ 0xFFED ∷ []) LeftToRight) ≡ negsuc 14 ∷ pos 0 ∷ []
  pub put_back_follows_none : chains_in (crossed 0x4000 (0x8000 ∷ 0xFFED ∷ []) LeftToRight) ≡ negsuc 0 ∷ pos 0 ∷ []
  pub follows_none : rises (stacked 0x4000 entries values LeftToRight two) ≡ pos 0 ∷ pos 0 ∷ []
  pub nothing_to_note : (stacked 0x4000 entries values LeftToRight two).scratch_flags.0 ≡ 32
  pub beside : shifts (crossed 0xC000 values TopToBottom) ≡ negsuc 13 ∷ pos 16 ∷ []
  pub beside_put_back : shifts (crossed 0xC000 (0x8000 ∷ 0xFFED ∷ []) TopToBottom) ≡ negsuc 13 ∷ pos 0 ∷ []
  pub off_everywhere : rises (subtable_run (record (plain (machine 0x4000 1 0 states entries values)) { mask = 0 })
      (record (short LeftToRight two) { positions = map joined (short LeftToRight two).positions })) ≡ negsuc 14 ∷ pos 15 ∷ []

-- ---- format 4: nothing; mark; do action 0

abbrev pub marking : List ℕ
marking = 0 ∷ 0 ∷ 0xFFFF ∷ 1 ∷ 0x8000 ∷ 0xFFFF ∷ 0 ∷ 0 ∷ 0 ∷ []

-- anchor points: glyph 2 has two, glyph 3 one
abbrev pub points : List ℕ
points = words (0 ∷ 0 ∷ 0 ∷ 12 ∷ 0 ∷ 22 ∷ 8 ∷ 2 ∷ 2 ∷ 0 ∷ 12 ∷ 0 ∷ 2 ∷ 100 ∷ 50 ∷ 7 ∷ 8 ∷ 0 ∷ 1 ∷ 30 ∷ 5 ∷ [])

abbrev pub source : ℕ → List ℕ → List ℕ → List ℕ → Source
source kind states entries actions = record (plain (machine 0 4 kind states entries actions)) { ankr = points }

abbrev pub attached : ℕ → List ℕ → List Item → Buffer
attached kind actions items = subtable_run (source kind states marking actions) (short LeftToRight items)

abbrev pub offsets : Buffer → List (ℤ × ℤ)
offsets b = map (λ (p : GlyphPosition). (p.x_offset, p.y_offset)) b.positions

abbrev pub types : Buffer → List ℕ
types b = map (λ (p : GlyphPosition). p.attach_type) b.positions

-- 10, 20 comes to 3, 4
abbrev pub coordinates : List ℕ
coordinates = 10 ∷ 20 ∷ 3 ∷ 4 ∷ []

abbrev pub none : ℤ × ℤ
none = (pos 0, pos 0)

pub record WorkedAttaching : Type 0 where
  pub by_coordinates : offsets (attached 0x8000 coordinates two) ≡ none ∷ (pos 7, pos 16) ∷ []
  pub follows : chains_in (attached 0x8000 coordinates two) ≡ pos 0 ∷ negsuc 0 ∷ []
  pub as_a_mark : types (attached 0x8000 coordinates two) ≡ 0 ∷ 1 ∷ []
  pub noted : (attached 0x8000 coordinates two).scratch_flags.0 ≡ 96
  pub wherever_it_was : offsets (subtable_run (source 0x8000 states marking coordinates)
      (record (short LeftToRight two) { positions = map joined (short LeftToRight two).positions })) ≡ (pos 6, pos 5) ∷ (pos 7, pos 16) ∷ []
  -- points 1 of glyph 2 and 0 of glyph 3
  pub by_anchors : offsets (attached 0x4000 (1 ∷ 0 ∷ []) two) ≡ none ∷ (negsuc 22, pos 3) ∷ []
  pub by_an_anchor_that_lacks : offsets (attached 0x4000 (2 ∷ 0 ∷ []) two) ≡ none ∷ (negsuc 29, negsuc 4) ∷ []
  pub where_it_stands : offsets (attached 0xC000 [] two) ≡ none ∷ none ∷ []
  pub where_it_stands_follows : chains_in (attached 0xC000 [] two) ≡ pos 0 ∷ negsuc 0 ∷ []
  pub by_control_points : chains_in (attached 0 (0 ∷ 0 ∷ []) two) ≡ pos 0 ∷ pos 0 ∷ []
  pub nothing_to_note : (attached 0 (0 ∷ 0 ∷ []) two).scratch_flags.0 ≡ 32
  pub bytes_lacking : chains_in (attached 0x8000 (10 ∷ 20 ∷ 3 ∷ []) two) ≡ pos 0 ∷ pos 0 ∷ []
  pub over_another : chains_in (attached 0x8000 coordinates (on 2 0 ∷ on 2 1 ∷ on 3 2 ∷ [])) ≡ pos 0 ∷ pos 0 ∷ negsuc 0 ∷ []
  -- glyph 3 leads to the action from the first state
  pub no_mark : chains_in (subtable_run (source 0x8000 (0 ∷ 0 ∷ 0 ∷ 0 ∷ 1 ∷ 2 ∷ 0 ∷ 0 ∷ 0 ∷ 0 ∷ 1 ∷ 2 ∷ []) marking coordinates)
      (short LeftToRight (on 3 0 ∷ on 3 1 ∷ []))) ≡ pos 0 ∷ pos 0 ∷ []
  -- at the end of the text nothing is attached
  pub at_the_end : chains_in (subtable_run (source 0x8000 (0 ∷ 0 ∷ 0 ∷ 0 ∷ 1 ∷ 0 ∷ 2 ∷ 0 ∷ 0 ∷ 0 ∷ 1 ∷ 2 ∷ []) marking coordinates)
      (short LeftToRight (on 2 0 ∷ []))) ≡ pos 0 ∷ []
  -- entry 2 marks the glyph that it attaches, and leads to the second state again
  pub marked_in_turn : chains_in (subtable_run (source 0x8000 states (0 ∷ 0 ∷ 0xFFFF ∷ 1 ∷ 0x8000 ∷ 0xFFFF ∷ 1 ∷ 0x8000 ∷ 0 ∷ []) coordinates)
      (short LeftToRight (on 2 0 ∷ on 3 1 ∷ on 3 2 ∷ []))) ≡ pos 0 ∷ negsuc 0 ∷ negsuc 0 ∷ []
  -- action 1 lacks bytes, and so its entry marks nothing; entry 3 has glyph 2 do action 0
  pub not_marked_in_turn : chains_in (subtable_run (source 0x8000 (0 ∷ 0 ∷ 0 ∷ 0 ∷ 1 ∷ 0 ∷ 0 ∷ 0 ∷ 0 ∷ 0 ∷ 3 ∷ 2 ∷ [])
      (0 ∷ 0 ∷ 0xFFFF ∷ 1 ∷ 0x8000 ∷ 0xFFFF ∷ 1 ∷ 0x8000 ∷ 3 ∷ 0 ∷ 0 ∷ 0 ∷ []) (10 ∷ 20 ∷ 3 ∷ []))
      (short LeftToRight (on 2 0 ∷ on 3 1 ∷ on 2 2 ∷ []))) ≡ pos 0 ∷ pos 0 ∷ negsuc 1 ∷ []
  -- the distance in the list that was reversed, as in HarfBuzz
  pub backward_line : chains_in (subtable_run (source 0x8000 states marking coordinates) (short RightToLeft (on 3 0 ∷ on 2 1 ∷ [])))
      ≡ negsuc 0 ∷ pos 0 ∷ []
  pub sized : offsets (subtable_run (record (source 0x8000 states marking coordinates) { scale = Some half_as_wide }) (short LeftToRight two))
      ≡ none ∷ (pos 3, pos 32) ∷ []
  pub off_everywhere : offsets (subtable_run (record (source 0x8000 states marking coordinates) { mask = 0 }) (short LeftToRight two))
      ≡ none ∷ (pos 7, pos 16) ∷ []
  pub chain_of_32767 : chain_to 32768 1 ≡ negsuc 32766
  pub past_16_bits : chain_to 32768 0 ≡ pos 0
  pub after_it : chain_to 1 3 ≡ pos 2

pub worked_stacking : WorkedStacking
unfolding acted acted_in_order stepped met_at marked class_for entry_for first_state popped_one as_short nearest if_short i16_of ◌+ʷ◌ ◌-ʷ◌ int_wrap
worked_stacking = record {
  popped = refl;
  unsafe = refl;
  safe = refl;
  safe_after_another = refl;
  nothing_pushed = refl;
  first_is_last = refl;
  no_last = refl;
  value_lacking = refl;
  off_for_one = refl;
  left_on_the_stack = refl;
  emptied = refl;
  backward_line = refl;
  processed_backward = refl;
  vertical = refl;
  other_line = refl;
  at_the_end = refl;
  at_the_end_after_the_last = refl;
  unsafe_before_the_end = refl;
  looked_at_again = refl;
  too_costly_to_look_again = refl;
  charged = refl;
  off_everywhere = refl;
  sized = refl;
}

pub worked_crossing : WorkedCrossing
unfolding acted acted_in_order stepped met_at marked class_for entry_for first_state popped_one as_short nearest if_short i16_of ◌+ʷ◌ ◌-ʷ◌ int_wrap
worked_crossing = record {
  raised = refl;
  noted = refl;
  not_along = refl;
  put_back = refl;
  put_back_follows_none = refl;
  follows_none = refl;
  nothing_to_note = refl;
  beside = refl;
  beside_put_back = refl;
  off_everywhere = refl;
}

pub worked_attaching : WorkedAttaching
unfolding acted acted_in_order stepped met_at marked class_for entry_for first_state popped_one as_short nearest if_short i16_of ◌+ʷ◌ ◌-ʷ◌ int_wrap
worked_attaching = record {
  by_coordinates = refl;
  follows = refl;
  as_a_mark = refl;
  noted = refl;
  wherever_it_was = refl;
  by_anchors = refl;
  by_an_anchor_that_lacks = refl;
  where_it_stands = refl;
  where_it_stands_follows = refl;
  by_control_points = refl;
  nothing_to_note = refl;
  bytes_lacking = refl;
  over_another = refl;
  no_mark = refl;
  at_the_end = refl;
  marked_in_turn = refl;
  not_marked_in_turn = refl;
  backward_line = refl;
  sized = refl;
  off_everywhere = refl;
  chain_of_32767 = refl;
  past_16_bits = refl;
  after_it = refl;
}
