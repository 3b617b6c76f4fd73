-- Cursive attachment, on a subtable that was read by hand.
use Rattle.std.specs.Prelude.{◌≡◌, ℕ, pos, negsuc, List, [], ◌∷◌, Some, None, refl}
use Rattle.std.specs.Int.{int_wrap}
use Rattle.shape_common.specs.Positions.{zero_position}
use Rattle.shape_common.specs.Wrapping.{◌+ʷ◌, ◌-ʷ◌, neg_w}
use Rattle.shape_common.specs.declared.positions.GlyphPosition.{GlyphPosition}
use Rattle.shape_common.specs.declared.text_types.Direction.{Direction}
use Rattle.shape_common.specs.declared.text_types.Direction.TheVariants.{LeftToRight, RightToLeft, TopToBottom, BottomToTop}
use Rattle.shape_font.specs.Bytes.{i16_of}
use Rattle.shape_items.specs.Buffer.{Buffer}
use Rattle.shape_items.specs.Items.{Item}
use Rattle.layout_matching.specs.declared.lookup.Lookup.{Lookup}
use Rattle.layout_positions.specs.Cursive.{cursive_applied, cursive_links}
use Rattle.layout_positions.specs.Lookups.{Applied}
use Rattle.layout_positions.specs.Worked.Lines.{base, line, advances, offsets, chains, masks}
use Rattle.layout_positions.specs.Worked.Pairs.{IsLookup}

-- glyph 2 is left at 500, 50, and glyph 3 entered at 20, 80; the format is 1, and there is no other
abbrev pub joins_by : ℕ → List ℕ
joins_by format = 0 ∷ format ∷ 0 ∷ 14 ∷ 0 ∷ 2 ∷ 0 ∷ 0 ∷ 0 ∷ 22 ∷ 0 ∷ 28 ∷ 0 ∷ 0 ∷ 0 ∷ 1 ∷ 0 ∷ 2 ∷ 0 ∷ 2 ∷ 0 ∷ 3
    ∷ 0 ∷ 1 ∷ 1 ∷ 244 ∷ 0 ∷ 50 ∷ 0 ∷ 1 ∷ 0 ∷ 20 ∷ 0 ∷ 80 ∷ []

abbrev pub joins : List ℕ
joins = joins_by 1

abbrev joined : Lookup → Direction → Applied
joined l direction = cursive_applied l 0 1 (line direction (base 2 0 ∷ base 3 1 ∷ []))

-- the same for glyphs that were moved by 7 and 9 before
abbrev moved : GlyphPosition
moved = record zero_position { x_advance = pos 600; x_offset = pos 7; y_offset = pos 9 }

abbrev joined_moved : Lookup → Direction → Buffer
joined_moved l direction =
    (cursive_applied l 0 1 (record (line direction (base 2 0 ∷ base 3 1 ∷ [])) { positions = moved ∷ moved ∷ [] })).buffer

-- glyph 3 follows the glyph after it already
abbrev pub followed : Direction → Buffer
followed direction = record (line direction (base 2 0 ∷ base 3 1 ∷ base 7 2 ∷ [])) {
  positions = zero_position ∷ record zero_position { attach_chain = pos 1; attach_type = 2 } ∷ zero_position ∷ [];
}

-- the masks of a line in which what is unsafe to concat is asked for
abbrev masks_asked : Lookup → ℕ → List Item → List ℕ
masks_asked l j items = masks (cursive_applied l 0 j (record (line LeftToRight items) { flags = record { 0 = 64 } })).buffer

pub record WorkedCursive : Type 0 where
  -- the advance of the first glyph reaches to its exit, and the second one begins at its entry
  pub to_the_right : (l : Lookup) → IsLookup l joins 0 → advances (joined l LeftToRight).buffer ≡ (pos 500, pos 0) ∷ (pos 580, pos 0) ∷ []
  -- and follows the first one, 30 below it
  pub second_follows : (l : Lookup) → IsLookup l joins 0
      → offsets (joined l LeftToRight).buffer ≡ (pos 0, pos 0) ∷ (negsuc 19, negsuc 29) ∷ []
  pub linked_back : (l : Lookup) → IsLookup l joins 0 → chains (joined l LeftToRight).buffer ≡ pos 0 ∷ negsuc 0 ∷ []
  pub goes_on : (l : Lookup) → IsLookup l joins 0 → (joined l LeftToRight).next ≡ Some 2
  pub unsafe_between : (l : Lookup) → IsLookup l joins 0 → masks (joined l LeftToRight).buffer ≡ 16 ∷ 19 ∷ []
  pub to_the_left : (l : Lookup) → IsLookup l joins 1 → advances (joined l RightToLeft).buffer ≡ (pos 100, pos 0) ∷ (pos 20, pos 0) ∷ []
  -- by the flag RIGHT_TO_LEFT the first one follows, 30 above
  pub first_follows : (l : Lookup) → IsLookup l joins 1 → offsets (joined l RightToLeft).buffer ≡ (negsuc 499, pos 30) ∷ (pos 0, pos 0) ∷ []
  pub linked_on : (l : Lookup) → IsLookup l joins 1 → chains (joined l RightToLeft).buffer ≡ pos 1 ∷ pos 0 ∷ []
  -- the flag alone decides that, not the direction
  pub by_the_flag : (l : Lookup) → IsLookup l joins 1 → chains (joined l LeftToRight).buffer ≡ pos 1 ∷ pos 0 ∷ []
  pub downwards : (l : Lookup) → IsLookup l joins 0 → advances (joined l TopToBottom).buffer ≡ (pos 600, pos 50) ∷ (pos 600, negsuc 79) ∷ []
  pub downwards_across : (l : Lookup) → IsLookup l joins 0
      → offsets (joined l TopToBottom).buffer ≡ (pos 0, pos 0) ∷ (pos 480, negsuc 79) ∷ []
  pub upwards : (l : Lookup) → IsLookup l joins 0 → advances (joined l BottomToTop).buffer ≡ (pos 600, negsuc 49) ∷ (pos 600, pos 80) ∷ []
  pub no_exit : (l : Lookup) → IsLookup l joins 0 → (cursive_applied l 0 1 (line LeftToRight (base 3 0 ∷ base 3 1 ∷ []))).next ≡ None
  pub no_entry : (l : Lookup) → IsLookup l joins 0 → (cursive_applied l 0 1 (line LeftToRight (base 2 0 ∷ base 2 1 ∷ []))).next ≡ None
  pub moved_to_the_right : (l : Lookup) → IsLookup l joins 0
      → advances (joined_moved l LeftToRight) ≡ (pos 507, pos 0) ∷ (pos 573, pos 0) ∷ []
  pub moved_to_the_right_on : (l : Lookup) → IsLookup l joins 0
      → offsets (joined_moved l LeftToRight) ≡ (pos 7, pos 9) ∷ (negsuc 19, negsuc 29) ∷ []
  pub moved_to_the_left : (l : Lookup) → IsLookup l joins 1 → advances (joined_moved l RightToLeft) ≡ (pos 93, pos 0) ∷ (pos 27, pos 0) ∷ []
  pub moved_to_the_left_on : (l : Lookup) → IsLookup l joins 1
      → offsets (joined_moved l RightToLeft) ≡ (negsuc 499, pos 30) ∷ (pos 7, pos 9) ∷ []
  pub moved_downwards : (l : Lookup) → IsLookup l joins 0
      → advances (joined_moved l TopToBottom) ≡ (pos 600, pos 59) ∷ (pos 600, negsuc 88) ∷ []
  pub moved_downwards_on : (l : Lookup) → IsLookup l joins 0
      → offsets (joined_moved l TopToBottom) ≡ (pos 7, pos 9) ∷ (pos 480, negsuc 79) ∷ []
  pub moved_upwards : (l : Lookup) → IsLookup l joins 0
      → advances (joined_moved l BottomToTop) ≡ (pos 600, negsuc 58) ∷ (pos 600, pos 80) ∷ []
  pub moved_upwards_on : (l : Lookup) → IsLookup l joins 0
      → offsets (joined_moved l BottomToTop) ≡ (pos 7, negsuc 49) ∷ (pos 480, pos 9) ∷ []
  -- 2 is UNSAFE_TO_CONCAT
  pub no_exit_in_vain : (l : Lookup) → IsLookup l joins 0 → masks_asked l 1 (base 3 0 ∷ base 3 1 ∷ []) ≡ 18 ∷ 18 ∷ []
  -- the link of the second one is turned round if it is to follow the first one
  pub one_link_turned : (l : Lookup) → IsLookup l joins 0 → cursive_links l 0 1 (followed LeftToRight) ≡ 1
  pub now_followed : (l : Lookup) → IsLookup l joins 0
      → chains (cursive_applied l 0 1 (followed LeftToRight)).buffer ≡ pos 0 ∷ negsuc 0 ∷ negsuc 0 ∷ []
  pub no_link_turned : (l : Lookup) → IsLookup l joins 1 → cursive_links l 0 1 (followed LeftToRight) ≡ 0
  pub still_followed : (l : Lookup) → IsLookup l joins 1
      → chains (cursive_applied l 0 1 (followed LeftToRight)).buffer ≡ pos 1 ∷ pos 1 ∷ pos 0 ∷ []
  pub no_exit_no_link : (l : Lookup) → IsLookup l joins 0 → cursive_links l 0 1 (line LeftToRight (base 3 0 ∷ base 3 1 ∷ [])) ≡ 0
  pub no_glyph_before : (l : Lookup) → IsLookup l joins 0 → masks_asked l 0 (base 3 0 ∷ base 7 1 ∷ []) ≡ 18 ∷ 16 ∷ []

pub worked_cursive : WorkedCursive
unfolding i16_of ◌+ʷ◌ ◌-ʷ◌ neg_w int_wrap
worked_cursive = record {
  to_the_right = λ l is. rw (is.scale, is.table, is.flags, is.mask) refl;
  second_follows = λ l is. rw (is.scale, is.table, is.flags, is.mask) refl;
  linked_back = λ l is. rw (is.table, is.flags, is.mask) refl;
  goes_on = λ l is. rw (is.table, is.flags, is.mask) refl;
  unsafe_between = λ l is. rw (is.table, is.flags, is.mask) refl;
  to_the_left = λ l is. rw (is.scale, is.table, is.flags, is.mask) refl;
  first_follows = λ l is. rw (is.scale, is.table, is.flags, is.mask) refl;
  linked_on = λ l is. rw (is.table, is.flags, is.mask) refl;
  by_the_flag = λ l is. rw (is.table, is.flags, is.mask) refl;
  downwards = λ l is. rw (is.scale, is.table, is.flags, is.mask) refl;
  downwards_across = λ l is. rw (is.scale, is.table, is.flags, is.mask) refl;
  upwards = λ l is. rw (is.scale, is.table, is.flags, is.mask) refl;
  no_exit = λ l is. rw (is.table, is.flags, is.mask) refl;
  no_entry = λ l is. rw is.table refl;
  moved_to_the_right = λ l is. rw (is.scale, is.table, is.flags, is.mask) refl;
  moved_to_the_right_on = λ l is. rw (is.scale, is.table, is.flags, is.mask) refl;
  moved_to_the_left = λ l is. rw (is.scale, is.table, is.flags, is.mask) refl;
  moved_to_the_left_on = λ l is. rw (is.scale, is.table, is.flags, is.mask) refl;
  moved_downwards = λ l is. rw (is.scale, is.table, is.flags, is.mask) refl;
  moved_downwards_on = λ l is. rw (is.scale, is.table, is.flags, is.mask) refl;
  moved_upwards = λ l is. rw (is.scale, is.table, is.flags, is.mask) refl;
  moved_upwards_on = λ l is. rw (is.scale, is.table, is.flags, is.mask) refl;
  no_exit_in_vain = λ l is. rw (is.table, is.flags, is.mask) refl;
  one_link_turned = λ l is. rw (is.table, is.flags, is.mask) refl;
  now_followed = λ l is. rw (is.table, is.flags, is.mask) refl;
  no_link_turned = λ l is. rw (is.table, is.flags, is.mask) refl;
  still_followed = λ l is. rw (is.table, is.flags, is.mask) refl;
  no_exit_no_link = λ l is. rw (is.table, is.flags, is.mask) refl;
  no_glyph_before = λ l is. rw is.table refl;
}
