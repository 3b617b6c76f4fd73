-- Chains of attached glyphs and points of glyphs, on positions that were read by hand.
use Rattle.std.specs.Prelude.{◌≡◌, ℤ, pos, negsuc, List, [], ◌∷◌, map, true, false, refl}
use Rattle.std.specs.Int.{int_wrap}
use Rattle.shape_common.specs.Wrapping.{◌+ʷ◌, ◌-ʷ◌}
use Rattle.shape_common.specs.Positions.{zero_position}
use Rattle.shape_common.specs.declared.positions.GlyphPosition.{GlyphPosition}
use Rattle.shape_common.specs.declared.text_types.Direction.{Direction}
use Rattle.shape_common.specs.declared.text_types.Direction.TheVariants.{LeftToRight, RightToLeft, TopToBottom, BottomToTop}
use Rattle.shape_items.specs.Buffer.{Buffer, new_buffer}
use Rattle.shape_items.specs.Items.{new_item}
use Rattle.layout_positions.specs.Attachment.{offsets_finished}
use Rattle.layout_positions.specs.Forest.{ends_within, moved_with, pen_before, point_of, height_of}
use Rattle.layout_positions.specs.declared.anchors.Anchor.{Anchor}

abbrev placed : Direction → List GlyphPosition → Buffer
placed direction positions = record new_buffer { items = map (λ _. new_item 0 0) positions; positions = positions; direction = direction }

-- a glyph that follows the one so far from it, as a mark (1) or in a cursive line (2)
abbrev links : ℤ → GlyphPosition
links chain = record zero_position { attach_chain = chain; attach_type = 2 }

abbrev hangs : ℤ → GlyphPosition
hangs chain = record zero_position {
  x_offset = pos 290;
  y_offset = pos 480;
  x_advance = pos 20;
  y_advance = pos 7;
  attach_chain = chain;
  attach_type = 1;
}

-- 0 follows 1, and 1 follows 2
abbrev onwards : Buffer
onwards = placed LeftToRight (links (pos 1) ∷ links (pos 1) ∷ links (pos 0) ∷ [])

-- 2 follows 1, and 1 follows 0
abbrev back : Buffer
back = placed LeftToRight (links (pos 0) ∷ links (negsuc 0) ∷ links (negsuc 0) ∷ [])

-- 0 and 1 follow each other
abbrev round : Buffer
round = placed LeftToRight (links (pos 1) ∷ links (negsuc 0) ∷ [])

-- three glyphs with different advances and offsets; the last one hangs at the first one
abbrev three : Direction → Buffer
three direction = placed direction
    (record zero_position { x_advance = pos 600; y_advance = pos 5; x_offset = pos 3; y_offset = pos 4 }
    ∷ record zero_position { x_advance = pos 500; y_advance = pos 6 } ∷ hangs (negsuc 1) ∷ [])

abbrev spot_at : ℤ → ℤ → Anchor
spot_at x y = record { x = x; y = y; x_delta = pos 0; y_delta = pos 0 }

abbrev spot : Anchor
spot = spot_at (pos 10) (pos 20)

pub record WorkedForest : Type 0 where
  pub follows_none : ends_within onwards 0 0 2 ≡ true
  pub follows_one : ends_within onwards 0 0 1 ≡ false
  pub one_link : ends_within onwards 0 1 1 ≡ true
  pub with_links_left : ends_within onwards 0 1 2 ≡ true
  pub two_links_in_one : ends_within onwards 0 1 0 ≡ false
  pub two_links : ends_within onwards 0 2 0 ≡ true
  -- what stands before place `first` has come to rest
  pub earlier : ends_within back 2 0 1 ≡ true
  pub to_an_earlier_one : ends_within back 2 1 2 ≡ true
  pub itself : ends_within back 2 0 2 ≡ false
  pub round_and_round : ends_within round 0 64 0 ≡ false
  pub round_by_an_earlier_one : ends_within round 1 64 1 ≡ true
  -- left to right the pen has gone over what comes before, right to left over what comes after
  pub pen_forward : pen_before (three LeftToRight) 2 ≡ record { x = pos 1100; y = pos 11 }
  pub pen_at_first : pen_before (three LeftToRight) 0 ≡ record { x = pos 0; y = pos 0 }
  pub pen_backward : pen_before (three RightToLeft) 0 ≡ record { x = pos 520; y = pos 13 }
  pub pen_at_last : pen_before (three BottomToTop) 2 ≡ record { x = pos 0; y = pos 0 }
  pub point : point_of (three LeftToRight) 2 spot ≡ record { x = pos 1400; y = pos 511 }
  pub point_of_first : point_of (three RightToLeft) 0 spot ≡ record { x = pos 533; y = pos 37 }
  pub height : height_of (three RightToLeft) 0 spot ≡ pos 24
  pub height_down_a_line : height_of (three TopToBottom) 0 spot ≡ pos 13
  -- forward the way over the first two glyphs is taken off, backward that over the last two is added
  pub moved_forward : moved_with (three LeftToRight) 2 0 (record zero_position { x_offset = pos 3; y_offset = pos 4 })
      ≡ record (hangs (pos 0)) { x_offset = negsuc 806; y_offset = pos 473 }
  pub moved_backward : moved_with (three RightToLeft) 2 0 (record zero_position { x_offset = pos 3; y_offset = pos 4 })
      ≡ record (hangs (pos 0)) { x_offset = pos 813; y_offset = pos 497 }
  pub moved_in_line : moved_with onwards 0 1 (record zero_position { x_offset = pos 3; y_offset = pos 4 })
      ≡ record (links (pos 0)) { y_offset = pos 4 }
  -- the mark's anchor at 13, 24 from its origin stands where the first glyph's at 303, 504 does
  pub meets_forward : point_of (offsets_finished (three LeftToRight)) 2 (spot_at (pos 13) (pos 24))
      ≡ point_of (offsets_finished (three LeftToRight)) 0 (spot_at (pos 303) (pos 504))
  pub meets_backward : point_of (offsets_finished (three RightToLeft)) 2 (spot_at (pos 13) (pos 24))
      ≡ point_of (offsets_finished (three RightToLeft)) 0 (spot_at (pos 303) (pos 504))
  pub stands_forward : point_of (offsets_finished (three LeftToRight)) 2 (spot_at (pos 13) (pos 24))
      ≡ record { x = pos 306; y = pos 508 }

pub worked_forest : WorkedForest
unfolding ◌+ʷ◌ ◌-ʷ◌ int_wrap
worked_forest = record {
  follows_none = refl;
  follows_one = refl;
  one_link = refl;
  with_links_left = refl;
  two_links_in_one = refl;
  two_links = refl;
  earlier = refl;
  to_an_earlier_one = refl;
  itself = refl;
  round_and_round = refl;
  round_by_an_earlier_one = refl;
  pen_forward = refl;
  pen_at_first = refl;
  pen_backward = refl;
  pen_at_last = refl;
  point = refl;
  point_of_first = refl;
  height = refl;
  height_down_a_line = refl;
  moved_forward = refl;
  moved_backward = refl;
  moved_in_line = refl;
  meets_forward = refl;
  meets_backward = refl;
  stands_forward = refl;
}
