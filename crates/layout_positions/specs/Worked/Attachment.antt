-- Glyphs that follow others, on positions that were read by hand.
use Rattle.std.specs.Prelude.{◌≡◌, ℤ, pos, negsuc, List, [], ◌∷◌, map, Some, None, refl}
use Rattle.std.specs.Int.{int_wrap}
use Rattle.shape_common.specs.Wrapping.{◌+ʷ◌, ◌-ʷ◌, neg_w}
use Rattle.shape_common.specs.Positions.{zero_position}
use Rattle.shape_common.specs.declared.positions.GlyphPosition.{GlyphPosition}
use Rattle.shape_common.specs.declared.text_types.Direction.{Direction}
use Rattle.shape_common.specs.declared.text_types.Direction.TheVariants.{LeftToRight, RightToLeft, TopToBottom}
use Rattle.shape_items.specs.Buffer.{Buffer, new_buffer}
use Rattle.shape_items.specs.Items.{new_item}
use Rattle.layout_positions.specs.Attachment.{chain_to, place_at, offsets_finished}
use Rattle.layout_positions.specs.Turning.{attached, links_turned}
use Rattle.layout_positions.specs.Worked.Lines.{offsets, chains}

abbrev placed : Direction → List GlyphPosition → Buffer
placed direction positions = record new_buffer { items = map (λ _. new_item 0 0) positions; positions = positions; direction = direction }

-- a glyph that follows none, a mark and a glyph of a cursive line, so far from the one that it follows
abbrev at : ℤ → ℤ → ℤ → GlyphPosition
at x y wide = record zero_position { x_offset = x; y_offset = y; x_advance = wide }

abbrev hangs : ℤ → ℤ → ℤ → ℤ → GlyphPosition
hangs x y wide chain = record (at x y wide) { attach_chain = chain; attach_type = 1 }

abbrev joins : ℤ → ℤ → ℤ → GlyphPosition
joins x y chain = record (at x y (pos 600)) { attach_chain = chain; attach_type = 2 }

abbrev finished : Direction → List GlyphPosition → List (ℤ × ℤ)
finished direction positions = offsets (offsets_finished (placed direction positions))

pub record WorkedAttachment : Type 0 where
  pub backwards : chain_to 5 3 ≡ negsuc 1
  pub onwards : chain_to 3 5 ≡ pos 2
  pub farthest : chain_to 0 32767 ≡ pos 32767
  pub too_far : chain_to 0 32768 ≡ pos 0
  pub too_far_back : chain_to 32768 0 ≡ pos 0
  pub there : place_at 6 5 (negsuc 1) ≡ Some 3
  pub before_the_list : place_at 6 1 (negsuc 1) ≡ None
  pub after_the_list : place_at 6 4 (pos 2) ≡ None
  pub itself : place_at 6 4 (pos 0) ≡ None
  -- from the mark the pen goes back over the base, which is 600 wide
  pub mark_forward : finished LeftToRight (at (pos 5) (pos 0) (pos 600) ∷ hangs (pos 290) (pos 480) (pos 0) (negsuc 0) ∷ [])
      ≡ (pos 5, pos 0) ∷ (negsuc 304, pos 480) ∷ []
  -- in backward text it has passed the mark, which is 20 wide, and not yet the base
  pub mark_backward : finished RightToLeft (at (pos 5) (pos 0) (pos 600) ∷ hangs (pos 290) (pos 480) (pos 20) (negsuc 0) ∷ [])
      ≡ (pos 5, pos 0) ∷ (pos 315, pos 480) ∷ []
  pub over_a_mark_between :
      finished LeftToRight (at (pos 0) (pos 0) (pos 600) ∷ at (pos 0) (pos 0) (pos 30) ∷ hangs (pos 290) (pos 480) (pos 0) (negsuc 1) ∷ [])
      ≡ (pos 0, pos 0) ∷ (pos 0, pos 0) ∷ (negsuc 339, pos 480) ∷ []
  pub mark_on_a_mark : finished LeftToRight
      (at (pos 0) (pos 0) (pos 600) ∷ hangs (pos 290) (pos 480) (pos 0) (negsuc 0) ∷ hangs (pos 10) (pos 20) (pos 0) (negsuc 0) ∷ [])
      ≡ (pos 0, pos 0) ∷ (negsuc 309, pos 480) ∷ (negsuc 299, pos 500) ∷ []
  pub cursive_across : finished RightToLeft (joins (pos 1) (pos 7) (pos 1) ∷ at (pos 0) (pos 30) (pos 600) ∷ [])
      ≡ (pos 1, pos 37) ∷ (pos 0, pos 30) ∷ []
  pub cursive_across_a_vertical_line : finished TopToBottom (joins (pos 1) (pos 7) (pos 1) ∷ at (pos 5) (pos 30) (pos 600) ∷ [])
      ≡ (pos 6, pos 7) ∷ (pos 5, pos 30) ∷ []
  pub chain : finished RightToLeft (joins (pos 0) (pos 1) (pos 1) ∷ joins (pos 0) (pos 10) (pos 1) ∷ at (pos 0) (pos 100) (pos 600) ∷ [])
      ≡ (pos 0, pos 111) ∷ (pos 0, pos 110) ∷ (pos 0, pos 100) ∷ []
  pub mark_on_a_cursive_glyph : finished LeftToRight
      (at (pos 0) (pos 100) (pos 600) ∷ joins (pos 0) (pos 10) (negsuc 0) ∷ hangs (pos 290) (pos 5) (pos 0) (negsuc 0) ∷ [])
      ≡ (pos 0, pos 100) ∷ (pos 0, pos 110) ∷ (negsuc 309, pos 115) ∷ []
  pub round : finished RightToLeft (joins (pos 0) (pos 1) (pos 1) ∷ joins (pos 0) (pos 10) (negsuc 0) ∷ [])
      ≡ (pos 0, pos 12) ∷ (pos 0, pos 11) ∷ []
  pub out_of_the_list : finished RightToLeft (joins (pos 0) (pos 1) (pos 9) ∷ []) ≡ (pos 0, pos 1) ∷ []
  pub no_more_attached : chains (offsets_finished (placed RightToLeft (joins (pos 0) (pos 1) (pos 1) ∷ at (pos 0) (pos 30) (pos 600) ∷ [])))
      ≡ pos 0 ∷ pos 0 ∷ []
  pub once : offsets
      (offsets_finished (offsets_finished (placed RightToLeft (joins (pos 0) (pos 1) (pos 1) ∷ at (pos 0) (pos 30) (pos 600) ∷ []))))
      ≡ (pos 0, pos 31) ∷ (pos 0, pos 30) ∷ []

pub worked_attachment : WorkedAttachment
unfolding ◌+ʷ◌ ◌-ʷ◌ int_wrap
worked_attachment = record {
  backwards = refl;
  onwards = refl;
  farthest = refl;
  too_far = refl;
  too_far_back = refl;
  there = refl;
  before_the_list = refl;
  after_the_list = refl;
  itself = refl;
  mark_forward = refl;
  mark_backward = refl;
  over_a_mark_between = refl;
  mark_on_a_mark = refl;
  cursive_across = refl;
  cursive_across_a_vertical_line = refl;
  chain = refl;
  mark_on_a_cursive_glyph = refl;
  round = refl;
  out_of_the_list = refl;
  no_more_attached = refl;
  once = refl;
}

-- ---- a glyph gets another one to follow

-- 0 follows 1, and is to follow another one
abbrev first_follows : Buffer
first_follows = placed RightToLeft (joins (pos 0) (pos 7) (pos 1) ∷ at (pos 0) (pos 9) (pos 600) ∷ at (pos 0) (pos 0) (pos 600) ∷ [])

-- 1 follows 0
abbrev second_follows : Buffer
second_follows = placed RightToLeft (at (pos 0) (pos 9) (pos 600) ∷ joins (pos 0) (pos 7) (negsuc 0) ∷ [])

-- 0 follows 1, and 1 follows 2
abbrev two_follow : Buffer
two_follow = placed RightToLeft
    (joins (pos 0) (pos 7) (pos 1) ∷ joins (pos 0) (pos 8) (pos 1) ∷ at (pos 0) (pos 9) (pos 600) ∷ at (pos 0) (pos 0) (pos 600) ∷ [])

-- 0 stands on 1, as a mark
abbrev first_hangs : Buffer
first_hangs = placed RightToLeft (hangs (pos 0) (pos 7) (pos 0) (pos 1) ∷ at (pos 0) (pos 9) (pos 600) ∷ at (pos 0) (pos 0) (pos 600) ∷ [])

pub record WorkedTurning : Type 0 where
  -- the one that it followed follows it, on the other side
  pub turned_round : offsets (attached 0 2 (pos 5) first_follows) ≡ (pos 0, pos 5) ∷ (pos 0, negsuc 6) ∷ (pos 0, pos 0) ∷ []
  pub links : chains (attached 0 2 (pos 5) first_follows) ≡ pos 2 ∷ negsuc 0 ∷ pos 0 ∷ []
  pub not_past_the_new_one : offsets (attached 0 1 (pos 5) first_follows) ≡ (pos 0, pos 5) ∷ (pos 0, pos 9) ∷ (pos 0, pos 0) ∷ []
  -- two glyphs don't follow each other
  pub concat_marked : chains (attached 0 1 (pos 5) second_follows) ≡ pos 1 ∷ pos 0 ∷ []
  pub concat_marked_across : offsets (attached 0 1 (pos 5) second_follows) ≡ (pos 0, pos 5) ∷ (pos 0, pos 0) ∷ []
  pub one_link : links_turned 0 2 first_follows ≡ 1
  pub two_links : links_turned 0 3 two_follow ≡ 2
  pub from_within : links_turned 1 3 two_follow ≡ 1
  pub up_to_the_new_one : links_turned 0 2 two_follow ≡ 1
  pub no_link_to_the_new_one : links_turned 0 1 first_follows ≡ 0
  pub none_followed : links_turned 0 1 second_follows ≡ 0
  pub no_mark : links_turned 0 2 first_hangs ≡ 0

pub worked_turning : WorkedTurning
unfolding ◌+ʷ◌ ◌-ʷ◌ neg_w int_wrap
worked_turning = record {
  turned_round = refl;
  links = refl;
  not_past_the_new_one = refl;
  concat_marked = refl;
  concat_marked_across = refl;
  one_link = refl;
  two_links = refl;
  from_within = refl;
  up_to_the_new_one = refl;
  no_link_to_the_new_one = refl;
  none_followed = refl;
  no_mark = refl;
}
