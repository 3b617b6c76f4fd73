-- Right lines, on small cases whose answers are worked out by hand.
use Rattle.std.specs.Prelude.{ℕ, ℤ, pos, negsuc, neg_ℤ, ◌+ℤ◌, List, [], ◌∷◌}
use Rattle.shape_items.specs.Buffer.{Buffer}
use Rattle.shape_items.specs.Items.{Item}
use Rattle.shape_common.specs.Positions.{zero_position}
use Rattle.shape_common.specs.declared.positions.GlyphPosition.{GlyphPosition}
use Rattle.shape_common.specs.declared.text_types.Direction.{Direction}
use Rattle.shape_common.specs.declared.text_types.Direction.TheVariants.{LeftToRight, RightToLeft, TopToBottom}
use Rattle.shape_lines.specs.RightLines.{AreRightLines}
use Rattle.shape_lines.specs.Worked.CanCut.{marked, of_items}
use Rattle.shape_lines.specs.declared.cutting.Line.{Line}

-- a glyph: its cluster, its mask, and its advance to the right; downwards it is 1 more
pub record Cell : Type 0 where
  pub cluster : ℕ
  pub mask : ℕ
  pub advance : ℤ

abbrev pub cell : ℕ → ℕ → ℤ → Cell
cell cluster mask advance = record { cluster = cluster; mask = mask; advance = advance }

abbrev items_of : List Cell → List Item
items_of [] = []
items_of (c ∷ cells) = marked c.cluster c.mask ∷ items_of cells

abbrev positions_of : List Cell → List GlyphPosition
positions_of [] = []
positions_of (c ∷ cells) =
    record zero_position { x_advance = c.advance; y_advance = neg_ℤ (c.advance +ℤ pos 1) } ∷ positions_of cells

abbrev pub laid : Direction → List Cell → Buffer
laid direction cells = record (of_items (items_of cells)) { positions = positions_of cells; direction = direction }

abbrev pub line : ℕ → ℕ → ℕ → ℕ → Line
line glyph_start glyph_end text_start text_end = record {
  glyph_start = glyph_start;
  glyph_end = glyph_end;
  text_start = text_start;
  text_end = text_end;
}

-- two letters, a space and a letter: they end at 600, 1100, 1350 and 1650
abbrev pub text : Buffer
text = laid LeftToRight (cell 0 0 (pos 600) ∷ cell 1 0 (pos 500) ∷ cell 2 0 (pos 250) ∷ cell 3 0 (pos 300) ∷ [])

-- the same as it runs to the left
abbrev pub reversed : Buffer
reversed = laid RightToLeft (cell 3 0 (pos 300) ∷ cell 2 0 (pos 250) ∷ cell 1 0 (pos 500) ∷ cell 0 0 (pos 600) ∷ [])

abbrev pub downward : Buffer
downward = record text { direction = TopToBottom }

-- not to be broken before the second cluster; the third one has two glyphs
abbrev pub joined : Buffer
joined = laid LeftToRight (cell 0 0 (pos 10) ∷ cell 1 1 (pos 20) ∷ cell 4 0 (pos 40) ∷ cell 4 0 (pos 80) ∷ [])

-- running to the left, not to be broken before the last cluster of the text
abbrev pub joined_reversed : Buffer
joined_reversed = laid RightToLeft (cell 4 1 (pos 40) ∷ cell 1 0 (pos 20) ∷ cell 0 1 (pos 10) ∷ [])

-- they end at 600, 1100 and 400
abbrev pub wide_then_narrow : Buffer
wide_then_narrow = laid LeftToRight (cell 0 0 (pos 600) ∷ cell 1 0 (pos 500) ∷ cell 2 0 (negsuc 699) ∷ [])

abbrev pub one_cluster : Buffer
one_cluster = laid LeftToRight (cell 7 0 (pos 10) ∷ cell 7 0 (pos 20) ∷ [])

abbrev pub each_alone : List Line
each_alone = line 0 1 0 1 ∷ line 1 2 1 2 ∷ line 2 3 2 3 ∷ line 3 4 3 4 ∷ []

-- no other lines are right: `laws::right_lines_are_unique`
pub record WorkedLines : Type 0 where
  pub no_glyphs : AreRightLines (laid LeftToRight []) 0 (pos 5) []
  pub longest : AreRightLines text 4 (pos 1200) (line 0 2 0 2 ∷ line 2 4 2 4 ∷ [])
  pub exactly_as_wide : AreRightLines text 4 (pos 1100) (line 0 2 0 2 ∷ line 2 4 2 4 ∷ [])
  pub one_less : AreRightLines text 4 (pos 1099) (line 0 1 0 1 ∷ line 1 4 1 4 ∷ [])
  pub three_lines : AreRightLines text 4 (pos 749) (line 0 1 0 1 ∷ line 1 2 1 2 ∷ line 2 4 2 4 ∷ [])
  pub whole : AreRightLines text 9 (pos 1650) (line 0 4 0 9 ∷ [])
  pub one_less_than_whole : AreRightLines text 9 (pos 1649) (line 0 3 0 3 ∷ line 3 4 3 9 ∷ [])
  pub shortest_as_none_fits : AreRightLines text 4 (pos 100) each_alone
  pub from_the_end_where_clusters_fall : AreRightLines reversed 4 (pos 1200) (line 2 4 0 2 ∷ line 0 2 2 4 ∷ [])
  pub vertical : AreRightLines downward 4 (pos 1101) (line 0 1 0 1 ∷ line 1 4 1 4 ∷ [])
  pub not_before_an_unsafe_cluster : AreRightLines joined 5 (pos 10) (line 0 2 0 4 ∷ line 2 4 4 5 ∷ [])
  pub nor_where_clusters_fall : AreRightLines joined_reversed 5 (pos 30) (line 2 3 0 1 ∷ line 0 2 1 5 ∷ [])
  pub not_inside_a_cluster : AreRightLines joined 5 (pos 70) (line 0 2 0 4 ∷ line 2 4 4 5 ∷ [])
  pub nor_as_none_fits : AreRightLines one_cluster 8 (pos 0) (line 0 2 7 8 ∷ [])
  pub fits_again : AreRightLines wide_then_narrow 3 (pos 400) (line 0 3 0 3 ∷ [])
  pub fits_never : AreRightLines wide_then_narrow 3 (pos 399) (line 0 1 0 1 ∷ line 1 3 1 3 ∷ [])
