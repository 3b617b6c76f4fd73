-- Anchor points, on tables of 16-bit words that were read by hand.
use Rattle.std.specs.Prelude.{◌≡◌, ℕ, ℤ, pos, negsuc, List, [], ◌∷◌, Some, None, refl}
use Rattle.shape_font.specs.Bytes.{i16_of}
use Rattle.shape_font.specs.Worked.Glyphs.{words}
use Rattle.apple_positioning.specs.Anchors.{anchor_of, point_of, points_of}
use Rattle.apple_positioning.specs.declared.anchors.Anchor.{Anchor}

-- a lookup table at 12, by which glyph 5 has its points with the data, which begin at 22, and glyph 6 has those 12 bytes later: two
-- points of glyph 5, and one of glyph 6, of three that are stated
abbrev pub table_of : ℕ → ℕ → List ℕ
table_of version lookup = words (version ∷ 0 ∷ 0 ∷ lookup ∷ 0 ∷ 22 ∷ 8 ∷ 5 ∷ 2 ∷ 0 ∷ 12 ∷
    0 ∷ 2 ∷ 100 ∷ 0xFFFE ∷ 0xFFFF ∷ 300 ∷
    0 ∷ 3 ∷ 7 ∷ 8 ∷ [])

abbrev pub table : List ℕ
table = table_of 0 12

abbrev pub anchor : ℤ → ℤ → Anchor
anchor x y = record { x = x; y = y }

pub record WorkedAnchors : Type 0 where
  pub first : anchor_of table 9 5 0 ≡ anchor (pos 100) (negsuc 1)
  pub second : anchor_of table 9 5 1 ≡ anchor (negsuc 0) (pos 300)
  pub past_the_count : anchor_of table 9 5 2 ≡ anchor (pos 0) (pos 0)
  pub of_another_glyph : anchor_of table 9 6 0 ≡ anchor (pos 7) (pos 8)
  pub past_the_end : anchor_of table 9 6 1 ≡ anchor (pos 0) (pos 0)
  pub no_points : anchor_of table 9 7 0 ≡ anchor (pos 0) (pos 0)
  pub other_version : anchor_of (table_of 1 12) 9 5 0 ≡ anchor (pos 0) (pos 0)
  pub no_table : anchor_of [] 9 5 0 ≡ anchor (pos 0) (pos 0)
  -- at 0 there would be a lookup table of format 0: it has 0 for glyph 0, whose points would be the first ones
  pub no_lookup : anchor_of (table_of 0 0) 9 0 0 ≡ anchor (pos 0) (pos 0)
  pub points : points_of table 9 6 ≡ Some 34
  pub without_points : points_of table 9 4 ≡ None
  pub point : point_of table 1 22 ≡ Some 30
  pub without_a_point : point_of table 1 34 ≡ None

pub worked_anchors : WorkedAnchors
unfolding i16_of
worked_anchors = record {
  first = refl;
  second = refl;
  past_the_count = refl;
  of_another_glyph = refl;
  past_the_end = refl;
  no_points = refl;
  other_version = refl;
  no_table = refl;
  no_lookup = refl;
  points = refl;
  without_points = refl;
  point = refl;
  without_a_point = refl;
}
