-- The order of the text and the places of a cut, on small cases whose answers are worked out by hand.
use Rattle.std.specs.Prelude.{◌≡◌, ℕ, ℤ, pos, negsuc, true, false, Bool, List, [], ◌∷◌, map, refl}
use Rattle.shape_common.specs.Positions.{zero_position}
use Rattle.shape_common.specs.declared.positions.GlyphPosition.{GlyphPosition}
use Rattle.shape_common.specs.declared.text_types.Direction.{Direction}
use Rattle.shape_common.specs.declared.text_types.Direction.TheVariants.{LeftToRight, RightToLeft, TopToBottom, BottomToTop}
use Rattle.shape_lines.specs.Places.{IsPlaceOfCut}
use Rattle.shape_lines.specs.TextOrder.{Glyph, text_order}
use Rattle.shape_lines.specs.Worked.CanCut.{marked, in_clusters, of_items}

-- an advance of x to the right and of y upwards
abbrev advancing : ℤ → ℤ → GlyphPosition
advancing x y = record zero_position { x_advance = x; y_advance = y }

-- the widths of two glyphs, the first 600 by 7, the second 500 by -9, in this direction with these clusters
abbrev widths_in : Direction → ℕ → ℕ → List ℤ
widths_in direction first second = map (λ (glyph : Glyph). glyph.width) (text_order (record (of_items (in_clusters (first ∷ second ∷ []))) {
  positions = advancing (pos 600) (pos 7) ∷ advancing (pos 500) (negsuc 8) ∷ [];
  direction = direction;
}))

abbrev clusters_in_text : List ℕ → List ℕ
clusters_in_text clusters = map (λ (glyph : Glyph). glyph.cluster) (text_order (of_items (in_clusters clusters)))

-- whether glyphs with these masks lack UNSAFE_TO_BREAK, in clusters that fall
abbrev lack_break : ℕ → ℕ → List Bool
lack_break first second = map (λ (glyph : Glyph). glyph.lacks_break) (text_order (of_items (marked 2 first ∷ marked 0 second ∷ [])))

pub record WorkedTextOrder : Type 0 where
  pub none : clusters_in_text [] ≡ []
  pub rising : clusters_in_text (0 ∷ 0 ∷ 2 ∷ []) ≡ 0 ∷ 0 ∷ 2 ∷ []
  pub falling : clusters_in_text (2 ∷ 0 ∷ 0 ∷ []) ≡ 0 ∷ 0 ∷ 2 ∷ []
  pub falling_at_the_end : clusters_in_text (2 ∷ 2 ∷ 0 ∷ []) ≡ 0 ∷ 2 ∷ 2 ∷ []
  pub rightward : widths_in LeftToRight 0 2 ≡ pos 600 ∷ pos 500 ∷ []
  pub leftward : widths_in RightToLeft 2 0 ≡ pos 500 ∷ pos 600 ∷ []
  pub downward : widths_in TopToBottom 0 2 ≡ negsuc 6 ∷ pos 9 ∷ []
  pub upward : widths_in BottomToTop 2 0 ≡ pos 9 ∷ negsuc 6 ∷ []
  pub by_clusters_alone : widths_in RightToLeft 0 2 ≡ pos 600 ∷ pos 500 ∷ []
  pub equal_clusters : widths_in RightToLeft 4 4 ≡ pos 600 ∷ pos 500 ∷ []
  pub flags : lack_break 1 0 ≡ true ∷ false ∷ []
  pub other_flags : lack_break 6 9 ≡ false ∷ true ∷ []

pub worked_text_order : WorkedTextOrder
worked_text_order = record {
  none = refl;
  rising = refl;
  falling = refl;
  falling_at_the_end = refl;
  rightward = refl;
  leftward = refl;
  downward = refl;
  upward = refl;
  by_clusters_alone = refl;
  equal_clusters = refl;
  flags = refl;
  other_flags = refl;
}

-- a glyph of no width in a cluster
abbrev pub glyph_in : ℕ → Bool → Glyph
glyph_in cluster lacks = record { cluster = cluster; lacks_break = lacks; width = pos 0 }

pub record WorkedPlaces : Type 0 where
  pub before_a_safe_cluster : IsPlaceOfCut (glyph_in 0 false ∷ glyph_in 1 true ∷ []) 1
  pub falling : IsPlaceOfCut (glyph_in 1 true ∷ glyph_in 0 false ∷ []) 1
  pub before_the_text : IsPlaceOfCut (glyph_in 0 true ∷ glyph_in 1 true ∷ []) 0 → ⊥
  pub after_the_text : IsPlaceOfCut (glyph_in 0 true ∷ glyph_in 1 true ∷ []) 2 → ⊥
  pub inside_a_cluster : IsPlaceOfCut (glyph_in 1 true ∷ glyph_in 1 true ∷ []) 1 → ⊥
  pub before_an_unsafe_cluster : IsPlaceOfCut (glyph_in 0 true ∷ glyph_in 1 false ∷ []) 1 → ⊥
  pub after_an_unsafe_falling_cluster : IsPlaceOfCut (glyph_in 1 false ∷ glyph_in 0 true ∷ []) 1 → ⊥
  pub one_unsafe_glyph_further_on : IsPlaceOfCut (glyph_in 0 true ∷ glyph_in 1 true ∷ glyph_in 1 false ∷ []) 1 → ⊥
