-- What lists of places say of glyphs, where the pen stands and how far it reaches, worked out by hand.
use Rattle.std.specs.Prelude.{◌≡◌, ℕ, Bool, true, false, ℤ, pos, List, [], ◌∷◌, map, refl}
use Rattle.shape_lines.specs.LinesAt.{ends_before, line_at}
use Rattle.shape_lines.specs.Spots.{has, pen, reach, spot_at, spots_of, the_end}
use Rattle.shape_lines.specs.Worked.LinesAt.{at, joined, words, words_back}
use Rattle.shape_lines.specs.declared.spots.Spot.{Spot}

-- a place before a glyph of this width: whether a line may end there, must, may safely, and whether the glyph is a space's
abbrev pub spot : ℤ → Bool → Bool → Bool → Bool → Spot
spot width allowed mandatory safe space = record { width = width; allowed = allowed; mandatory = mandatory; safe = safe; space = space }

abbrev ends : Bool → Bool → Bool → Bool → Bool
ends anywhere allowed mandatory safe = ends_before anywhere (spot (pos 0) allowed mandatory safe false)

-- its first glyph stands at the start of the text, its third one inside a cluster, and its last one is unsafe to break before
pub record WorkedSpots : Type 0 where
  pub listed : map (has (2 ∷ 5 ∷ [])) (2 ∷ 3 ∷ 5 ∷ []) ≡ true ∷ false ∷ true ∷ []
  pub allowed : spots_of joined (0 ∷ 1 ∷ []) [] [] ≡ spot (pos 10) false false false false ∷ spot (pos 10) true false true false
      ∷ spot (pos 10) false false false false ∷ spot (pos 10) false false false false ∷ []
  pub mandatory : spots_of joined [] (1 ∷ 2 ∷ []) [] ≡ spot (pos 10) false false false false ∷ spot (pos 10) false true true false
      ∷ spot (pos 10) false false false false ∷ spot (pos 10) false true false false ∷ []
  -- each glyph of a space's cluster
  pub spaces : spots_of joined [] [] (1 ∷ []) ≡ spot (pos 10) false false false false ∷ spot (pos 10) false false true true
      ∷ spot (pos 10) false false false true ∷ spot (pos 10) false false false false ∷ []
  pub past_the_last : spot_at (spots_of joined [] [] []) 4 ≡ the_end
  pub end : the_end ≡ spot (pos 0) true true true false
  pub pens : map (pen (spots_of words [] [] (2 ∷ 5 ∷ []))) (0 ∷ 1 ∷ 2 ∷ 3 ∷ 6 ∷ 7 ∷ []) ≡ pos 0 ∷ pos 10 ∷ pos 20 ∷ pos 24 ∷ pos 48 ∷ pos 58 ∷ []
  pub reaches : map (reach (spots_of words [] [] (2 ∷ 5 ∷ []))) (0 ∷ 1 ∷ 2 ∷ 3 ∷ 6 ∷ 7 ∷ []) ≡ pos 0 ∷ pos 10 ∷ pos 20 ∷ pos 20 ∷ pos 44 ∷ pos 58 ∷ []
  -- two spaces that stand last
  pub reaches_past_both : reach (spots_of words [] [] (1 ∷ 2 ∷ [])) 3 ≡ pos 10
  pub at_allowed_ones : ends false true false false ≡ true
  pub at_mandatory_ones : ends false false true false ≡ true
  pub not_at_safe_ones : ends false false false true ≡ false
  pub anywhere_at_safe_ones : ends true false false true ≡ true
  pub anywhere_at_no_other : ends true false false false ≡ false
  pub line_of_a_word : line_at words 7 (spots_of words [] [] []) 3 5 ≡ at 3 5 3 5 true
  pub line_where_clusters_fall : line_at words_back 7 (spots_of words_back [] [] []) 0 2 ≡ at 5 7 0 2 true
  pub line_that_ends_unsafely : line_at joined 3 (spots_of joined [] [] []) 0 3 ≡ at 0 3 0 2 false
  pub last_line : line_at joined 3 (spots_of joined [] [] []) 3 4 ≡ at 3 4 2 3 true

pub worked_spots : WorkedSpots
worked_spots = record {
  listed = refl;
  allowed = refl;
  mandatory = refl;
  spaces = refl;
  past_the_last = refl;
  end = refl;
  pens = refl;
  reaches = refl;
  reaches_past_both = refl;
  at_allowed_ones = refl;
  at_mandatory_ones = refl;
  not_at_safe_ones = refl;
  anywhere_at_safe_ones = refl;
  anywhere_at_no_other = refl;
  line_of_a_word = refl;
  line_where_clusters_fall = refl;
  line_that_ends_unsafely = refl;
  last_line = refl;
}
