-- Where a text may be cut, and which glyphs show which part of it, on lists that are worked out by hand.
use Rattle.std.specs.Prelude.{◌≡◌, true, false, List, [], ◌∷◌, map, refl}
use Rattle.shape_items.specs.Items.{Item}
use Rattle.shape_lines.specs.Worked.CanCut.{marked, in_clusters}
use Rattle.shape_users.specs.Lines.{lacks_break, cut_at}
use Rattle.shape_users.specs.Paragraph.{cluster_at, EndsIn, ShowsExactly, FirstToLast}

-- ---- cuts

-- of a cluster with two sets of flags the first glyph tells
abbrev pub flagged : List Item
flagged = marked 3 0 ∷ marked 5 1 ∷ marked 5 0 ∷ marked 7 2 ∷ marked 9 0 ∷ marked 9 1 ∷ []

pub record WorkedCuts : Type 0 where
  -- by UNSAFE_TO_BREAK (1) alone
  pub masks : map (λ mask. lacks_break (marked 0 mask)) (0 ∷ 1 ∷ 2 ∷ 3 ∷ 4 ∷ 7 ∷ 8 ∷ 9 ∷ [])
      ≡ true ∷ false ∷ true ∷ false ∷ true ∷ false ∷ true ∷ false ∷ []
  pub clusters : map (λ cluster. cut_at cluster flagged) (3 ∷ 5 ∷ 7 ∷ 9 ∷ []) ≡ true ∷ false ∷ true ∷ true ∷ []
  pub no_clusters : map (λ cluster. cut_at cluster flagged) (0 ∷ 2 ∷ 4 ∷ 10 ∷ []) ≡ false ∷ false ∷ false ∷ false ∷ []
  pub no_glyphs : cut_at 0 [] ≡ false

pub worked_cuts : WorkedCuts
worked_cuts = record { masks = refl; clusters = refl; no_clusters = refl; no_glyphs = refl }

-- ---- glyphs and text

abbrev pub rising : List Item
rising = in_clusters (0 ∷ 2 ∷ 2 ∷ 5 ∷ [])

abbrev pub falling : List Item
falling = in_clusters (5 ∷ 2 ∷ 2 ∷ 0 ∷ [])

pub record WorkedEnds : Type 0 where
  pub clusters : map (cluster_at falling) (0 ∷ 1 ∷ 2 ∷ 3 ∷ []) ≡ 5 ∷ 2 ∷ 2 ∷ 0 ∷ []
  pub with_the_text : EndsIn rising 7 7
  pub before_a_cluster : EndsIn rising 7 5
  pub of_no_glyphs : EndsIn [] 7 7
  pub inside_a_cluster : EndsIn rising 7 4 → ⊥
  pub past_the_text : EndsIn rising 7 8 → ⊥
  pub at_no_glyph : EndsIn [] 7 0 → ⊥

pub record WorkedTextOfGlyphs : Type 0 where
  pub two_glyphs : ShowsExactly rising 1 3 2 5
  pub one_of_two : ShowsExactly rising 1 2 2 5
  pub falling_glyphs : ShowsExactly falling 0 2 2 7
  pub all : ShowsExactly rising 0 4 0 7
  pub too_much_before : ShowsExactly rising 1 3 0 5 → ⊥
  pub too_much_after : ShowsExactly rising 1 3 2 7 → ⊥
  pub too_little_before : ShowsExactly rising 0 3 2 5 → ⊥
  pub too_little_after : ShowsExactly rising 1 4 2 5 → ⊥

pub record WorkedGlyphsOfText : Type 0 where
  pub two_glyphs : FirstToLast rising 2 5 4 1 3
  pub falling_glyphs : FirstToLast falling 2 6 4 0 3
  pub no_glyphs : FirstToLast rising 3 5 4 0 0
  -- so far as glyphs were looked at
  pub of_the_first_two : FirstToLast rising 2 5 2 1 2
  pub first_too_early : FirstToLast rising 2 5 4 0 3 → ⊥
  pub first_too_late : FirstToLast rising 2 5 4 2 3 → ⊥
  pub last_too_early : FirstToLast rising 2 5 4 1 2 → ⊥
  pub last_too_late : FirstToLast rising 2 5 4 1 4 → ⊥
  pub past_the_count : FirstToLast rising 7 9 2 3 3 → ⊥
  pub reversed : FirstToLast rising 7 9 4 2 1 → ⊥

pub record WorkedShown : Type 0 where
  pub ends : WorkedEnds
  pub text_of_glyphs : WorkedTextOfGlyphs
  pub glyphs_of_text : WorkedGlyphsOfText
