-- Lines at allowed places, on small cases whose answers are worked out by hand.
use Rattle.std.specs.Prelude.{ℕ, Bool, true, false, pos, List, [], ◌∷◌}
use Rattle.shape_common.specs.declared.text_types.Direction.TheVariants.{LeftToRight, RightToLeft}
use Rattle.shape_items.specs.Buffer.{Buffer}
use Rattle.shape_lines.specs.LinesAt.{AreLinesAt}
use Rattle.shape_lines.specs.Worked.Lines.{cell, laid, line}
use Rattle.shape_lines.specs.declared.allowed.LineAt.{LineAt}

abbrev pub at : ℕ → ℕ → ℕ → ℕ → Bool → LineAt
at glyph_start glyph_end text_start text_end safe = record { line = line glyph_start glyph_end text_start text_end; ends_safely = safe }

-- "ab cd e": letters of 10, spaces of 4; they end at 10, 20, 24, 34, 44, 48 and 58
abbrev pub words : Buffer
words = laid LeftToRight (cell 0 0 (pos 10) ∷ cell 1 0 (pos 10) ∷ cell 2 0 (pos 4) ∷ cell 3 0 (pos 10) ∷ cell 4 0 (pos 10) ∷ cell 5 0 (pos 4)
    ∷ cell 6 0 (pos 10) ∷ [])

-- the same as it runs to the left
abbrev pub words_back : Buffer
words_back = laid RightToLeft (cell 6 0 (pos 10) ∷ cell 5 0 (pos 4) ∷ cell 4 0 (pos 10) ∷ cell 3 0 (pos 10) ∷ cell 2 0 (pos 4) ∷ cell 1 0 (pos 10)
    ∷ cell 0 0 (pos 10) ∷ [])

-- the second cluster has two glyphs, and the third is unsafe to break before
abbrev pub joined : Buffer
joined = laid LeftToRight (cell 0 0 (pos 10) ∷ cell 1 0 (pos 10) ∷ cell 1 0 (pos 10) ∷ cell 2 1 (pos 10) ∷ [])

abbrev breaks : List ℕ
breaks = 3 ∷ 6 ∷ []

abbrev spaces : List ℕ
spaces = 2 ∷ 5 ∷ []

-- no other lines are right: `laws::lines_at_are_unique`
pub record WorkedLinesAt : Type 0 where
  pub no_glyphs : AreLinesAt (laid LeftToRight []) 0 [] [] [] false (pos 5) []
  pub between_words : AreLinesAt words 7 breaks [] [] false (pos 24) (at 0 3 0 3 true ∷ at 3 6 3 6 true ∷ at 6 7 6 7 true ∷ [])
  pub whole : AreLinesAt words 7 breaks [] [] false (pos 58) (at 0 7 0 7 true ∷ [])
  pub two_words : AreLinesAt words 7 breaks [] [] false (pos 57) (at 0 6 0 6 true ∷ at 6 7 6 7 true ∷ [])
  pub spaces_counted : AreLinesAt words 7 breaks [] [] false (pos 47) (at 0 3 0 3 true ∷ at 3 7 3 7 true ∷ [])
  pub spaces_left_out : AreLinesAt words 7 breaks [] spaces false (pos 44) (at 0 6 0 6 true ∷ at 6 7 6 7 true ∷ [])
  pub one_less : AreLinesAt words 7 breaks [] spaces false (pos 43) (at 0 3 0 3 true ∷ at 3 7 3 7 true ∷ [])
  pub shortest_as_none_fits : AreLinesAt words 7 breaks [] spaces false (pos 19) (at 0 3 0 3 true ∷ at 3 6 3 6 true ∷ at 6 7 6 7 true ∷ [])
  pub anywhere_as_none_fits : AreLinesAt words 7 breaks [] spaces true (pos 19)
      (at 0 1 0 1 true ∷ at 1 3 1 3 true ∷ at 3 4 3 4 true ∷ at 4 6 4 6 true ∷ at 6 7 6 7 true ∷ [])
  pub not_past_a_mandatory_place : AreLinesAt words 7 (6 ∷ []) (3 ∷ []) [] false (pos 58) (at 0 3 0 3 true ∷ at 3 7 3 7 true ∷ [])
  pub nor_anywhere : AreLinesAt words 7 [] (1 ∷ []) [] true (pos 58) (at 0 1 0 1 true ∷ at 1 7 1 7 true ∷ [])
  pub from_the_end_where_clusters_fall : AreLinesAt words_back 7 breaks [] spaces false (pos 44) (at 1 7 0 6 true ∷ at 0 1 6 7 true ∷ [])
  pub not_inside_a_cluster : AreLinesAt joined 3 (1 ∷ []) [] [] false (pos 20) (at 0 1 0 1 true ∷ at 1 4 1 3 true ∷ [])
  pub unsafe_is_reported : AreLinesAt joined 3 (2 ∷ []) [] [] false (pos 30) (at 0 3 0 2 false ∷ at 3 4 2 3 true ∷ [])
