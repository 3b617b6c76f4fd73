use Rattle.std.proofs.Common.{ℕ, List, [], ◌∷◌, Bool, true, false, pos, refl}
use Rattle.shape_items.specs.Buffer.{Buffer}
use Rattle.shape_lines.specs.Spots.{spots_of}
use Rattle.shape_lines.specs.Worked.Lines.{laid}
use Rattle.shape_lines.specs.Worked.LinesAt.{words, words_back, joined}
use Rattle.shape_common.specs.declared.text_types.Direction.TheVariants.{LeftToRight}
use Rattle.shape_lines.proofs.AtDecideLemmas.{lines_at_from}
use Rattle.shape_lines.proofs.worked.lines_at_meet_worked_cases.Goals as goal

abbrev breaks : List ℕ
breaks = 3 ∷ 6 ∷ []

abbrev spaces : List ℕ
spaces = 2 ∷ 5 ∷ []

pub returns : goal.returns
returns c = record {
  no_glyphs = refl;
  between_words = lines_at_from words 7 false (spots_of words breaks [] []) (pos 24) 0 (3 ∷ 6 ∷ 7 ∷ []) refl;
  whole = lines_at_from words 7 false (spots_of words breaks [] []) (pos 58) 0 (7 ∷ []) refl;
  two_words = lines_at_from words 7 false (spots_of words breaks [] []) (pos 57) 0 (6 ∷ 7 ∷ []) refl;
  spaces_counted = lines_at_from words 7 false (spots_of words breaks [] []) (pos 47) 0 (3 ∷ 7 ∷ []) refl;
  spaces_left_out = lines_at_from words 7 false (spots_of words breaks [] spaces) (pos 44) 0 (6 ∷ 7 ∷ []) refl;
  one_less = lines_at_from words 7 false (spots_of words breaks [] spaces) (pos 43) 0 (3 ∷ 7 ∷ []) refl;
  shortest_as_none_fits = lines_at_from words 7 false (spots_of words breaks [] spaces) (pos 19) 0 (3 ∷ 6 ∷ 7 ∷ []) refl;
  anywhere_as_none_fits = lines_at_from words 7 true (spots_of words breaks [] spaces) (pos 19) 0 (1 ∷ 3 ∷ 4 ∷ 6 ∷ 7 ∷ []) refl;
  not_past_a_mandatory_place = lines_at_from words 7 false (spots_of words (6 ∷ []) (3 ∷ []) []) (pos 58) 0 (3 ∷ 7 ∷ []) refl;
  nor_anywhere = lines_at_from words 7 true (spots_of words [] (1 ∷ []) []) (pos 58) 0 (1 ∷ 7 ∷ []) refl;
  from_the_end_where_clusters_fall = lines_at_from words_back 7 false (spots_of words_back breaks [] spaces) (pos 44) 0 (6 ∷ 7 ∷ []) refl;
  not_inside_a_cluster = lines_at_from joined 3 false (spots_of joined (1 ∷ []) [] []) (pos 20) 0 (1 ∷ 4 ∷ []) refl;
  unsafe_is_reported = lines_at_from joined 3 false (spots_of joined (2 ∷ []) [] []) (pos 30) 0 (3 ∷ 4 ∷ []) refl;
}
