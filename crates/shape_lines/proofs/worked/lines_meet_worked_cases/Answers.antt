use Rattle.std.proofs.Common.{pos, [], ◌∷◌, refl}
use Rattle.shape_common.specs.declared.text_types.Direction.TheVariants.{LeftToRight}
use Rattle.shape_lines.specs.Worked.Lines.{laid, text, reversed, downward, joined, joined_reversed, wide_then_narrow, one_cluster}
use Rattle.shape_lines.proofs.DecideLemmas.{right_rising, right_falling}
use Rattle.shape_lines.proofs.worked.lines_meet_worked_cases.Goals as goal

pub returns : goal.returns
returns c = record {
  no_glyphs = right_rising (laid LeftToRight []) 0 (pos 5) [] refl refl refl refl;
  longest = right_rising text 4 (pos 1200) (2 ∷ 4 ∷ []) refl refl refl refl;
  exactly_as_wide = right_rising text 4 (pos 1100) (2 ∷ 4 ∷ []) refl refl refl refl;
  one_less = right_rising text 4 (pos 1099) (1 ∷ 4 ∷ []) refl refl refl refl;
  three_lines = right_rising text 4 (pos 749) (1 ∷ 2 ∷ 4 ∷ []) refl refl refl refl;
  whole = right_rising text 9 (pos 1650) (4 ∷ []) refl refl refl refl;
  one_less_than_whole = right_rising text 9 (pos 1649) (3 ∷ 4 ∷ []) refl refl refl refl;
  shortest_as_none_fits = right_rising text 4 (pos 100) (1 ∷ 2 ∷ 3 ∷ 4 ∷ []) refl refl refl refl;
  from_the_end_where_clusters_fall = right_falling reversed 4 (pos 1200) (2 ∷ 4 ∷ []) refl refl refl refl;
  vertical = right_rising downward 4 (pos 1101) (1 ∷ 4 ∷ []) refl refl refl refl;
  not_before_an_unsafe_cluster = right_rising joined 5 (pos 10) (2 ∷ 4 ∷ []) refl refl refl refl;
  nor_where_clusters_fall = right_falling joined_reversed 5 (pos 30) (1 ∷ 3 ∷ []) refl refl refl refl;
  not_inside_a_cluster = right_rising joined 5 (pos 70) (2 ∷ 4 ∷ []) refl refl refl refl;
  nor_as_none_fits = right_rising one_cluster 8 (pos 0) (2 ∷ []) refl refl refl refl;
  fits_again = right_rising wide_then_narrow 3 (pos 400) (3 ∷ []) refl refl refl refl;
  fits_never = right_rising wide_then_narrow 3 (pos 399) (1 ∷ 3 ∷ []) refl refl refl refl;
}
