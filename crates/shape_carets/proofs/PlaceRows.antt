-- The rows of places.
use Rattle.std.proofs.Common.{◌<◌, ◌≤◌, pos, negsuc, [], ◌∷◌, refl, arith, inl, inr}
use Rattle.shape_carets.specs.Carets.{caret}
use Rattle.shape_carets.specs.Worked.Places.{with_mark, WorkedPlaces, WorkedNearest}
use Rattle.shape_carets.specs.Worked.Selections.{right, left}
use Rattle.shape_carets.proofs.RowLemmas.{nearest-row, place-row}

pub worked_places : WorkedPlaces
worked_places = record {
  first = place-row right 0 0 refl;
  second = place-row right 1 1 refl;
  inside_a_piece = place-row right 2 1 refl;
  end = place-row right 4 3 refl;
  after_the_end = place-row right 9 3 refl;
  before_the_first = place-row (caret 3 (pos 0) ∷ caret 5 (pos 10) ∷ []) 1 0 refl;
  not_an_earlier = λ is. let lt : 3 < 3 = is.next_past (omega arith) in absurd (omega arith);
  not_a_later = λ is. let le : 3 ≤ 2 = is.none_past 2 (omega arith) (omega arith) in absurd (omega arith);
  stands = inr (1, place-row left 1 1 refl, refl);
  none_stands = inl (refl, refl);
}

pub worked_nearest : WorkedNearest
worked_nearest = record {
  on_it = nearest-row right (pos 600) 1 refl;
  nearer_to_the_left = nearest-row right (pos 299) 0 refl;
  as_near_to_both = nearest-row right (pos 300) 1 refl;
  before_the_text = nearest-row right (negsuc 49) 0 refl;
  after_the_text = nearest-row right (pos 9999) 3 refl;
  running_to_the_left = nearest-row left (pos 900) 1 refl;
  as_near_there = nearest-row left (pos 125) 3 refl;
  past_no_width = nearest-row with_mark (pos 600) 2 refl;
  not_the_earlier = λ is. let lt : 0 < 0 = is.last 2 (omega arith) (omega arith) in absurd (omega arith);
  not_the_farther = λ is. let le : 301 ≤ 299 = is.none_nearer 0 (omega arith) in absurd (omega arith);
  offset = inr (2, nearest-row right (pos 1200) 2 refl, refl);
  no_offset = inl (refl, refl);
}
