-- From offsets to places and back, on small cases whose results are worked out by hand.
use Rattle.std.specs.Prelude.{pos, negsuc, List, [], ◌∷◌}
use Rattle.shape_carets.specs.Carets.{caret}
use Rattle.shape_carets.specs.Places.{IsPlaceOf, IsNearest, CaretStandsAt, OffsetIsNearest}
use Rattle.shape_carets.specs.Worked.Selections.{right, left}
use Rattle.shape_carets.specs.declared.caret.Caret.{Caret}

-- the second letter takes no room
abbrev pub with_mark : List Caret
with_mark = caret 0 (pos 0) ∷ caret 1 (pos 600) ∷ caret 2 (pos 600) ∷ caret 3 (pos 1100) ∷ []

pub record WorkedPlaces : Type 0 where
  pub first : IsPlaceOf right 0 0
  pub second : IsPlaceOf right 1 1
  pub inside_a_piece : IsPlaceOf right 2 1
  pub end : IsPlaceOf right 4 3
  pub after_the_end : IsPlaceOf right 9 3
  pub before_the_first : IsPlaceOf (caret 3 (pos 0) ∷ caret 5 (pos 10) ∷ []) 1 0
  pub not_an_earlier : IsPlaceOf right 3 1 → ⊥
  pub not_a_later : IsPlaceOf right 2 2 → ⊥
  pub stands : CaretStandsAt left 1 (pos 750)
  pub none_stands : CaretStandsAt [] 7 (pos 0)

pub record WorkedNearest : Type 0 where
  pub on_it : IsNearest right (pos 600) 1
  pub nearer_to_the_left : IsNearest right (pos 299) 0
  pub as_near_to_both : IsNearest right (pos 300) 1
  pub before_the_text : IsNearest right (negsuc 49) 0
  pub after_the_text : IsNearest right (pos 9999) 3
  pub running_to_the_left : IsNearest left (pos 900) 1
  pub as_near_there : IsNearest left (pos 125) 3
  -- the later of two at one place
  pub past_no_width : IsNearest with_mark (pos 600) 2
  pub not_the_earlier : IsNearest with_mark (pos 600) 1 → ⊥
  pub not_the_farther : IsNearest right (pos 299) 1 → ⊥
  pub offset : OffsetIsNearest right (pos 1200) 3
  pub no_offset : OffsetIsNearest [] (pos 7) 0
