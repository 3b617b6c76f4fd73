-- What selections cover, on small cases whose results are worked out by hand.
use Rattle.std.specs.Prelude.{◌≡◌, pos, negsuc, List, [], ◌∷◌, Some, None, refl}
use Rattle.shape_carets.specs.Carets.{caret}
use Rattle.shape_carets.specs.Selections.{span, selection_of}
use Rattle.shape_carets.specs.declared.caret.Caret.{Caret}

-- three letters, 600, 500 and 250 wide, that run to the right or to the left; the second has two characters
abbrev pub right : List Caret
right = caret 0 (pos 0) ∷ caret 1 (pos 600) ∷ caret 3 (pos 1100) ∷ caret 4 (pos 1350) ∷ []

abbrev pub left : List Caret
left = caret 0 (pos 1350) ∷ caret 1 (pos 750) ∷ caret 3 (pos 250) ∷ caret 4 (pos 0) ∷ []

-- the second letter goes back by 700
abbrev pub back : List Caret
back = caret 0 (pos 0) ∷ caret 1 (pos 600) ∷ caret 2 (negsuc 99) ∷ []

pub record WorkedSelections : Type 0 where
  pub one_letter : selection_of right 0 1 ≡ Some (span (pos 0) (pos 600))
  pub two_make_one : selection_of right 0 3 ≡ Some (span (pos 0) (pos 1100))
  pub all : selection_of right 0 4 ≡ Some (span (pos 0) (pos 1350))
  pub to_the_left : selection_of left 1 4 ≡ Some (span (pos 0) (pos 750))
  -- half of a piece selects it whole
  pub first_half : selection_of right 1 2 ≡ Some (span (pos 600) (pos 1100))
  pub second_half : selection_of right 2 4 ≡ Some (span (pos 600) (pos 1350))
  pub nothing : selection_of right 1 1 ≡ None
  pub inside_a_piece : selection_of right 2 2 ≡ None
  pub turned_round : selection_of right 3 1 ≡ None
  pub after_the_text : selection_of right 4 9 ≡ None
  pub more_than_the_text : selection_of left 0 99 ≡ Some (span (pos 0) (pos 1350))
  pub no_width : selection_of (caret 0 (pos 5) ∷ caret 1 (pos 5) ∷ []) 0 1 ≡ Some (span (pos 5) (pos 5))
  pub back_and_forth : selection_of back 0 2 ≡ Some (span (negsuc 99) (pos 600))
  pub no_carets : selection_of [] 0 9 ≡ None

pub worked_selections : WorkedSelections
worked_selections = record {
  one_letter = refl;
  two_make_one = refl;
  all = refl;
  to_the_left = refl;
  first_half = refl;
  second_half = refl;
  nothing = refl;
  inside_a_piece = refl;
  turned_round = refl;
  after_the_text = refl;
  more_than_the_text = refl;
  no_width = refl;
  back_and_forth = refl;
  no_carets = refl;
}
