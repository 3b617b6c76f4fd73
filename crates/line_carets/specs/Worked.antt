-- Carets of a line in small cases, by hand.
use Rattle.std.specs.Prelude.{◌≡◌, pos, negsuc, true, false, [], ◌∷◌, refl}
use Rattle.std.specs.Int.{int_wrap}
use Rattle.shape_common.specs.Wrapping.{◌+ʷ◌}
use Rattle.shape_carets.specs.Carets.{caret}
use Rattle.line_carets.specs.LineCarets.{all_carets, is_before, line_carets, moved, settled}

pub record WorkedSettled : Type 0 where
  -- `ab ` and then two Hebrew letters, 10 each: before the first of these the caret stands at its right
  pub direction_changes : settled (caret 0 (pos 0) ∷ caret 1 (pos 10) ∷ caret 2 (pos 20) ∷ caret 3 (pos 30)
      ∷ caret 3 (pos 50) ∷ caret 5 (pos 40) ∷ caret 7 (pos 30) ∷ [])
      ≡ caret 0 (pos 0) ∷ caret 1 (pos 10) ∷ caret 2 (pos 20) ∷ caret 3 (pos 50) ∷ caret 5 (pos 40) ∷ caret 7 (pos 30) ∷ []
  -- three of one offset: the last
  pub three : settled (caret 4 (pos 1) ∷ caret 4 (pos 2) ∷ caret 4 (pos 3) ∷ []) ≡ caret 4 (pos 3) ∷ []
  -- an offset that is past a later one has no caret
  pub falling : settled (caret 5 (pos 1) ∷ caret 2 (pos 2) ∷ caret 4 (pos 3) ∷ []) ≡ caret 2 (pos 2) ∷ caret 4 (pos 3) ∷ []
  pub none : settled [] ≡ []
  pub before : is_before (caret 2 (pos 0)) (caret 3 (pos 0) ∷ []) ≡ true
  pub not_before : is_before (caret 3 (pos 0)) (caret 3 (pos 9) ∷ []) ≡ false
  pub last : is_before (caret 3 (pos 0)) [] ≡ true
  pub moved_right : moved (pos 30) (caret 3 (pos 20)) ≡ caret 3 (pos 50)
  pub moved_left : moved (negsuc 9) (caret 3 (pos 20)) ≡ caret 3 (pos 10)
  -- places that no run stands at have no carets
  pub no_run : all_carets [] [] (0 ∷ 1 ∷ []) ≡ []
  pub no_line : line_carets [] [] [] ≡ []

pub worked_settled : WorkedSettled
unfolding ◌+ʷ◌ int_wrap
worked_settled = record {
  direction_changes = refl;
  three = refl;
  falling = refl;
  none = refl;
  before = refl;
  not_before = refl;
  last = refl;
  moved_right = refl;
  moved_left = refl;
  no_run = refl;
  no_line = refl;
}
