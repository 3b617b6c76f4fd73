-- A width and a text, by the first word and the others.
use Rattle.std.proofs.Common.{◌≡◌, ℕ, ◌≤◌, List, [], ◌∷◌, sym, subst}
use Rattle.std.specs.Str.Parse.{IsNumeral, digits_value}
use Rattle.shape_sessions.specs.Text.{IsText, IsWidthAndText}

pub no_width : (words : List (List ℕ)) → words ≡ [] → ¬ IsWidthAndText words
no_width words none both = subst IsWidthAndText none both

pub other_width : (words : List (List ℕ)) (width : List ℕ) (text : List (List ℕ)) → words ≡ width ∷ text
    → ¬ (IsNumeral 10 width × (digits_value 10 width ≤ 4294967295)) → ¬ IsWidthAndText words
other_width words width text are other both = let parts = subst IsWidthAndText are both in other (parts.0, parts.1)

pub other_text : (words : List (List ℕ)) (width : List ℕ) (text : List (List ℕ)) → words ≡ width ∷ text
    → ¬ IsText text → ¬ IsWidthAndText words
other_text words width text are other both = let parts = subst IsWidthAndText are both in other parts.2

pub width_and_text : (words : List (List ℕ)) (width : List ℕ) (text : List (List ℕ)) → words ≡ width ∷ text
    → IsNumeral 10 width × (digits_value 10 width ≤ 4294967295) → IsText text → IsWidthAndText words
width_and_text words width text are number is_text = subst IsWidthAndText (sym are) (number.0, number.1, is_text)
