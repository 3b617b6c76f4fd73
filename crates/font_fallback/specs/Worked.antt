-- Fonts of clusters in small cases, by hand.
use Rattle.std.specs.Prelude.{◌≡◌, Bool, true, false, List, [], ◌∷◌}
use Rattle.font_fallback.specs.Choice.{font_of}

-- the first font has the clusters 0 and 3, the second 1 and 3, the third 1 and 2; nobody has 4
abbrev pub three : List (List Bool)
three =
    (true ∷ false ∷ false ∷ true ∷ false ∷ [])
    ∷ (false ∷ true ∷ false ∷ true ∷ false ∷ [])
    ∷ (false ∷ true ∷ true ∷ false ∷ false ∷ [])
    ∷ []

pub record WorkedChoice : Type 0 where
  -- the first that has it, and not a later one
  pub first : font_of three 0 ≡ 0
  pub second : font_of three 1 ≡ 1
  pub third : font_of three 2 ≡ 2
  pub first_of_two : font_of three 3 ≡ 0
  -- the first of the list if none has it, or if what was tried says nothing of it
  pub none : font_of three 4 ≡ 0
  pub past : font_of three 9 ≡ 0
  pub untried : font_of [] 0 ≡ 0
