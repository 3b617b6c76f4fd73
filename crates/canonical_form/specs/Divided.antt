-- A list divided into parts.
use Rattle.std.specs.Prelude.{◌≡◌, ◌+◌, ◌<◌, Bool, if◌then◌else◌, List, [], ◌∷◌, length}

-- an item put at the front of the first part; it is a part of its own if there is none
abbrev pub put_first : {A : Type 0} → A → List (List A) → List (List A)
put_first x [] = (x ∷ []) ∷ []
put_first x (part ∷ parts) = (x ∷ part) ∷ parts

-- the list divided between neighbours that do not go together
abbrev pub divided_between : {A : Type 0} → (A → A → Bool) → List A → List (List A)
divided_between together [] = []
divided_between together (x ∷ []) = (x ∷ []) ∷ []
divided_between together (x ∷ y ∷ rest) =
    if together x y then put_first x (divided_between together (y ∷ rest)) else (x ∷ []) ∷ divided_between together (y ∷ rest)

-- the list divided before each item after the first that doesn't belong to what it follows
abbrev pub divided : {A : Type 0} → (A → Bool) → List A → List (List A)
divided belongs xs = divided_between (λ before x. belongs x) xs

-- the first part of a list, and what stands after it
pub record IsFirstPart {A : Type 0} (belongs : A → Bool) (xs part behind : List A) : Type 0 where
  pub first : divided belongs xs ≡ part ∷ divided belongs behind
  pub some : 0 < length part
  pub whole : length part + length behind ≡ length xs
