-- Patterns over the categories of characters, and the texts that they match.
use Rattle.std.specs.Prelude.{◌≡◌, ℕ, ◌==◌, ◌||◌, Bool, true, false, ◌⊎◌, List, [], ◌∷◌, ◌++◌}

pub data Pattern : Type 0 where
  -- matches no text
  Nothing : Pattern
  -- matches the empty text
  Empty : Pattern
  -- one character of one of these categories
  One : List ℕ → Pattern
  -- the one, then the other
  Then : Pattern → Pattern → Pattern
  -- the one or the other
  Or : Pattern → Pattern → Pattern
  -- any number of times
  Star : Pattern → Pattern

abbrev pub opt : Pattern → Pattern
opt p = Or p Empty

-- a character of this category
abbrev pub one : ℕ → Pattern
one c = One (c ∷ [])

-- at least once
abbrev pub plus : Pattern → Pattern
plus p = Then p (Star p)

-- all of them, one after the other
abbrev pub in_turn : List Pattern → Pattern
in_turn [] = Empty
in_turn (p ∷ []) = p
in_turn (p ∷ q ∷ ps) = Then p (in_turn (q ∷ ps))

-- one of them
abbrev pub any_of : List Pattern → Pattern
any_of [] = Nothing
any_of (p ∷ []) = p
any_of (p ∷ q ∷ ps) = Or p (any_of (q ∷ ps))

-- whether a number is in a list
abbrev pub is_in : ℕ → List ℕ → Bool
is_in c [] = false
is_in c (x ∷ xs) = (c == x) || is_in c xs

-- the list is a text of texts that each have the property
pub data Rounds (P : List ℕ → Type 0) : List ℕ → Type 0 where
  no_round : Rounds P []
  one_more : (xs ys : List ℕ) → P xs → Rounds P ys → Rounds P (xs ++ ys)

-- the pattern matches the text of these categories
abbrev pub Matches : Pattern → List ℕ → Type 0
Matches Nothing xs = ⊥
Matches Empty xs = xs ≡ []
Matches (One set) xs = (c : ℕ) × (is_in c set ≡ true) × (xs ≡ c ∷ [])
Matches (Then p q) xs = (ys : List ℕ) × (zs : List ℕ) × Matches p ys × Matches q zs × (xs ≡ ys ++ zs)
Matches (Or p q) xs = Matches p xs ⊎ Matches q xs
Matches (Star p) xs = Rounds (Matches p) xs
