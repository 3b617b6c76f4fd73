-- Kinds of syllables, and the first syllable of a text.
use Rattle.std.specs.Prelude.{◌≡◌, ℕ, suc, ◌+◌, ◌<◌, ◌≤◌, ◌⊎◌, if◌then◌else◌, List, [], ◌∷◌, length, take, Option, None, Some}
use Rattle.syllables.specs.Pattern.{Pattern, Matches}
use Rattle.syllables.specs.Derivatives.{nullable, is_nothing, deriv}
use Rattle.syllables.specs.declared.scanner.Syllable.{Syllable}

-- kinds of syllables and their patterns, in the order of their priority
abbrev pub Grammar : Type 0
Grammar = List (ℕ × Pattern)

-- the first of the patterns that match the text is of this kind
abbrev pub HasKind : Grammar → List ℕ → ℕ → Type 0
HasKind [] xs k = ⊥
HasKind (rule ∷ rules) xs k = (Matches rule.1 xs × (rule.0 ≡ k)) ⊎ ((Matches rule.1 xs → ⊥) × HasKind rules xs k)

-- no pattern matches the text
abbrev pub HasNoKind : Grammar → List ℕ → Type 0
HasNoKind [] xs = Unit {0}
HasNoKind (rule ∷ rules) xs = (Matches rule.1 xs → ⊥) × HasNoKind rules xs

-- the first syllable of a text: no longer beginning matches; if none matches at all it is one character of another kind
pub record IsFirstSyllable (g : Grammar) (other : ℕ) (xs : List ℕ) (s : Syllable) : Type 0 where
  pub kind : HasKind g (take s.count xs) s.kind
      ⊎ ((s ≡ record { kind = other; count = 1 }) × ((n : ℕ) → n < length xs → HasNoKind g (take (suc n) xs)))
  pub longest : (n : ℕ) → s.count ≤ n → n < length xs → HasNoKind g (take (suc n) xs)

-- ---- by derivatives

abbrev pub with_rest : ℕ → Pattern → Grammar → Grammar
with_rest kind p rest = if is_nothing p then rest else (kind, p) ∷ rest

-- what a grammar leaves to match behind a character
abbrev pub step : ℕ → Grammar → Grammar
step c [] = []
step c (rule ∷ rules) = with_rest rule.0 (deriv c rule.1) (step c rules)

-- the first kind that matches the empty text
abbrev pub kind_of : Grammar → Option ℕ
kind_of [] = None
kind_of (rule ∷ rules) = if nullable rule.1 then Some rule.0 else kind_of rules

abbrev pub steps : List ℕ → Grammar → Grammar
steps [] g = g
steps (c ∷ cs) g = steps cs (step c g)

-- what is found after `n` characters of this kind
abbrev pub better : Option ℕ → ℕ → Syllable → Syllable
better None n found = found
better (Some k) n found = record { kind = k; count = n }

-- the longest syllable, where `n` characters have been read and `found` so far
abbrev pub longest : Grammar → ℕ → Syllable → List ℕ → Syllable
longest g n found [] = found
longest g n found (c ∷ cs) = longest (step c g) (n + 1) (better (kind_of (step c g)) (n + 1) found) cs

-- the longest beginning that a pattern matches; else one character of another kind
abbrev pub first_syllable : Grammar → ℕ → List ℕ → Syllable
first_syllable g other xs = longest g 0 (record { kind = other; count = 1 }) xs
