-- Canonical equivalence (The Unicode Standard, D70; UAX 15) and canonical form (D118, the form of NFD), with the ccc at
-- hand.
use Rattle.std.specs.Prelude.{◌≡◌, ℕ, List, [], ◌∷◌, Option, None, Some}
use Rattle.std.specs.List.{All}
use Rattle.canonical_form.specs.Chain.{full_text}
use Rattle.canonical_form.specs.Decompositions.{Decompositions}
use Rattle.canonical_form.specs.Order.{Swaps, IsOrdered}

-- finitely many swaps lead from Full of one text to Full of the other
abbrev pub IsEquivalent : Decompositions → List ℕ → List ℕ → Type 0
IsEquivalent D s t = Swaps D.ccc (full_text D s) (full_text D t)

-- nothing in the list splits, and no neighbours have ccc x > y > 0
pub record IsCanonical (D : Decompositions) (text : List ℕ) : Type 0 where
  pub whole : All (λ c. D.split c ≡ None) text
  pub ordered : IsOrdered D.ccc text

-- the law composes-soundly: if two characters compose, the composed one is equivalent to the two
pub record ComposesSoundly (D : Decompositions) (compose : ℕ → ℕ → Option ℕ) : Type 0 where
  pub equivalent : (a b c : ℕ) → compose a b ≡ Some c → IsEquivalent D (c ∷ []) (a ∷ b ∷ [])
