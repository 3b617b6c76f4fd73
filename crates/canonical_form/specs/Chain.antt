-- The chain of a character: its splits, and those of the first parts (The Unicode Standard, D68).
use Rattle.std.specs.Prelude.{◌≡◌, ℕ, zero, suc, ◌<◌, ◌==◌, if◌then◌else◌, List, [], ◌∷◌, ◌++◌, Option, Some, None, option_and_then}
use Rattle.std.specs.Option.{option_map, option_map_or}
use Rattle.std.specs.List.{flat_map}
use Rattle.canonical_form.specs.Decompositions.{Decompositions}

-- a height is less for the first part of a split than for the whole
pub record FallsAlong (split : ℕ → Option (ℕ × ℕ)) (height : ℕ → ℕ) : Type 0 where
  pub falls : (c a b : ℕ) → split c ≡ Some (a, b) → height a < height c

-- a second part as a list: U+0000 is dropped
abbrev pub kept_part : ℕ → List ℕ
kept_part b = if b == 0 then [] else b ∷ []

-- point k of the chain of c: c itself, then the first part of the split of each point
abbrev pub chain_point : (ℕ → Option (ℕ × ℕ)) → ℕ → ℕ → Option ℕ
chain_point split zero c = Some c
chain_point split (suc k) c = option_and_then (λ point. option_map (λ parts. parts.0) (split point)) (chain_point split k c)

-- second part k of the chain of c, k at least 1: that of the split of point k - 1
abbrev pub second_part : (ℕ → Option (ℕ × ℕ)) → ℕ → ℕ → Option ℕ
second_part split zero c = None
second_part split (suc k) c = option_and_then (λ point. option_map (λ parts. parts.1) (split point)) (chain_point split k c)

-- Full, with so many steps to spare: c if it doesn't split, else Full of its first part and then its second part
abbrev pub full_within : (ℕ → Option (ℕ × ℕ)) → ℕ → ℕ → List ℕ
full_within split zero c = c ∷ []
full_within split (suc steps) c = option_map_or (λ parts. full_within split steps parts.0 ++ kept_part parts.1) (split c) (c ∷ [])

-- Full: the full canonical decomposition before ordering; a chain is no longer than the height of its character
unfoldable pub full : Decompositions → ℕ → List ℕ
full D c = full_within D.split (D.height c) c

-- Full of a text: that of each character, one after the other
unfoldable pub full_text : Decompositions → List ℕ → List ℕ
full_text D text = flat_map (full D) text

-- Full by its two rules, without a number of steps
pub data IsFull (split : ℕ → Option (ℕ × ℕ)) : ℕ → List ℕ → Type 0 where
  stays : {c : ℕ} → split c ≡ None → IsFull split c (c ∷ [])
  splits_into : {c a b : ℕ} {xs : List ℕ} → split c ≡ Some (a, b) → IsFull split a xs → IsFull split c (xs ++ kept_part b)
