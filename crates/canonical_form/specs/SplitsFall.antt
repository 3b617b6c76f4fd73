-- What decompositions must provide so that texts are put into canonical form.
use Rattle.std.specs.Prelude.{◌≡◌, ◌≢◌, ℕ, ◌⊎◌, Some, None}
use Rattle.canonical_form.specs.Chain.{FallsAlong}
use Rattle.canonical_form.specs.Decompositions.{Decompositions}

-- the law splits-fall: a height falls to the first part, a second part is U+0000 or splits no more,
-- and a character of nonzero ccc splits into characters of that ccc, U+0000 aside
pub record SplitsFall (D : Decompositions) : Type 0 where
  pub height_falls : FallsAlong D.split D.height
  pub second_is_last : (c a b : ℕ) → D.split c ≡ Some (a, b) → (b ≡ 0) ⊎ (D.split b ≡ None)
  pub first_ccc : (c a b : ℕ) → D.ccc c ≢ 0 → D.split c ≡ Some (a, b) → D.ccc a ≡ D.ccc c
  pub second_ccc : (c a b : ℕ) → D.ccc c ≢ 0 → D.split c ≡ Some (a, b) → (b ≡ 0) ⊎ (D.ccc b ≡ D.ccc c)
