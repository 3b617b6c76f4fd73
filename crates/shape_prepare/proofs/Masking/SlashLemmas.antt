-- The walk over the slashes of a list.
use Rattle.std.proofs.Common.{◌≡◌, ℕ, ◌+◌, true, false, nat_lt, List, ◌∷◌, refl}
use Rattle.shape_items.specs.Buffer.{Buffer}
use Rattle.shape_items.specs.Items.{Item}
use Rattle.shape_prepare.specs.Fractions.{is_slash, slash_places, slash_masked, next_place, slashes_masked}
use Rattle.shape_prepare.specs.declared.fractions.FractionMasks.{FractionMasks}

module _ (masks : FractionMasks) (next i : ℕ) (item : Item) (rest : List Item) (b : Buffer) where
  -- a slash that is reached
  pub slashes-reached : is_slash item ≡ true → nat_lt i next ≡ false
      → slashes_masked masks (next_place b.items i) (slash_places (i + 1) rest) (slash_masked masks i b)
      ≡ slashes_masked masks next (slash_places i (item ∷ rest)) b
  slashes-reached slash reached = rw (slash, reached) refl

  -- one in the whole of an earlier one
  pub slashes-skipped : is_slash item ≡ true → nat_lt i next ≡ true
      → slashes_masked masks next (slash_places (i + 1) rest) b ≡ slashes_masked masks next (slash_places i (item ∷ rest)) b
  slashes-skipped slash passed = rw (slash, passed) refl

  -- another item
  pub slashes-other : is_slash item ≡ false
      → slashes_masked masks next (slash_places (i + 1) rest) b ≡ slashes_masked masks next (slash_places i (item ∷ rest)) b
  slashes-other other = rw other refl
