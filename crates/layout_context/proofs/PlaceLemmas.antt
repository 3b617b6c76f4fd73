-- A state of places by its subtables.
use Rattle.std.proofs.Common.{◌≡◌, ℕ, List, ap}
use Rattle.layout_context.specs.Places.{Growing}

pub places_grown : (xs : List ℕ) (n : ℕ) (s : Growing) → record { places = xs; next = n } ≡ s → xs ≡ s.places
places_grown xs n s e = ap (λ (g : Growing). g.places) e
