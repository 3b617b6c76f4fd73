-- Lists that are the same at each place.
use Rattle.std.proofs.Common.{◌≡◌, ℕ, ◌<◌, List, length, ap}
use Rattle.std.specs.Prelude.{slice_index_or}
use Rattle.std.proofs.lemmas.List.{same_lists}

pub same_from_places : {X : Type 0} (xs ys : List X) → length xs ≡ length ys → ((k : ℕ) (d : X) → k < length xs → slice_index_or xs k d ≡ slice_index_or ys k d) → xs ≡ ys
same_from_places xs ys = same_lists xs ys

pub same_at : {X : Type 0} (xs ys : List X) → xs ≡ ys → (k : ℕ) (d : X) → slice_index_or xs k d ≡ slice_index_or ys k d
same_at xs ys e k d = ap (λ (zs : List _). slice_index_or zs k d) e
