-- Lists that are made piece by piece.
use Rattle.std.proofs.Common.{◌≡◌, ℕ, ◌<◌, List, ◌++◌, length, take, get_or, ap, ◌∙◌, arith}
use Rattle.std.proofs.lemmas.List.{length-append}
use Rattle.std.proofs.lemmas.List.Folds.{length-flat_map-take}
use Rattle.std.specs.List.{flat_map}

-- a limit that the pieces up to one item pass, after what there was, is passed by all pieces
pub passed_by_all : {X Y : Type 0} (f : X → List Y) (xs : List X) (i : ℕ) (x : X) (before done : List Y) (limit : ℕ) → i < length xs
    → x ≡ get_or xs i x → done ≡ before ++ flat_map f (take i xs) → limit < length (done ++ f x) → limit < length (before ++ flat_map f xs)
passed_by_all f xs i x before done limit within at is skipped =
    let piece = ap (λ y. length (f y)) at in
    let so_far = ap length is ∙ length-append before (flat_map f (take i xs)) in
    omega (arith, length-append done (f x), length-append before (flat_map f xs), length-flat_map-take f xs i x within)
