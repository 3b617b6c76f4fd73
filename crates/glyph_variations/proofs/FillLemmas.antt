-- a slice that is filled from its start on
use Rattle.std.proofs.Common.{◌≡◌, ◌∙◌, ℕ, ◌<◌, ◌≤◌, ◌+◌, List, [], ◌∷◌, ◌++◌, length, take, get_or, sym, ap}
use Rattle.std.specs.Prelude.{map, replicate, slice_set}
use Rattle.std.proofs.lemmas.List.{take_more_set, take_more, take_all, replicate_more, map-append}

pub filled_next : {X : Type 0} (xs : List X) (k : ℕ) (x : X) → k < length xs → take k xs ≡ replicate k x
    → take (k + 1) (slice_set xs k x) ≡ replicate (k + 1) x
filled_next xs k x h is = take_more_set xs k x h ∙ ap (λ p. p ++ x ∷ []) is ∙ replicate_more k x

pub filled_end : {X : Type 0} (xs : List X) (n : ℕ) (x : X) → length xs ≤ n → take n xs ≡ replicate n x → xs ≡ replicate n x
filled_end xs n x all is = sym (take_all n xs all) ∙ is

pub mapped_next : {X Y : Type 0} (f : X → Y) (ys : List Y) (xs : List X) (k : ℕ) (d : X) → k < length ys → k < length xs
    → take k ys ≡ map f (take k xs) → take (k + 1) (slice_set ys k (f (get_or xs k d))) ≡ map f (take (k + 1) xs)
mapped_next f ys xs k d h i is = take_more_set ys k (f (get_or xs k d)) h ∙ ap (λ p. p ++ f (get_or xs k d) ∷ []) is
    ∙ sym (ap (map f) (take_more xs k d i) ∙ map-append f (take k xs) (get_or xs k d ∷ []))

pub mapped_end : {X Y : Type 0} (f : X → Y) (ys : List Y) (xs : List X) (n : ℕ) → length ys ≤ n → length xs ≤ n
    → take n ys ≡ map f (take n xs) → ys ≡ map f xs
mapped_end f ys xs n all each is = sym (take_all n ys all) ∙ is ∙ ap (map f) (take_all n xs each)
