-- A list turned round has its clusters in the other order, and the same flags.
use Rattle.std.proofs.Common.{◌≡◌, ℕ, ◌<◌, ◌-◌, List, [], ◌∷◌, ◌++◌, length, reverse, refl, ap, sym, ◌∙◌, arith}
use Rattle.std.proofs.lemmas.List.{get_or-reverse, length-reverse, reverse-append, map-append}
use Rattle.std.proofs.lemmas.List.Sorted.{IsPermutation-reverse, list_any-IsPermutation}
use Rattle.std.specs.Prelude.{Contains}
use Rattle.std.specs.List.Sorted.{IsNonDecreasing}
use Rattle.shape_items.specs.ClusterOrder.{IsNonIncreasing}
use Rattle.shape_items.specs.Clusters.{clusters}
use Rattle.shape_items.specs.Items.{Item}
use Rattle.shape_items.specs.PreservesFlags.{has_flag, some_has}

pub clusters-reverse : (xs : List Item) → clusters (reverse xs) ≡ reverse (clusters xs)
clusters-reverse [] = refl
clusters-reverse (x ∷ xs) =
    ap clusters (reverse-append (x ∷ []) xs)
    ∙ map-append (λ (item : Item). item.cluster) (reverse xs) (x ∷ [])
    ∙ ap (λ (ys : List ℕ). ys ++ (x.cluster ∷ [])) (clusters-reverse xs)
    ∙ sym (reverse-append (x.cluster ∷ []) (clusters xs))

pub falls-reverse : (xs : List ℕ) → IsNonDecreasing xs → IsNonIncreasing (reverse xs)
falls-reverse xs rising i j d le lt =
    let short : j < length xs = rw (← length-reverse xs) lt in
    let first : i < length xs = omega arith in
    rw (get_or-reverse xs j d short, get_or-reverse xs i d first)
    (rising (length xs - 1 - j) (length xs - 1 - i) d (omega arith) (omega arith))

pub rises-reverse : (xs : List ℕ) → IsNonIncreasing xs → IsNonDecreasing (reverse xs)
rises-reverse xs falling i j d le lt =
    let short : j < length xs = rw (← length-reverse xs) lt in
    let first : i < length xs = omega arith in
    rw (get_or-reverse xs i d first, get_or-reverse xs j d short)
    (falling (length xs - 1 - j) (length xs - 1 - i) d (omega arith) (omega arith))

pub Contains-reverse : (xs : List ℕ) (x : ℕ) → Contains (reverse xs) x → Contains xs x
Contains-reverse xs x (k, lt, e) =
    let short : k < length xs = rw (← length-reverse xs) lt in
    (length xs - 1 - k, omega arith, sym (get_or-reverse xs k x short) ∙ e)

pub some_has-reverse : (flag : ℕ) (xs : List Item) → some_has flag (reverse xs) ≡ some_has flag xs
some_has-reverse flag xs = sym (list_any-IsPermutation (has_flag flag) xs (reverse xs) (IsPermutation-reverse xs))
