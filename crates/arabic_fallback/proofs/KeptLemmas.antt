-- Items that stay: they draw from the list in its order, and bring nothing.
use Rattle.std.proofs.Common.{◌≡◌, ◌≤◌, ◌||◌, ℕ, Bool, true, false, List, [], ◌∷◌, ◌++◌, fold, length, refl, ap, sym, ◌∙◌, arith, if◌then◌else◌}
use Rattle.std.proofs.lemmas.List.{append_assoc, append-nil}
use Rattle.shape_items.specs.Clusters.{clusters}
use Rattle.shape_items.specs.Items.{Item}
use Rattle.shape_items.specs.PreservesFlags.{has_flag, some_has}
use Rattle.shape_items.proofs.Order.DrawsInOrder.{DrawsInOrder, DrawsInOrder-same, DrawsInOrder-after, DrawsInOrder-again}
use Rattle.arabic_fallback.specs.Ligating.{with_kept, kept}
use Rattle.arabic_fallback.specs.Replaced.{is_gone}

-- the same by recursion
abbrev pub staying : List Item → List Item
staying [] = []
staying (x ∷ xs) = if is_gone x then staying xs else x ∷ staying xs

fold-kept : (before xs : List Item) → fold with_kept before xs ≡ before ++ staying xs
fold-kept before [] = sym (append-nil before)
fold-kept before (x ∷ xs) =
    elim (is_gone x) as (λ t. fold with_kept (if t then before else before ++ x ∷ []) xs ≡ before ++ (if t then staying xs else x ∷ staying xs)) [
      | true ↦ fold-kept before xs
      | false ↦ fold-kept (before ++ x ∷ []) xs ∙ append_assoc before (x ∷ []) (staying xs)
    ]

pub kept-staying : (xs : List Item) → kept xs ≡ staying xs
kept-staying xs = fold-kept [] xs

pub staying-draws : (xs : List Item) → DrawsInOrder (clusters xs) (clusters (staying xs))
staying-draws [] = DrawsInOrder-same []
staying-draws (x ∷ xs) =
    let rest = DrawsInOrder-after x.cluster (clusters xs) (clusters (staying xs)) (staying-draws xs) in
    elim (is_gone x) as (λ t. DrawsInOrder (clusters (x ∷ xs)) (clusters (if t then staying xs else x ∷ staying xs))) [
      | true ↦ rest
      | false ↦ DrawsInOrder-again x.cluster (clusters xs) (clusters (staying xs)) rest
    ]

or_left : (a b c : Bool) → (b ≡ true → c ≡ true) → (a || b) ≡ true → (a || c) ≡ true
or_left true b c more some = refl
or_left false b c more some = more some

or_right : (a b : Bool) → b ≡ true → (a || b) ≡ true
or_right true b some = refl
or_right false b some = some

pub staying-some : (flag : ℕ) (xs : List Item) → some_has flag (staying xs) ≡ true → some_has flag xs ≡ true
staying-some flag [] = λ some. some
staying-some flag (x ∷ xs) =
    elim (is_gone x) as (λ t. some_has flag (if t then staying xs else x ∷ staying xs) ≡ true → some_has flag (x ∷ xs) ≡ true) [
      | true ↦ λ some. or_right (has_flag flag x) (some_has flag xs) (staying-some flag xs some)
      | false ↦ or_left (has_flag flag x) (some_has flag (staying xs)) (some_has flag xs) (staying-some flag xs)
    ]

length-staying : (xs : List Item) → length (staying xs) ≤ length xs
length-staying [] = omega arith
length-staying (x ∷ xs) = elim (is_gone x) as (λ t. length (if t then staying xs else x ∷ staying xs) ≤ length (x ∷ xs)) [
  | true ↦ let rest = length-staying xs in omega (arith, rest)
  | false ↦ let rest = length-staying xs in omega (arith, rest)
]

pub length_kept : (xs : List Item) → length (kept xs) ≤ length xs
length_kept xs = let same : length (kept xs) ≡ length (staying xs) = ap length (kept-staying xs) in omega (arith, same, length-staying xs)
