-- Where each character of a line stands, from its visual order: the one undoes the other.
use Rattle.std.proofs.Common.{◌≡◌, ℕ, zero, suc, ◌+◌, ◌<◌, ◌≤◌, ◌==◌, true, false, List, [], ◌∷◌, length, map, get_or, replicate, refl, ap, subst, sym, ◌∙◌, inl, inr, arith}
use Rattle.std.proofs.lemmas.Bool.Decides.{nat_tests}
use Rattle.std.specs.List.{Contains, sum_by}
use Rattle.std.specs.List.Sorted.{IsPermutation}
use Rattle.std.specs.Prelude.{◌⊎◌, slice_set, if◌then◌else◌}
use Rattle.std.proofs.lemmas.Bool.{cases_Bool, cond-true, cond-false}
use Rattle.std.proofs.lemmas.List.Sorted.{Contains-permutation, length_permutation, sum_by-IsPermutation}
use Rattle.std.proofs.lemmas.List.Sums.{sum_by-cons}
use Rattle.bidi.specs.Lines.{AreInverse, indices, place_of, placed_from, places_from, visual_places}

-- how often a number stands in a list
abbrev is_here : ℕ → ℕ → ℕ
is_here i x = if x == i then 1 else 0

abbrev count : ℕ → List ℕ → ℕ
count i [] = 0
count i (x ∷ xs) = is_here i x + count i xs

count-sum : (i : ℕ) (xs : List ℕ) → count i xs ≡ sum_by (is_here i) xs
count-sum i [] = refl
count-sum i (x ∷ xs) = ap (λ k. is_here i x + k) (count-sum i xs) ∙ sym (sum_by-cons (is_here i) x xs)

here-same : (x : ℕ) → is_here x x ≡ 1
here-same x = let same : (x == x) ≡ true = grind (arith, nat_tests) in cond-true {A = ℕ} (x == x) 1 0 same

here-other : (i x : ℕ) → (x == i) ≡ false → is_here i x ≡ 0
here-other i x other = cond-false {A = ℕ} (x == i) 1 0 other

-- a number that stands in a list is counted
counted : (xs : List ℕ) (k : ℕ) → k < length xs → 1 ≤ count (get_or xs k 0) xs
counted [] k lt = absurd (omega arith)
counted (x ∷ xs) zero lt = let one = here-same x in omega (arith, one)
counted (x ∷ xs) (suc k) lt = let rest = counted xs k (omega arith) in omega (arith, rest)

-- ---- the numbers of places, each once

places-none : (start i : ℕ) (levels : List ℕ) → i < start → count i (map place_of (places_from start levels)) ≡ 0
places-none start i [] lt = refl
places-none start i (level ∷ levels) lt =
    let other : (start == i) ≡ false = grind (arith, nat_tests) in
    let none = here-other i start other in
    let rest = places-none (start + 1) i levels (omega arith) in
    omega (arith, none, rest)

places-once : (start i : ℕ) (levels : List ℕ) → count i (map place_of (places_from start levels)) ≤ 1
places-once start i [] = omega arith
places-once start i (level ∷ levels) = elim (cases_Bool (start == i)) [
  | inl same ↦
      let e : start ≡ i = grind (arith, nat_tests) in
      let one : is_here i start ≡ 1 = cond-true {A = ℕ} (start == i) 1 0 same in
      let rest = places-none (start + 1) i levels (omega (arith, e)) in
      omega (arith, one, rest)
  | inr other ↦
      let none = here-other i start other in
      let rest = places-once (start + 1) i levels in
      omega (arith, none, rest)
]

place-at : (start k : ℕ) (levels : List ℕ) → k < length levels → get_or (map place_of (places_from start levels)) k (start + k) ≡ start + k
place-at start k [] lt = absurd (omega arith)
place-at start zero (level ∷ levels) lt = omega arith
place-at start (suc k) (level ∷ levels) lt =
    let sum : start + suc k ≡ start + 1 + k = omega arith in
    rw sum (place-at (start + 1) k levels (omega arith))

length-places : (start : ℕ) (levels : List ℕ) → length (map place_of (places_from start levels)) ≡ length levels
length-places start [] = refl
length-places start (level ∷ levels) = ap suc (length-places (start + 1) levels)

-- ---- what is written

set-same : (xs : List ℕ) (n v : ℕ) → n < length xs → get_or (slice_set xs n v) n 0 ≡ v
set-same [] n v lt = absurd (omega arith)
set-same (x ∷ xs) zero v lt = refl
set-same (x ∷ xs) (suc n) v lt = set-same xs n v (omega arith)

set-other : (xs : List ℕ) (n i v : ℕ) → (n ≡ i → ⊥) → get_or (slice_set xs n v) i 0 ≡ get_or xs i 0
set-other [] n i v other = refl
set-other (x ∷ xs) zero zero v other = absurd (other refl)
set-other (x ∷ xs) zero (suc i) v other = refl
set-other (x ∷ xs) (suc n) zero v other = refl
set-other (x ∷ xs) (suc n) (suc i) v other = set-other xs n i v (λ e. other (ap suc e))

set-length : (xs : List ℕ) (n v : ℕ) → length (slice_set xs n v) ≡ length xs
set-length [] n v = refl
set-length (x ∷ xs) zero v = refl
set-length (x ∷ xs) (suc n) v = ap suc (set-length xs n v)

unwritten : (order places : List ℕ) (v i : ℕ) → count i order ≡ 0 → get_or (placed_from v order places) i 0 ≡ get_or places i 0
unwritten [] places v i none = refl
unwritten (p ∷ order) places v i none = elim (cases_Bool (p == i)) [
  | inl same ↦ let one : is_here i p ≡ 1 = cond-true {A = ℕ} (p == i) 1 0 same in absurd (omega (arith, one, none))
  | inr other ↦
      let zero_here = here-other i p other in
      let rest : count i order ≡ 0 = omega (arith, zero_here, none) in
      unwritten order (slice_set places p v) (v + 1) i rest ∙ set-other places p i v (λ e. differ p i other e)
]
  where
    differ : (p i : ℕ) → (p == i) ≡ false → p ≡ i → ⊥
    differ p i other e = grind (arith, nat_tests)

written : (order places : List ℕ) (v k : ℕ) → k < length order → count (get_or order k 0) order ≤ 1 → get_or order k 0 < length places
    → get_or (placed_from v order places) (get_or order k 0) 0 ≡ v + k
written [] places v k lt once within = absurd (omega arith)
written (p ∷ order) places v zero lt once within =
    let one = here-same p in
    let rest : count p order ≡ 0 = omega (arith, one, once) in
    let sum : v + 0 ≡ v = omega arith in
    unwritten order (slice_set places p v) (v + 1) p rest ∙ set-same places p v within ∙ sym sum
written (p ∷ order) places v (suc k) lt once within =
    let fewer : count (get_or order k 0) order ≤ 1 = omega (arith, once) in
    let long = set-length places p v in
    let sum : v + 1 + k ≡ v + suc k = omega arith in
    written order (slice_set places p v) (v + 1) k (omega arith) fewer (omega (arith, long, within)) ∙ sum

length-replicate : (n : ℕ) → length {A = ℕ} (replicate n 0) ≡ n
length-replicate zero = refl
length-replicate (suc n) = ap suc (length-replicate n)

module _ (levels order : List ℕ) (moved : IsPermutation (indices levels) order) where
  long : length order ≡ length levels
  long = length_permutation (indices levels) order moved ∙ length-places 0 levels

  once : (i : ℕ) → count i order ≤ 1
  once i =
      let same : count i order ≡ count i (indices levels) =
      count-sum i order ∙ sum_by-IsPermutation (is_here i) (indices levels) order moved ∙ sym (count-sum i (indices levels)) in
      let one = places-once 0 i levels in
      omega (arith, same, one)

  -- each place is in the order
  found : (i : ℕ) → i < length order → Contains order i
  found i lt =
      let within : i < length levels = omega (arith, lt, long) in
      let sum : 0 + i ≡ i = omega arith in
      Contains-permutation (indices levels) order i moved (
        i,
        subst (λ n. i < n) (sym (length-places 0 levels)) within,
        subst (λ k. get_or (indices levels) i k ≡ k) sum (place-at 0 i levels within),
      )

  -- the numbers of an order are places
  within_order : (k : ℕ) → k < length order → get_or order k 0 < length order
  within_order k lt = elim (nat_lt_or (get_or order k 0) (length order)) [
    | inl less ↦ less
    | inr more ↦
        let some = counted order k lt in
        let same : count (get_or order k 0) order ≡ count (get_or order k 0) (indices levels) =
        count-sum (get_or order k 0) order ∙ sum_by-IsPermutation (is_here (get_or order k 0)) (indices levels) order moved ∙ sym (count-sum (get_or order k 0) (indices levels)) in
        let none = places-past 0 (get_or order k 0) levels (omega (arith, more, long)) in
        absurd (omega (arith, some, same, none))
  ]
    where
      nat_lt_or : (a b : ℕ) → (a < b) ⊎ (b ≤ a)
      nat_lt_or a zero = inr (omega arith)
      nat_lt_or zero (suc b) = inl (omega arith)
      nat_lt_or (suc a) (suc b) = elim (nat_lt_or a b) [
        | inl less ↦ inl (omega (arith, less))
        | inr more ↦ inr (omega (arith, more))
      ]

      places-past : (start i : ℕ) (levels : List ℕ) → start + length levels ≤ i → count i (map place_of (places_from start levels)) ≡ 0
      places-past start i [] le = refl
      places-past start i (level ∷ levels) le =
          let other : (start == i) ≡ false = grind (arith, nat_tests) in
          let none = here-other i start other in
          let rest = places-past (start + 1) i levels (omega arith) in
          omega (arith, none, rest)

  there : (k : ℕ) → k < length order → get_or (visual_places order) (get_or order k 0) 0 ≡ k
  there k lt =
      let all = length-replicate (length order) in
      let within = within_order k lt in
      let sum : 0 + k ≡ k = omega arith in
      written order (replicate (length order) 0) 0 k lt (once (get_or order k 0)) (omega (arith, all, within)) ∙ sum

  pub order_inverse : AreInverse order (visual_places order)
  order_inverse = record {
    there = there;
    back = λ i lt. back i (found i lt);
  }
    where
      default_any : (xs : List ℕ) (k d e : ℕ) → k < length xs → get_or xs k d ≡ get_or xs k e
      default_any [] k d e lt = absurd (omega arith)
      default_any (x ∷ xs) zero d e lt = refl
      default_any (x ∷ xs) (suc k) d e lt = default_any xs k d e (omega arith)

      back : (i : ℕ) → Contains order i → get_or order (get_or (visual_places order) i 0) 0 ≡ i
      back i (k, within, is) =
          let at : get_or order k 0 ≡ i = default_any order k 0 i within ∙ is in
          ap (λ j. get_or order (get_or (visual_places order) j 0) 0) (sym at) ∙ ap (λ j. get_or order j 0) (there k within) ∙ at
