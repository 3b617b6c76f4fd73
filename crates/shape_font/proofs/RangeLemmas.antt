-- among ranges in order, a search by midpoints finds what a walk finds
use Prim.Native.Nat.{zero}
use Rattle.std.proofs.Common.{◌≡◌, ℕ, suc, ◌<◌, ◌≤◌, ◌+◌, ◌-◌, ◌/◌, Bool, true, false, cond, Option, Some, None, nat_lt, nat_le, refl, sym, ap, subst, ◌∙◌, arith, if◌then◌else◌}
use Rattle.std.proofs.lemmas.Bool.Decides.{nat_tests}
use Rattle.std.specs.Option.{option_and_then}
use Rattle.std.specs.declared.cmp.Ordering.{Ordering}
use Rattle.std.specs.declared.cmp.Ordering.TheVariants.{Less, Equal, Greater}
use Rattle.shape_font.specs.Search.{first_at, side_of, side_from_end, found_in, found_by, walked, AreRangesInOrder}
use Rattle.shape_font.proofs.MidpointLemmas.{found_in-none, found_in-less, found_in-equal, found_in-greater}

-- ---- the walk

-- if none that passes is kept, nothing is found
kept_none : (keep : ℕ → Option ℕ) (p : ℕ → Bool) (n i : ℕ) → ((k : ℕ) → i ≤ k → k < i + n → p k ≡ true → keep k ≡ None)
    → option_and_then keep (first_at p n i) ≡ None
kept_none keep p zero i none = refl
kept_none keep p (suc n) i none =
    let P : Bool → Type 0 = λ t. p i ≡ t → option_and_then keep (cond t (Some i) (first_at p n (suc i))) ≡ None in
    let cases : P (p i) = elim (p i) as P [
      | true ↦ λ t. none i (omega arith) (omega arith) t
      | false ↦ λ t. kept_none keep p n (suc i) (λ k low high. none k (omega (arith, low)) (omega (arith, high)))
    ] in
    cases refl

-- the first that passes is found
passes : (p : ℕ → Bool) (n i k : ℕ) → i ≤ k → k < i + n → p k ≡ true → ((j : ℕ) → i ≤ j → j < k → p j ≡ false)
    → first_at p n i ≡ Some k
passes p zero i k low high there before = absurd (omega (arith, low, high))
passes p (suc n) i k low high there before =
    let P : Bool → Type 0 = λ t. p i ≡ t → cond t (Some i) (first_at p n (suc i)) ≡ Some k in
    let cases : P (p i) = elim (p i) as P [
      | true ↦ λ t. ap (λ m. Some m) (here t)
      | false ↦ λ t. passes p n (suc i) k (later t) (omega (arith, high)) there (λ j above below. before j (omega (arith, above)) below)
    ] in
    cases refl
  where
    true_is_false : {X : Type 0} → true ≡ false → X
    true_is_false e = absurd (grind (arith, nat_tests, e))

    here : p i ≡ true → i ≡ k
    here t =
        let Q : Bool → Type 0 = λ b. nat_lt i k ≡ b → i ≡ k in
        let cases : Q (nat_lt i k) = elim (nat_lt i k) as Q [
          | true ↦ λ b. true_is_false (sym t ∙ before i (omega arith) (grind (arith, nat_tests, b)))
          | false ↦ λ b. let h : k ≤ i = grind (arith, nat_tests, b) in omega (arith, low, h)
        ] in
        cases refl

    later : p i ≡ false → suc i ≤ k
    later t =
        let Q : Bool → Type 0 = λ b. nat_lt i k ≡ b → suc i ≤ k in
        let cases : Q (nat_lt i k) = elim (nat_lt i k) as Q [
          | true ↦ λ b. let h : i < k = grind (arith, nat_tests, b) in omega (arith, h)
          | false ↦ λ b.
              let h : k ≤ i = grind (arith, nat_tests, b) in
              let e : k ≡ i = omega (arith, low, h) in
              true_is_false (sym there ∙ ap p e ∙ t)
        ] in
        cases refl

walked-none : (start end : ℕ → ℕ) (count n : ℕ) → ((i : ℕ) → i < count → n ≤ end i → n < start i) → walked start end count n ≡ None
walked-none start end count n outside =
    kept_none (λ i. if nat_le (start i) n then Some i else None) (λ i. nat_le n (end i)) count 0
    (λ k low high t.
    let reached : n ≤ end k = grind (arith, nat_tests, t) in
    let past : n < start k = outside k (omega (arith, high)) reached in
    let no : nat_le (start k) n ≡ false = grind (arith, nat_tests, past) in
    rw no refl)

walked-some : (start end : ℕ → ℕ) (count n k : ℕ) → AreRangesInOrder start end count → k < count → start k ≤ n → n ≤ end k
    → walked start end count n ≡ Some k
walked-some start end count n k order high from to =
    let there : nat_le n (end k) ≡ true = grind (arith, nat_tests, to) in
    let first : first_at (λ i. nat_le n (end i)) count 0 ≡ Some k = passes (λ i. nat_le n (end i)) count 0 k (omega arith) (omega (arith, high)) there
    (λ j low below.
    let apart = order.apart j k below high in
    let h : end j < n = omega (arith, apart, from) in
    grind (arith, nat_tests, h)) in
    let kept : nat_le (start k) n ≡ true = grind (arith, nat_tests, from) in
    rw first (rw kept refl)

-- ---- the search

-- nothing is left: each range ends before the number or starts after it
left_none : (start end : ℕ → ℕ) (count c from to : ℕ) → to ≤ from → ((i : ℕ) → i < from → end i < c)
    → ((i : ℕ) → to ≤ i → i < count → c < start i) → walked start end count c ≡ None
left_none start end count c from to none low high =
    walked-none start end count c
    (λ i within reached.
    let P : Bool → Type 0 = λ t. nat_lt i from ≡ t → c < start i in
    let cases : P (nat_lt i from) = elim (nat_lt i from) as P [
      | true ↦ λ t.
          let below : i < from = grind (arith, nat_tests, t) in
          let h : end i < c = low i below in
          absurd (omega (arith, h, reached))
      | false ↦ λ t.
          let above : from ≤ i = grind (arith, nat_tests, t) in
          high i (omega (arith, above, none)) within
    ] in
    cases refl)

-- all ranges after one that starts after the number do
to_the_right : (start end : ℕ → ℕ) (count c : ℕ) → AreRangesInOrder start end count → (m : ℕ) → m < count → c < start m
    → (i : ℕ) → m ≤ i → i < count → c < start i
to_the_right start end count c order m inside first i above below =
    let R : Bool → Type 0 = λ t. nat_lt m i ≡ t → c < start i in
    let cases : R (nat_lt m i) = elim (nat_lt m i) as R [
      | true ↦ λ t.
          let h : m < i = grind (arith, nat_tests, t) in
          let whole = order.whole m inside in
          let apart = order.apart m i h below in
          omega (arith, first, whole, apart)
      | false ↦ λ t.
          let h : i ≤ m = grind (arith, nat_tests, t) in
          let e : m ≡ i = omega (arith, h, above) in
          subst (λ k. c < start k) e first
    ] in
    cases refl

-- all ranges before one that ends before the number do
to_the_left : (start end : ℕ → ℕ) (count c : ℕ) → AreRangesInOrder start end count → (m : ℕ) → m < count → end m < c
    → (i : ℕ) → i < m + 1 → end i < c
to_the_left start end count c order m inside last i below =
    let R : Bool → Type 0 = λ t. nat_lt i m ≡ t → end i < c in
    let cases : R (nat_lt i m) = elim (nat_lt i m) as R [
      | true ↦ λ t.
          let h : i < m = grind (arith, nat_tests, t) in
          let whole = order.whole m inside in
          let apart = order.apart i m h inside in
          omega (arith, last, whole, apart)
      | false ↦ λ t.
          let h : m ≤ i = grind (arith, nat_tests, t) in
          let e : m ≡ i = omega (arith, h, below) in
          subst (λ k. end k < c) e last
    ] in
    cases refl

answers : (side : ℕ → Ordering) (start end : ℕ → ℕ) (count c : ℕ) → AreRangesInOrder start end count
    → ((i : ℕ) → i < count → side i ≡ side_of c (start i) (end i)) → (n from to : ℕ) → to ≤ count
    → ((i : ℕ) → i < from → end i < c) → ((i : ℕ) → to ≤ i → i < count → c < start i) → to - from ≤ n
    → found_in side n from to ≡ walked start end count c
answers side start end count c order asks zero from to within low high few =
    found_in-none side zero from to (omega (arith, few)) ∙ sym (left_none start end count c from to (omega (arith, few)) low high)
answers side start end count c order asks (suc n) from to within low high few =
    let middle = from + (to - from - 1) / 2 in
    let P : Bool → Type 0 = λ t. nat_lt from to ≡ t → found_in side (suc n) from to ≡ walked start end count c in
    let cases : P (nat_lt from to) = elim (nat_lt from to) as P [
      | true ↦ λ t.
          let some : from < to = grind (arith, nat_tests, t) in
          let in_list : middle < count = omega (arith, some, within) in
          let Q : Bool → Type 0 = λ b. nat_lt c (start middle) ≡ b → found_in side (suc n) from to ≡ walked start end count c in
          let sides : Q (nat_lt c (start middle)) = elim (nat_lt c (start middle)) as Q [
            | true ↦ λ b.
                let s : side middle ≡ Less = asks middle in_list ∙ rw b refl in
                found_in-less side n from to middle some refl s
                ∙ answers side start end count c order asks n from middle (omega (arith, in_list)) low
                (to_the_right start end count c order middle in_list (grind (arith, nat_tests, b)))
                (omega (arith, few, some))
            | false ↦ λ b.
                let begun : start middle ≤ c = grind (arith, nat_tests, b) in
                let R : Bool → Type 0 = λ u. nat_lt (end middle) c ≡ u → found_in side (suc n) from to ≡ walked start end count c in
                let ends : R (nat_lt (end middle) c) = elim (nat_lt (end middle) c) as R [
                  | true ↦ λ u.
                      let s : side middle ≡ Greater = asks middle in_list ∙ rw b (rw u refl) in
                      let last : end middle < c = grind (arith, nat_tests, u) in
                      found_in-greater side n from to middle some refl s
                      ∙ answers side start end count c order asks n (middle + 1) to within
                      (to_the_left start end count c order middle in_list last) high (omega (arith, few, some))
                  | false ↦ λ u.
                      let s : side middle ≡ Equal = asks middle in_list ∙ rw b (rw u refl) in
                      let reached : c ≤ end middle = grind (arith, nat_tests, u) in
                      found_in-equal side n from to middle some refl s
                      ∙ sym (walked-some start end count c middle order in_list begun reached)
                ] in
                ends refl
          ] in
          sides refl
      | false ↦ λ t.
          let none : to ≤ from = grind (arith, nat_tests, t) in
          found_in-none side (suc n) from to none ∙ sym (left_none start end count c from to none low high)
    ] in
    cases refl

pub found_by-walked : (side : ℕ → Ordering) (start end : ℕ → ℕ) (count c : ℕ) → AreRangesInOrder start end count
    → ((i : ℕ) → i < count → side i ≡ side_of c (start i) (end i)) → found_by side count ≡ walked start end count c
found_by-walked side start end count c order asks =
    answers side start end count c order asks count 0 count (omega arith) (λ i below. absurd (omega (arith, below)))
    (λ i above below. absurd (omega (arith, above, below))) (omega arith)

-- for a range that doesn't end before it starts, it is the same which side decides first
pub side_from_end-whole : (n start end : ℕ) → start ≤ end → side_from_end n start end ≡ side_of n start end
side_from_end-whole n start end whole =
    let P : Bool → Type 0 = λ t. nat_lt end n ≡ t → side_from_end n start end ≡ side_of n start end in
    let cases : P (nat_lt end n) = elim (nat_lt end n) as P [
      | true ↦ λ t.
          let h : end < n = grind (arith, nat_tests, t) in
          let not_before : nat_lt n start ≡ false = grind (arith, nat_tests, h, whole) in
          rw t (rw not_before refl)
      | false ↦ λ t.
          let Q : Bool → Type 0 = λ b. nat_lt n start ≡ b → side_from_end n start end ≡ side_of n start end in
          let inner : Q (nat_lt n start) = elim (nat_lt n start) as Q [ true ↦ λ b. rw t (rw b refl) | false ↦ λ b. rw t (rw b refl) ] in
          inner refl
    ] in
    cases refl
