-- a search by midpoints: how many steps are enough, and what it finds among ranges in order
use Prim.Native.Nat.{zero}
use Rattle.std.proofs.Common.{◌≡◌, ℕ, suc, ◌<◌, ◌≤◌, ◌+◌, ◌-◌, ◌/◌, Bool, true, false, Some, None, nat_lt, refl, sym, subst, ◌∙◌, arith}
use Rattle.std.proofs.lemmas.Bool.Decides.{nat_tests}
use Rattle.std.specs.declared.cmp.Ordering.{Ordering}
use Rattle.std.specs.declared.cmp.Ordering.TheVariants.{Less, Equal, Greater}
use Rattle.shape_font.specs.Search.{found_in}

-- ---- a step

pub found_in-none : (side : ℕ → Ordering) (n start end : ℕ) → end ≤ start → found_in side n start end ≡ None
found_in-none side zero start end h = refl
found_in-none side (suc n) start end h =
    let past : nat_lt start end ≡ false = grind (arith, nat_tests) in
    rw (past, found_in) refl

pub found_in-less : (side : ℕ → Ordering) (n start end middle : ℕ) → start < end → middle ≡ start + (end - start - 1) / 2
    → side middle ≡ Less → found_in side (suc n) start end ≡ found_in side n start middle
found_in-less side n start end middle h e s =
    let some : nat_lt start end ≡ true = grind (arith, nat_tests) in
    let there : side (start + (end - start - 1) / 2) ≡ Less = subst (λ m. side m ≡ Less) e s in
    rw e (rw (some, found_in) (rw (there, found_in) refl))

pub found_in-equal : (side : ℕ → Ordering) (n start end middle : ℕ) → start < end → middle ≡ start + (end - start - 1) / 2
    → side middle ≡ Equal → found_in side (suc n) start end ≡ Some middle
found_in-equal side n start end middle h e s =
    let some : nat_lt start end ≡ true = grind (arith, nat_tests) in
    let there : side (start + (end - start - 1) / 2) ≡ Equal = subst (λ m. side m ≡ Equal) e s in
    rw e (rw (some, found_in) (rw (there, found_in) refl))

pub found_in-greater : (side : ℕ → Ordering) (n start end middle : ℕ) → start < end → middle ≡ start + (end - start - 1) / 2
    → side middle ≡ Greater → found_in side (suc n) start end ≡ found_in side n (middle + 1) end
found_in-greater side n start end middle h e s =
    let some : nat_lt start end ≡ true = grind (arith, nat_tests) in
    let there : side (start + (end - start - 1) / 2) ≡ Greater = subst (λ m. side m ≡ Greater) e s in
    rw e (rw (some, found_in) (rw (there, found_in) refl))

-- ---- as many steps as places are enough

pub enough : (side : ℕ → Ordering) (n m start end : ℕ) → end - start ≤ n → end - start ≤ m
    → found_in side n start end ≡ found_in side m start end
enough side zero m start end few less = sym (found_in-none side m start end (omega (arith, few)))
enough side (suc n) zero start end few less = found_in-none side (suc n) start end (omega (arith, less))
enough side (suc n) (suc m) start end few less =
    let middle = start + (end - start - 1) / 2 in
    let P : Bool → Type 0 = λ t. nat_lt start end ≡ t → found_in side (suc n) start end ≡ found_in side (suc m) start end in
    let cases : P (nat_lt start end) = elim (nat_lt start end) as P [
      | true ↦ λ t.
          let some : start < end = grind (arith, nat_tests, t) in
          let Q : Ordering → Type 0 = λ o. side middle ≡ o → found_in side (suc n) start end ≡ found_in side (suc m) start end in
          let sides : Q (side middle) = elim (side middle) as Q [
            | Less ↦ λ s. found_in-less side n start end middle some refl s
                ∙ enough side n m start middle (omega (arith, few, some)) (omega (arith, less, some))
                ∙ sym (found_in-less side m start end middle some refl s)
            | Equal ↦ λ s. found_in-equal side n start end middle some refl s ∙ sym (found_in-equal side m start end middle some refl s)
            | Greater ↦ λ s. found_in-greater side n start end middle some refl s
                ∙ enough side n m (middle + 1) end (omega (arith, few, some)) (omega (arith, less, some))
                ∙ sym (found_in-greater side m start end middle some refl s)
          ] in
          sides refl
      | false ↦ λ t.
          let none : end ≤ start = grind (arith, nat_tests, t) in
          found_in-none side (suc n) start end none ∙ sym (found_in-none side (suc m) start end none)
    ] in
    cases refl

-- one step in a loop: the places left are as many as the steps

pub step_less : (side : ℕ → Ordering) (start end middle : ℕ) → start < end → middle ≡ start + (end - start - 1) / 2
    → side middle ≡ Less → found_in side (end - start) start end ≡ found_in side (middle - start) start middle
step_less side start end middle h e s =
    enough side (end - start) (suc (end - start)) start end (omega arith) (omega arith)
    ∙ found_in-less side (end - start) start end middle h e s
    ∙ enough side (end - start) (middle - start) start middle (omega (arith, e, h)) (omega arith)

pub step_equal : (side : ℕ → Ordering) (start end middle : ℕ) → start < end → middle ≡ start + (end - start - 1) / 2
    → side middle ≡ Equal → found_in side (end - start) start end ≡ Some middle
step_equal side start end middle h e s =
    enough side (end - start) (suc (end - start)) start end (omega arith) (omega arith)
    ∙ found_in-equal side (end - start) start end middle h e s

pub step_greater : (side : ℕ → Ordering) (start end middle : ℕ) → start < end → middle ≡ start + (end - start - 1) / 2
    → side middle ≡ Greater → found_in side (end - start) start end ≡ found_in side (end - (middle + 1)) (middle + 1) end
step_greater side start end middle h e s =
    enough side (end - start) (suc (end - start)) start end (omega arith) (omega arith)
    ∙ found_in-greater side (end - start) start end middle h e s
    ∙ enough side (end - start) (end - (middle + 1)) (middle + 1) end (omega (arith, e, h)) (omega arith)
