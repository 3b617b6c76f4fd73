-- The tests of blocking agree: the greatest ccc always, and the last one if the marks rise.
use Rattle.std.proofs.Common.{◌≡◌, ℕ, ◌<◌, ◌≤◌, Bool, true, false, not, ◌==◌, ◌&&◌, ◌||◌, nat_lt, nat_le, max, cond, List, [], ◌∷◌, ◌++◌, Option, None, refl, sym, ap, subst, ◌∙◌, arith}
use Rattle.std.proofs.lemmas.Bool.Decides.{nat_tests}
use Rattle.std.specs.List.{AllByRecursion}
use Rattle.canonical_form.specs.Order.{IsOrdered}
use Rattle.canonical_form.specs.Recompose.{is_blocked, is_blocked_by_last, last_ccc, is_blocked_by_greatest, greatest_ccc, composed, recomposed_from, recomposed}
use Rattle.canonical_form.proofs.Lists.EveryLemmas.{push_all}
use Rattle.canonical_form.proofs.Recomposing.RecomposeLemmas.{by_steps, recomposed_from-some, recomposed_from-starter, recomposed_from-mark}

module _ {A : Type 0} (ccc : A → ℕ) where
  pub greatest_blocks : (ms : List A) (c : A) → AllByRecursion (λ m. 0 < ccc m) ms
      → is_blocked ccc ms c ≡ is_blocked_by_greatest ccc ms c
  greatest_blocks [] c marks = refl
  greatest_blocks (m ∷ []) c marks = let mark = marks.0 in grind (arith, nat_tests)
  greatest_blocks (m ∷ n ∷ ms) c marks =
      let mark = marks.0 in
      let rest = greatest_blocks (n ∷ ms) c marks.1 in
      ap (λ b. (ccc m == 0 || nat_le (ccc c) (ccc m)) || b) rest ∙ grind (arith, nat_tests)

  -- so one number is enough to know of them, 0 if there are none
  pub blocked_by_number : (ms : List A) (c : A) → AllByRecursion (λ m. 0 < ccc m) ms
      → is_blocked ccc ms c ≡ (nat_lt 0 (greatest_ccc ccc ms) && nat_le (ccc c) (greatest_ccc ccc ms))
  blocked_by_number [] c marks = refl
  blocked_by_number (m ∷ ms) c marks =
      let mark = marks.0 in
      greatest_blocks (m ∷ ms) c marks ∙ grind (arith, nat_tests)

  pub greatest_ccc-push : (ms : List A) (c : A) → greatest_ccc ccc (ms ++ c ∷ []) ≡ max (greatest_ccc ccc ms) (ccc c)
  greatest_ccc-push [] c = omega arith
  greatest_ccc-push (m ∷ ms) c = let rest = greatest_ccc-push ms c in omega arith

  -- marks whose ccc do not fall
  abbrev pub MarksRise : List A → Type 0
  MarksRise [] = Unit {0}
  MarksRise (m ∷ []) = 0 < ccc m
  MarksRise (m ∷ n ∷ ms) = (0 < ccc m) × (ccc m ≤ ccc n) × MarksRise (n ∷ ms)

  first_le_last : (m : A) (ms : List A) → MarksRise (m ∷ ms) → (0 < ccc m) × (ccc m ≤ last_ccc ccc (m ∷ ms))
  first_le_last m [] h = (h, omega arith)
  first_le_last m (n ∷ ms) h = let rest = first_le_last n ms h.2 in (h.0, omega (arith, h.1))

  pub last_blocks : (ms : List A) (c : A) → MarksRise ms → is_blocked ccc ms c ≡ is_blocked_by_last ccc ms c
  last_blocks [] c rise = refl
  last_blocks (m ∷ []) c rise = grind (arith, nat_tests)
  last_blocks (m ∷ n ∷ ms) c rise =
      let mark = rise.0 in
      let below = rise.1 in
      let last = first_le_last n ms rise.2 in
      ap (λ b. (ccc m == 0 || nat_le (ccc c) (ccc m)) || b) (last_blocks (n ∷ ms) c rise.2) ∙ grind (arith, nat_tests)

-- recomposing by two tests that agree wherever an invariant of the marks and the rest holds
module _ {A : Type 0} (ccc : A → ℕ) (is_mark : A → Bool) (compose : A → A → Option A) (blocks blocks' : List A → A → Bool)
    (I : List A → List A → Type 0) (agree : (ms : List A) (c : A) (rest : List A) → I ms (c ∷ rest) → blocks ms c ≡ blocks' ms c)
    (goes_on : (ms : List A) (c : A) (rest : List A) → I ms (c ∷ rest) → blocks ms c ≡ false → I ms rest)
    (started : (ms : List A) (c : A) (rest : List A) → I ms (c ∷ rest) → (ccc c == 0) ≡ true → I [] rest)
    (passed : (ms : List A) (c : A) (rest : List A) → I ms (c ∷ rest) → (ccc c == 0) ≡ false → I (ms ++ c ∷ []) rest) where
  same_recomposed : (s : A) (ms rest : List A) → I ms rest
      → recomposed_from ccc blocks is_mark compose s ms rest ≡ recomposed_from ccc blocks' is_mark compose s ms rest
  same_recomposed =
      by_steps ccc blocks is_mark compose (λ s ms rest out. I ms rest → out ≡ recomposed_from ccc blocks' is_mark compose s ms rest)
      (record {
        ends = λ s ms h. refl;
        composes = λ s ms c d rest out found free made later h.
            later (goes_on ms c rest h free) ∙ sym (recomposed_from-some ccc blocks' is_mark compose s ms c rest d
            (other s ms c rest h ∙ found));
        starts = λ s ms c rest out none start later h.
            ap (λ l. s ∷ ms ++ l) (later (started ms c rest h start))
            ∙ sym (recomposed_from-starter ccc blocks' is_mark compose s ms c rest (other s ms c rest h ∙ none) start);
        passes = λ s ms c rest out none mark later h.
            later (passed ms c rest h mark) ∙ sym (recomposed_from-mark ccc blocks' is_mark compose s ms c rest
            (other s ms c rest h ∙ none) mark);
      })
    where
      other : (s : A) (ms : List A) (c : A) (rest : List A) → I ms (c ∷ rest)
          → composed ccc blocks' is_mark compose s ms c ≡ composed ccc blocks is_mark compose s ms c
      other s ms c rest h = ap (λ b. cond (is_mark c && not b) (compose s c) None) (sym (agree ms c rest h))

module _ {A : Type 0} (ccc : A → ℕ) (is_mark : A → Bool) (compose : A → A → Option A) where
  push_marks : (ms : List A) (c : A) → AllByRecursion (λ m. 0 < ccc m) ms → (ccc c == 0) ≡ false
      → AllByRecursion (λ m. 0 < ccc m) (ms ++ c ∷ [])
  push_marks ms c marks mark = push_all (λ m. 0 < ccc m) ms c marks (grind (arith, nat_tests))

  -- for every list, the greatest ccc alone decides
  pub recomposed_by_greatest : (xs : List A)
      → recomposed ccc (is_blocked ccc) is_mark compose xs ≡ recomposed ccc (is_blocked_by_greatest ccc) is_mark compose xs
  recomposed_by_greatest [] = refl
  recomposed_by_greatest (x ∷ xs) =
      same_recomposed ccc is_mark compose (is_blocked ccc) (is_blocked_by_greatest ccc)
      (λ ms rest. AllByRecursion (λ m. 0 < ccc m) ms)
      (λ ms c rest marks. greatest_blocks ccc ms c marks) (λ ms c rest marks free. marks) (λ ms c rest marks start. tt)
      (λ ms c rest marks mark. push_marks ms c marks mark)
      x [] xs tt

  -- no ccc falls below n, nor below the ccc before it, except to 0
  abbrev RisesFrom : ℕ → List A → Type 0
  RisesFrom n [] = Unit {0}
  RisesFrom n (c ∷ rest) = (0 < ccc c → n ≤ ccc c) × RisesFrom (ccc c) rest

  RisesFrom-le : (n m : ℕ) (rest : List A) → n ≤ m → RisesFrom m rest → RisesFrom n rest
  RisesFrom-le n m [] le h = tt
  RisesFrom-le n m (c ∷ rest) le h = (λ mark. let up = h.0 mark in omega arith, h.1)

  RisesFrom-ordered : (c : A) (rest : List A) → IsOrdered ccc (c ∷ rest) → RisesFrom (ccc c) rest
  RisesFrom-ordered c [] h = tt
  RisesFrom-ordered c (d ∷ rest) h = (h.0, RisesFrom-ordered d rest h.1)

  MarksRise-push : (ms : List A) (c : A) → MarksRise ccc ms → 0 < ccc c → last_ccc ccc ms ≤ ccc c → MarksRise ccc (ms ++ c ∷ [])
  MarksRise-push [] c rise mark above = mark
  MarksRise-push (m ∷ []) c rise mark above = (rise, above, mark)
  MarksRise-push (m ∷ n ∷ ms) c rise mark above = (rise.0, rise.1, MarksRise-push (n ∷ ms) c rise.2 mark above)

  last_ccc-push : (ms : List A) (c : A) → last_ccc ccc (ms ++ c ∷ []) ≡ ccc c
  last_ccc-push [] c = refl
  last_ccc-push (m ∷ []) c = refl
  last_ccc-push (m ∷ n ∷ ms) c = last_ccc-push (n ∷ ms) c

  last_below : (ms : List A) (c : A) → is_blocked_by_last ccc ms c ≡ false → last_ccc ccc ms ≤ ccc c
  last_below [] c h = omega arith
  last_below (m ∷ ms) c h = grind (arith, nat_tests)

  -- for an ordered list, the ccc that was emitted last alone decides
  pub recomposed_by_last : (xs : List A) → IsOrdered ccc xs
      → recomposed ccc (is_blocked ccc) is_mark compose xs ≡ recomposed ccc (is_blocked_by_last ccc) is_mark compose xs
  recomposed_by_last [] up = refl
  recomposed_by_last (x ∷ xs) up =
      same_recomposed ccc is_mark compose (is_blocked ccc) (is_blocked_by_last ccc)
      (λ ms rest. MarksRise ccc ms × RisesFrom (last_ccc ccc ms) rest)
      (λ ms c rest h. last_blocks ccc ms c h.0)
      (λ ms c rest h free. (
        h.0,
        RisesFrom-le (last_ccc ccc ms) (ccc c) rest
            (last_below ms c (sym (last_blocks ccc ms c h.0) ∙ free)) h.1.1,
      ))
      (λ ms c rest h start. (tt, RisesFrom-le 0 (ccc c) rest (omega arith) h.1.1))
      (λ ms c rest h mark.
      let nonzero : 0 < ccc c = grind (arith, nat_tests) in
      (MarksRise-push ms c h.0 nonzero (h.1.0 nonzero), subst (λ n. RisesFrom n rest) (sym (last_ccc-push ms c)) h.1.1))
      x [] xs (tt, RisesFrom-le 0 (ccc x) xs (omega arith) (RisesFrom-ordered x xs up))
