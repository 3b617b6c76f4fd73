-- what one step of a walk or of a search does, and what a search by halves finds
use Prim.Native.Nat.{zero}
use Rattle.std.proofs.Common.{◌≡◌, ℕ, suc, ◌<◌, ◌≤◌, ◌+◌, ◌-◌, ◌/◌, Bool, true, false, Some, None, nat_lt, refl, sym, ap, ◌∙◌, arith}
use Rattle.std.proofs.lemmas.Bool.Decides.{nat_tests}
use Rattle.std.specs.Option.{unwrap_or}
use Rattle.cff_tables.specs.Bytes.{first_at}
use Rattle.cff_tables.specs.Select.{halved}

pub first_at_next : (p : ℕ → Bool) (n i : ℕ) → i < n → p i ≡ false
    → first_at p (n - i) i ≡ first_at p (n - (i + 1)) (i + 1)
first_at_next p n i h f =
    let e : n - i ≡ suc (n - (i + 1)) = omega arith in
    let s : suc i ≡ i + 1 = omega arith in
    rw e (rw f (rw s refl))

pub first_at_found : (p : ℕ → Bool) (n i : ℕ) → i < n → p i ≡ true → first_at p (n - i) i ≡ Some i
first_at_found p n i h f =
    let e : n - i ≡ suc (n - (i + 1)) = omega arith in
    rw e (rw f refl)

pub first_at_end : (p : ℕ → Bool) (n : ℕ) → first_at p (n - n) n ≡ None
first_at_end p n =
    let e : n - n ≡ 0 = omega arith in
    rw e refl

-- ---- by halves

pub halved_none : (p : ℕ → Bool) (n from to : ℕ) → to ≤ from → halved p n from to ≡ to
halved_none p zero from to h = refl
halved_none p (suc n) from to h =
    let past : nat_lt from to ≡ false = grind (arith, nat_tests, h) in
    rw (past, halved) refl

next_below : (p : ℕ → Bool) (n from to : ℕ) → from < to → p (from + (to - from) / 2) ≡ true
    → halved p (suc n) from to ≡ halved p n from (from + (to - from) / 2)
next_below p n from to h t =
    let some : nat_lt from to ≡ true = grind (arith, nat_tests, h) in
    rw (some, halved) (rw t refl)

next_above : (p : ℕ → Bool) (n from to : ℕ) → from < to → p (from + (to - from) / 2) ≡ false
    → halved p (suc n) from to ≡ halved p n (from + (to - from) / 2 + 1) to
next_above p n from to h t =
    let some : nat_lt from to ≡ true = grind (arith, nat_tests, h) in
    rw (some, halved) (rw t refl)

-- as many steps as places are enough
enough : (p : ℕ → Bool) (n m from to : ℕ) → to - from ≤ n → to - from ≤ m → halved p n from to ≡ halved p m from to
enough p zero m from to few less = sym (halved_none p m from to (omega (arith, few)))
enough p (suc n) zero from to few less = halved_none p (suc n) from to (omega (arith, less))
enough p (suc n) (suc m) from to few less = by_order (λ f t a b. enough p n m f t a b) (nat_lt from to) refl
  where
    Rest : Type 0
    Rest = (f t : ℕ) → t - f ≤ n → t - f ≤ m → halved p n f t ≡ halved p m f t

    by_half : Rest → from < to → (t : Bool) → p (from + (to - from) / 2) ≡ t → halved p (suc n) from to ≡ halved p (suc m) from to
    by_half rest some true is = next_below p n from to some is
        ∙ rest from (from + (to - from) / 2) (omega (arith, few, some)) (omega (arith, less, some))
        ∙ sym (next_below p m from to some is)
    by_half rest some false is = next_above p n from to some is
        ∙ rest (from + (to - from) / 2 + 1) to (omega (arith, few, some)) (omega (arith, less, some))
        ∙ sym (next_above p m from to some is)

    by_order : Rest → (t : Bool) → nat_lt from to ≡ t → halved p (suc n) from to ≡ halved p (suc m) from to
    by_order rest true t = by_half rest (grind (arith, nat_tests, t)) (p (from + (to - from) / 2)) refl
    by_order rest false t =
        let none : to ≤ from = grind (arith, nat_tests, t) in
        halved_none p (suc n) from to none ∙ sym (halved_none p (suc m) from to none)

-- one step in a loop: the places left are as many as the steps
pub halved_below : (p : ℕ → Bool) (from to : ℕ) → from < to → p (from + (to - from) / 2) ≡ true
    → halved p (to - from) from to ≡ halved p (from + (to - from) / 2 - from) from (from + (to - from) / 2)
halved_below p from to h t =
    enough p (to - from) (suc (to - from)) from to (omega arith) (omega arith)
    ∙ next_below p (to - from) from to h t
    ∙ enough p (to - from) (from + (to - from) / 2 - from) from (from + (to - from) / 2) (omega (arith, h)) (omega arith)

pub halved_above : (p : ℕ → Bool) (from to : ℕ) → from < to → p (from + (to - from) / 2) ≡ false
    → halved p (to - from) from to ≡ halved p (to - (from + (to - from) / 2 + 1)) (from + (to - from) / 2 + 1) to
halved_above p from to h t =
    enough p (to - from) (suc (to - from)) from to (omega arith) (omega arith)
    ∙ next_above p (to - from) from to h t
    ∙ enough p (to - from) (to - (from + (to - from) / 2 + 1)) (from + (to - from) / 2 + 1) to (omega (arith, h)) (omega arith)

-- ---- a walk and a search

-- a walk that a place ends is a walk up to there
cut : (p : ℕ → Bool) (n i k z : ℕ) → k < n → p (i + k) ≡ true → unwrap_or (first_at p n i) z ≡ unwrap_or (first_at p k i) (i + k)
cut p zero i k z h t = absurd (omega (arith, h))
cut p (suc n) i zero z h t =
    let e : i + 0 ≡ i = omega arith in
    let here : p i ≡ true = sym (ap p e) ∙ t in
    rw here (sym e)
cut p (suc n) i (suc k) z h t =
    let e : i + suc k ≡ suc i + k = omega arith in
    let there : p (suc i + k) ≡ true = ap p (sym e) ∙ t in
    let rest : unwrap_or (first_at p n (suc i)) z ≡ unwrap_or (first_at p k (suc i)) (i + suc k) =
    cut p n (suc i) k z (omega (arith, h)) there ∙ ap (λ m. unwrap_or (first_at p k (suc i)) m) (sym e) in
    by_first rest (p i) refl
  where
    by_first : unwrap_or (first_at p n (suc i)) z ≡ unwrap_or (first_at p k (suc i)) (i + suc k)
        → (b : Bool) → p i ≡ b → unwrap_or (first_at p (suc n) i) z ≡ unwrap_or (first_at p (suc k) i) (i + suc k)
    by_first rest true is = rw is refl
    by_first rest false is = rw is rest

-- a walk leaves out places that don't pass
skipped : (p : ℕ → Bool) (k n i : ℕ) → k ≤ n → ((j : ℕ) → i ≤ j → j < i + k → p j ≡ false)
    → first_at p n i ≡ first_at p (n - k) (i + k)
skipped p zero n i h none =
    let e : n - 0 ≡ n = omega arith in
    let f : i + 0 ≡ i = omega arith in
    rw e (rw f refl)
skipped p (suc k) zero i h none = absurd (omega (arith, h))
skipped p (suc k) (suc n) i h none =
    let here : p i ≡ false = none i (omega arith) (omega arith) in
    let e : suc n - suc k ≡ n - k = omega arith in
    let f : i + suc k ≡ suc i + k = omega arith in
    rw here (rw e (rw f (skipped p k n (suc i) (omega (arith, h)) (λ j low high. none j (omega (arith, low)) (omega (arith, high))))))

-- where all places up to the last after one that passes pass
pub halved_walked : (p : ℕ → Bool) (last : ℕ) → ((i j : ℕ) → i ≤ j → j < last → p i ≡ true → p j ≡ true) → (n from to : ℕ)
    → from ≤ to → to ≤ last → to - from ≤ n → halved p n from to ≡ unwrap_or (first_at p (to - from) from) to
halved_walked p last rises zero from to h inside few =
    let e : to - from ≡ 0 = omega (arith, few) in
    rw e refl
halved_walked p last rises (suc n) from to h inside few = by_order (λ f t a b d. halved_walked p last rises n f t a b d) (nat_lt from to) refl
  where
    Rest : Type 0
    Rest = (f t : ℕ) → f ≤ t → t ≤ last → t - f ≤ n → halved p n f t ≡ unwrap_or (first_at p (t - f) f) t

    below : (middle : ℕ) → from ≤ middle → middle < to → p middle ≡ true
        → unwrap_or (first_at p (middle - from) from) middle ≡ unwrap_or (first_at p (to - from) from) to
    below middle low high is =
        let e : from + (middle - from) ≡ middle = omega (arith, low) in
        sym (cut p (to - from) from (middle - from) to (omega (arith, low, high)) (ap p e ∙ is)
        ∙ ap (λ m. unwrap_or (first_at p (middle - from) from) m) e)

    before : (middle j : ℕ) → j ≤ middle → middle < last → p middle ≡ false → (b : Bool) → p j ≡ b → p j ≡ false
    before middle j low high is true t = absurd (grind (arith, nat_tests, sym (rises j middle low high t) ∙ is))
    before middle j low high is false t = t

    above : (middle : ℕ) → from ≤ middle → middle < to → p middle ≡ false
        → first_at p (to - (middle + 1)) (middle + 1) ≡ first_at p (to - from) from
    above middle low high is =
        let e : from + (middle + 1 - from) ≡ middle + 1 = omega (arith, low) in
        let f : to - from - (middle + 1 - from) ≡ to - (middle + 1) = omega (arith, low, high) in
        sym (skipped p (middle + 1 - from) (to - from) from (omega (arith, high))
        (λ j first end. before middle j (omega (arith, end, low)) (omega (arith, high, inside)) is (p j) refl)
        ∙ ap (λ m. first_at p m (from + (middle + 1 - from))) f ∙ ap (λ m. first_at p (to - (middle + 1)) m) e)

    by_half : Rest → from < to → (t : Bool) → p (from + (to - from) / 2) ≡ t → halved p (suc n) from to ≡ unwrap_or (first_at p (to - from) from) to
    by_half rest some true is = next_below p n from to some is
        ∙ rest from (from + (to - from) / 2) (omega arith) (omega (arith, some, inside)) (omega (arith, few, some))
        ∙ below (from + (to - from) / 2) (omega arith) (omega (arith, some)) is
    by_half rest some false is = next_above p n from to some is
        ∙ rest (from + (to - from) / 2 + 1) to (omega (arith, some)) inside (omega (arith, few, some))
        ∙ ap (λ m. unwrap_or m to) (above (from + (to - from) / 2) (omega arith) (omega (arith, some)) is)

    by_order : Rest → (t : Bool) → nat_lt from to ≡ t → halved p (suc n) from to ≡ unwrap_or (first_at p (to - from) from) to
    by_order rest true t = by_half rest (grind (arith, nat_tests, t)) (p (from + (to - from) / 2)) refl
    by_order rest false t =
        let none : to ≤ from = grind (arith, nat_tests, t) in
        let e : to - from ≡ 0 = omega (arith, none) in
        halved_none p (suc n) from to none ∙ rw e refl
