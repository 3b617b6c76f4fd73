-- loops, step by step
use Prim.Native.Nat.{zero}
use Rattle.std.proofs.Common.{◌≡◌, ℕ, suc, ◌+◌, ◌-◌, ◌<◌, ◌≤◌, Bool, true, false, not, Option, Some, None, refl, sym, ap, ◌∙◌, arith}
use Rattle.std.specs.Option.{option_and_then}
use Rattle.layout_matching.specs.Loops.{times, steps, first_some, stopped, some_passes, each_passes}

pub not_true : (b : Bool) → b ≡ true → not b ≡ false
not_true b e = rw e refl

pub not_false : (b : Bool) → b ≡ false → not b ≡ true
not_false b e = rw e refl

-- one time more
pub times_next : {S : Type 0} (f : S → S) (i : ℕ) (s : S) → times f (i + 1) s ≡ f (times f i s)
times_next f i s =
    let e : i + 1 ≡ suc i = omega arith in
    rw e refl

pub times_step : {S : Type 0} (f : S → S) (i : ℕ) (first here there : S) → here ≡ times f i first → there ≡ f here
    → there ≡ times f (i + 1) first
times_step f i first here there before now = now ∙ ap f before ∙ sym (times_next f i first)

-- a step that changes nothing any more
pub times_still : {S : Type 0} (f : S → S) (n : ℕ) (s : S) → f s ≡ s → times f n s ≡ s
times_still f zero s still = refl
times_still f (suc n) s still = ap f (times_still f n s still) ∙ still

pub times_after : {S : Type 0} (f : S → S) (n i : ℕ) (s : S) → times f (n + i) s ≡ times f n (times f i s)
times_after f zero i s =
    let e : 0 + i ≡ i = omega arith in
    rw e refl
times_after f (suc n) i s =
    let e : suc n + i ≡ suc (n + i) = omega arith in
    rw e (ap f (times_after f n i s))

pub times_stays : {S : Type 0} (f : S → S) (n i : ℕ) (s here : S) → i ≤ n → here ≡ times f i s → f here ≡ here → times f n s ≡ here
times_stays f n i s here within is still =
    let e : n ≡ (n - i) + i = omega (arith, within) in
    ap (λ m. times f m s) e ∙ times_after f (n - i) i s ∙ ap (times f (n - i)) (sym is) ∙ times_still f (n - i) here still

-- one step more of those that may be missing
pub steps_next : {S : Type 0} (f : ℕ → S → Option S) (n k : ℕ) (s t : S) → k < n → f k s ≡ Some t
    → steps f (n - k) k s ≡ steps f (n - (k + 1)) (k + 1) t
steps_next f n k s t more is =
    let e : n - k ≡ suc (n - (k + 1)) = omega (arith, more) in
    let s' : suc k ≡ k + 1 = omega arith in
    rw e (rw is (rw s' refl))

pub steps_none : {S : Type 0} (f : ℕ → S → Option S) (n k : ℕ) (s : S) → k < n → f k s ≡ None → steps f (n - k) k s ≡ None
steps_none f n k s more is =
    let e : n - k ≡ suc (n - (k + 1)) = omega (arith, more) in
    rw e (rw is refl)

pub steps_end : {S : Type 0} (f : ℕ → S → Option S) (n k : ℕ) (s : S) → n ≤ k → steps f (n - k) k s ≡ Some s
steps_end f n k s over =
    let e : n - k ≡ 0 = omega (arith, over) in
    rw e refl

-- the last of them
then_last : {S : Type 0} (all most last : S → Option S) → ((t : S) → all t ≡ option_and_then last (most t)) → (o : Option S)
    → option_and_then all o ≡ option_and_then last (option_and_then most o)
then_last all most last same None = refl
then_last all most last same (Some t) = same t

some_stays : {S : Type 0} (o : Option S) → option_and_then (λ (t : S). Some t) o ≡ o
some_stays None = refl
some_stays (Some t) = refl

pub steps_last : {S : Type 0} (f : ℕ → S → Option S) (n k : ℕ) (s : S)
    → steps f (n + 1) k s ≡ option_and_then (f (k + n)) (steps f n k s)
steps_last f zero k s =
    let e : 0 + 1 ≡ suc 0 = omega arith in
    let same : k + 0 ≡ k = omega arith in
    ap (λ m. steps f m k s) e ∙ some_stays (f k s) ∙ sym (ap (λ j. f j s) same)
steps_last f (suc n) k s =
    let e : suc n + 1 ≡ suc (n + 1) = omega arith in
    let same : suc k + n ≡ k + suc n = omega arith in
    ap (λ m. steps f m k s) e ∙ then_last (steps f (n + 1) (suc k)) (steps f n (suc k)) (f (suc k + n)) (λ t. steps_last f n (suc k) t) (f k s)
    ∙ ap (λ j. option_and_then (f j) (option_and_then (steps f n (suc k)) (f k s))) same

-- the same by another name
then_same : {S : Type 0} (f g : S → Option S) → ((t : S) → f t ≡ g t) → (o : Option S) → option_and_then f o ≡ option_and_then g o
then_same f g same None = refl
then_same f g same (Some t) = same t

pub steps_same : {S : Type 0} (f g : ℕ → S → Option S) → ((k : ℕ) (s : S) → f k s ≡ g k s) → (n k : ℕ) (s : S)
    → steps f n k s ≡ steps g n k s
steps_same f g same zero k s = refl
steps_same f g same (suc n) k s =
    ap (option_and_then (steps f n (suc k))) (same k s)
    ∙ then_same (steps f n (suc k)) (steps g n (suc k)) (λ t. steps_same f g same n (suc k) t) (g k s)

-- the first that answers
pub first_some_next : {X : Type 0} (f : ℕ → Option X) (n i : ℕ) → i < n → f i ≡ None
    → first_some f (n - i) i ≡ first_some f (n - (i + 1)) (i + 1)
first_some_next f n i more is =
    let e : n - i ≡ suc (n - (i + 1)) = omega (arith, more) in
    let s : suc i ≡ i + 1 = omega arith in
    rw e (rw is (rw s refl))

pub first_some_found : {X : Type 0} (f : ℕ → Option X) (n i : ℕ) (x : X) → i < n → f i ≡ Some x → first_some f (n - i) i ≡ Some x
first_some_found f n i x more is =
    let e : n - i ≡ suc (n - (i + 1)) = omega (arith, more) in
    rw e (rw is refl)

pub first_some_end : {X : Type 0} (f : ℕ → Option X) (n i : ℕ) → n ≤ i → first_some f (n - i) i ≡ None
first_some_end f n i over =
    let e : n - i ≡ 0 = omega (arith, over) in
    rw e refl

-- past some that give nothing
first_some_past : {X : Type 0} (f : ℕ → Option X) (n i m : ℕ) → i + m ≤ n → ((k : ℕ) → i ≤ k → k < i + m → f k ≡ None)
    → first_some f (n - i) i ≡ first_some f (n - (i + m)) (i + m)
first_some_past f n i zero within none =
    let e : i ≡ i + 0 = omega arith in ap (λ j. first_some f (n - j) j) e
first_some_past f n i (suc m) within none =
    let e : i + m + 1 ≡ i + suc m = omega arith in
    first_some_past f n i m (omega (arith, within)) (λ k from below. none k from (omega (arith, below)))
    ∙ first_some_next f n (i + m) (omega (arith, within)) (none (i + m) (omega arith) (omega arith))
    ∙ ap (λ j. first_some f (n - j) j) e

pub first_some_to : {X : Type 0} (f : ℕ → Option X) (n i j : ℕ) → i ≤ j → j ≤ n → ((k : ℕ) → i ≤ k → k < j → f k ≡ None)
    → first_some f (n - i) i ≡ first_some f (n - j) j
first_some_to f n i j from within none =
    let e : i + (j - i) ≡ j = omega (arith, from) in
    first_some_past f n i (j - i) (omega (arith, e, within)) (λ k low below. none k low (omega (arith, below, e)))
    ∙ ap (λ k. first_some f (n - k) k) e

-- past some that change nothing
steps_past : {S : Type 0} (f : ℕ → S → Option S) (n i m : ℕ) (s : S) → i + m ≤ n → ((k : ℕ) → i ≤ k → k < i + m → f k s ≡ Some s)
    → steps f (n - i) i s ≡ steps f (n - (i + m)) (i + m) s
steps_past f n i zero s within still =
    let e : i ≡ i + 0 = omega arith in ap (λ j. steps f (n - j) j s) e
steps_past f n i (suc m) s within still =
    let e : i + m + 1 ≡ i + suc m = omega arith in
    steps_past f n i m s (omega (arith, within)) (λ k from below. still k from (omega (arith, below)))
    ∙ steps_next f n (i + m) s s (omega (arith, within)) (still (i + m) (omega arith) (omega arith))
    ∙ ap (λ j. steps f (n - j) j s) e

pub steps_to : {S : Type 0} (f : ℕ → S → Option S) (n i j : ℕ) (s : S) → i ≤ j → j ≤ n → ((k : ℕ) → i ≤ k → k < j → f k s ≡ Some s)
    → steps f (n - i) i s ≡ steps f (n - j) j s
steps_to f n i j s from within still =
    let e : i + (j - i) ≡ j = omega (arith, from) in
    steps_past f n i (j - i) s (omega (arith, e, within)) (λ k low below. still k low (omega (arith, below, e)))
    ∙ ap (λ k. steps f (n - k) k s) e

-- where steps stop
pub stopped_next : {S : Type 0} (f : ℕ → S → Option S) (at : ℕ → S → ℕ) (n k : ℕ) (s t : S) → k < n → f k s ≡ Some t
    → stopped f at (n - k) k s ≡ stopped f at (n - (k + 1)) (k + 1) t
stopped_next f at n k s t more is =
    let e : n - k ≡ suc (n - (k + 1)) = omega (arith, more) in
    let s' : suc k ≡ k + 1 = omega arith in
    rw e (rw is (rw s' refl))

pub stopped_none : {S : Type 0} (f : ℕ → S → Option S) (at : ℕ → S → ℕ) (n k : ℕ) (s : S) → k < n → f k s ≡ None
    → stopped f at (n - k) k s ≡ at k s
stopped_none f at n k s more is =
    let e : n - k ≡ suc (n - (k + 1)) = omega (arith, more) in
    rw e (rw is refl)

pub stopped_end : {S : Type 0} (f : ℕ → S → Option S) (at : ℕ → S → ℕ) (n k : ℕ) (s : S) → n ≤ k → stopped f at (n - k) k s ≡ 0
stopped_end f at n k s over =
    let e : n - k ≡ 0 = omega (arith, over) in
    rw e refl

-- one that passes
pub some_next : (p : ℕ → Bool) (n i : ℕ) → i < n → p i ≡ false → some_passes p (n - i) i ≡ some_passes p (n - (i + 1)) (i + 1)
some_next p n i more is =
    let e : n - i ≡ suc (n - (i + 1)) = omega (arith, more) in
    let s : suc i ≡ i + 1 = omega arith in
    rw e (rw is (rw s refl))

pub some_found : (p : ℕ → Bool) (n i : ℕ) → i < n → p i ≡ true → some_passes p (n - i) i ≡ true
some_found p n i more is =
    let e : n - i ≡ suc (n - (i + 1)) = omega (arith, more) in
    rw e (rw is refl)

pub some_end : (p : ℕ → Bool) (n i : ℕ) → n ≤ i → some_passes p (n - i) i ≡ false
some_end p n i over =
    let e : n - i ≡ 0 = omega (arith, over) in
    rw e refl

-- each of them
pub each_next : (p : ℕ → Bool) (n i : ℕ) → i < n → p i ≡ true → each_passes p (n - i) i ≡ each_passes p (n - (i + 1)) (i + 1)
each_next p n i more is =
    let e : n - i ≡ suc (n - (i + 1)) = omega (arith, more) in
    let s : suc i ≡ i + 1 = omega arith in
    rw e (rw is (rw s refl))

pub each_fails : (p : ℕ → Bool) (n i : ℕ) → i < n → p i ≡ false → each_passes p (n - i) i ≡ false
each_fails p n i more is =
    let e : n - i ≡ suc (n - (i + 1)) = omega (arith, more) in
    rw e (rw is refl)

pub each_end : (p : ℕ → Bool) (n i : ℕ) → n ≤ i → each_passes p (n - i) i ≡ true
each_end p n i over =
    let e : n - i ≡ 0 = omega (arith, over) in
    rw e refl
