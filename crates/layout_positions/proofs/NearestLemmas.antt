-- a search backwards finds the nearest place that passes, also one that goes on from an earlier one
use Prim.Native.Nat.{zero}
use Rattle.std.proofs.Common.{◌≡◌, ℕ, suc, ◌<◌, ◌≤◌, ◌+◌, ◌-◌, Bool, true, false, Option, Some, None, nat_lt, cond, refl, sym, ap, ◌∙◌, arith, inl, inr, if◌then◌else◌}
use Rattle.std.specs.Prelude.{unwrap_or}
use Rattle.std.specs.Option.{option_map, option_or}
use Rattle.std.proofs.lemmas.Bool.{cases_order, cases_lt}
use Rattle.std.proofs.lemmas.Bool.Decides.{nat_tests}
use Rattle.shape_font.specs.Search.{first_at}
use Rattle.layout_positions.specs.NearestBase.{IsNearest, IsNearestOf}

-- ---- the first of `n` numbers from `i` on

record IsFirst (p : ℕ → Bool) (n i j : ℕ) : Type 0 where
  from : i ≤ j
  within : j < i + n
  passes : p j ≡ true
  none_before : (k : ℕ) → i ≤ k → k < j → p k ≡ false

first-here : (p : ℕ → Bool) (n i j : ℕ) → p i ≡ true → i ≡ j → IsFirst p (suc n) i j
first-here p n i j here same = record {
  from = omega (arith, same);
  within = omega (arith, same);
  passes = sym (ap p same) ∙ here;
  none_before = λ k low high. absurd (omega (arith, same, low, high));
}

first-later : (p : ℕ → Bool) (n i j : ℕ) → p i ≡ false → IsFirst p n (suc i) j → IsFirst p (suc n) i j
first-later p n i j here later =
    let from = later.from in
    let within = later.within in
    record {
      from = omega (arith, from);
      within = omega (arith, within);
      passes = later.passes;
      none_before = λ k low high. elim (cases_order k i) [
        | inl same ↦ ap p same ∙ here
        | inr (inl less) ↦ absurd (omega (arith, less, low))
        | inr (inr more) ↦ later.none_before k (omega (arith, more)) high
      ];
    }

first-step : (p : ℕ → Bool) (n i j : ℕ) (t : Bool) (x : Option ℕ) → p i ≡ t → (x ≡ Some j → IsFirst p n (suc i) j)
    → cond t (Some i) x ≡ Some j → IsFirst p (suc n) i j
first-step p n i j true x here rest is = first-here p n i j here (ap (λ (o : Option ℕ). unwrap_or o 0) is)
first-step p n i j false x here rest is = first-later p n i j here (rest is)

first-some : (p : ℕ → Bool) (n i j : ℕ) → first_at p n i ≡ Some j → IsFirst p n i j
first-some p zero i j is = absurd (let bad : ◌≡◌ {A = Option ℕ} None (Some j) = is in cc)
first-some p (suc n) i j is = first-step p n i j (p i) (first_at p n (suc i)) refl (first-some p n (suc i) j) is

none-step : (p : ℕ → Bool) (n i k : ℕ) (t : Bool) (x : Option ℕ) → p i ≡ t
    → (x ≡ None → suc i ≤ k → k < suc i + n → p k ≡ false) → cond t (Some i) x ≡ None → i ≤ k → k < i + suc n → p k ≡ false
none-step p n i k true x here rest none low high = absurd (let bad : ◌≡◌ {A = Option ℕ} (Some i) None = none in cc)
none-step p n i k false x here rest none low high = elim (cases_order k i) [
  | inl same ↦ ap p same ∙ here
  | inr (inl less) ↦ absurd (omega (arith, less, low))
  | inr (inr more) ↦ rest none (omega (arith, more)) (omega (arith, high))
]

first-none : (p : ℕ → Bool) (n i k : ℕ) → first_at p n i ≡ None → i ≤ k → k < i + n → p k ≡ false
first-none p zero i k none low high = absurd (omega (arith, low, high))
first-none p (suc n) i k none low high =
    none-step p n i k (p i) (first_at p n (suc i)) refl (first-none p n (suc i) k) none low high

-- ---- backwards from place `i`, not before place `until`

abbrev pub nearest_from : (ℕ → Bool) → ℕ → ℕ → Option ℕ
nearest_from p until i = option_map (λ d. i - 1 - d) (first_at (λ d. p (i - 1 - d)) (i - until) 0)

-- what the search tells of each place
abbrev IsNearestFrom : (ℕ → Bool) → ℕ → ℕ → Option ℕ → Type 0
IsNearestFrom p until i None = (k : ℕ) → until ≤ k → k < i → p k ≡ false
IsNearestFrom p until i (Some j) = (until ≤ j) × IsNearest p i j

back : (i d : ℕ) → d < i → i - 1 - (i - 1 - d) ≡ d
back i d less = omega (arith, less)

nearest-some : (p : ℕ → Bool) (until i d : ℕ) → IsFirst (λ e. p (i - 1 - e)) (i - until) 0 d → IsNearestFrom p until i (Some (i - 1 - d))
nearest-some p until i d first =
    let within = first.within in (
      omega (arith, within),
      record {
        before = omega (arith, within);
        passes = first.passes;
        none_between = λ k low high. ap p (sym (back i k high)) ∙ first.none_before (i - 1 - k) (omega arith) (omega (arith, low, high, within));
      },
    )

pub nearest-is : (p : ℕ → Bool) (until i : ℕ) → IsNearestFrom p until i (nearest_from p until i)
nearest-is p until i = by_first (first_at (λ d. p (i - 1 - d)) (i - until) 0) refl
  where
    by_first : (o : Option ℕ) → first_at (λ d. p (i - 1 - d)) (i - until) 0 ≡ o
        → IsNearestFrom p until i (option_map (λ d. i - 1 - d) o)
    by_first None is = λ k low high.
        ap p (sym (back i k high))
        ∙ first-none (λ d. p (i - 1 - d)) (i - until) 0 (i - 1 - k) is (omega arith) (omega (arith, low, high))
    by_first (Some d) is = nearest-some p until i d (first-some (λ e. p (i - 1 - e)) (i - until) 0 d is)

pub nearest-afresh : (p : ℕ → Bool) (i : ℕ) → IsNearestOf p i (nearest_from p 0 i)
nearest-afresh p i = by_place (nearest_from p 0 i) (nearest-is p 0 i)
  where
    by_place : (o : Option ℕ) → IsNearestFrom p 0 i o → IsNearestOf p i o
    by_place None none = λ k high. none k (omega arith) high
    by_place (Some j) some = some.1

-- ---- one that goes on from an earlier one

abbrev pub nearest_after : (ℕ → Bool) → ℕ → Option ℕ → ℕ → Option ℕ
nearest_after p until place i = if nat_lt i until then nearest_from p 0 i else option_or (nearest_from p until i) place

older : (p : ℕ → Bool) (until i : ℕ) (place : Option ℕ) → until ≤ i → ((k : ℕ) → until ≤ k → k < i → p k ≡ false)
    → IsNearestOf p until place → IsNearestOf p i place
older p until i None later none before = λ k high. elim (cases_lt k until) [
  | inl less ↦ before k less
  | inr more ↦ none k more high
]
older p until i (Some j) later none before =
    let earlier = before.before in
    record {
      before = omega (arith, earlier, later);
      passes = before.passes;
      none_between = λ k low high. elim (cases_lt k until) [
        | inl less ↦ before.none_between k low less
        | inr more ↦ none k more high
      ];
    }

pub nearest-kept : (p : ℕ → Bool) (until : ℕ) (place : Option ℕ) (i : ℕ) → IsNearestOf p until place
    → IsNearestOf p i (nearest_after p until place i)
nearest-kept p until place i before = by_order (nat_lt i until) refl
  where
    by_place : until ≤ i → (o : Option ℕ) → IsNearestFrom p until i o → IsNearestOf p i (option_or o place)
    by_place later None none = older p until i place later none before
    by_place later (Some j) some = some.1

    by_order : (t : Bool) → nat_lt i until ≡ t
        → IsNearestOf p i (if t then nearest_from p 0 i else option_or (nearest_from p until i) place)
    by_order true is = nearest-afresh p i
    by_order false is = by_place (grind (arith, nat_tests, is)) (nearest_from p until i) (nearest-is p until i)

-- ---- there is one

pub nearest-unique : (p : ℕ → Bool) (i : ℕ) (x y : Option ℕ) → IsNearestOf p i x → IsNearestOf p i y → x ≡ y
nearest-unique p i None None one other = refl
nearest-unique p i None (Some k) one other =
    absurd (let bad : false ≡ true = sym (one k other.before) ∙ other.passes in cc)
nearest-unique p i (Some j) None one other =
    absurd (let bad : false ≡ true = sym (other j one.before) ∙ one.passes in cc)
nearest-unique p i (Some j) (Some k) one other = elim (cases_order j k) [
  | inl same ↦ ap (λ n. Some n) same
  | inr (inl less) ↦ absurd (let bad : false ≡ true = sym (one.none_between k less other.before) ∙ other.passes in cc)
  | inr (inr more) ↦ absurd (let bad : false ≡ true = sym (other.none_between j more one.before) ∙ one.passes in cc)
]
