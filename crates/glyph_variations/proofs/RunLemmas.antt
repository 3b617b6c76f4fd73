-- where runs of point numbers end, whatever the numbers are
use Prim.Native.Nat.{zero}
use Rattle.std.proofs.Common.{◌≡◌, ◌<◌, ◌≤◌, ◌+◌, ◌-◌, ◌*◌, ℕ, suc, List, Bool, true, false, cond, refl, sym, ap, ◌∙◌, subst, arith}
use Rattle.std.specs.Prelude.{nat_eq, nat_le, min, slice_index, ◌%◌}
use Rattle.std.proofs.lemmas.Bool.Decides.{nat_tests}
use Rattle.std.proofs.Math.Nat.{mul-suc, le-min, min-eq_left, min-eq_right, min-le_left, min-le_right}
use mathlib.Core.Bool.{true≢false}
use Rattle.font_bytes.specs.Bytes.{u16_of}
use Rattle.glyph_variations.specs.Numbers as numbers
use Rattle.glyph_variations.specs.Times.{times}
use Rattle.glyph_variations.specs.declared.numbers.PointNumbers.{PointNumbers}
use Rattle.glyph_variations.proofs.SkipLemmas.{not_chosen, times_add, times_inner}

abbrev pub end_from : List ℕ → ℕ → ℕ → ℕ
end_from d n at = (times (numbers.next_number d) n (numbers.begun at)).at

-- the number itself says nothing of what comes next
abbrev bare : PointNumbers → PointNumbers
bare s = record s { number = 0 }

abbrev begun_here : List ℕ → PointNumbers → PointNumbers
begun_here d s = record { at = s.at + 1; left = slice_index d s.at % 128 + 1; wide = nat_le 128 (slice_index d s.at); number = s.number }

bare_number : (d : List ℕ) (s : PointNumbers) → bare (numbers.with_number d s) ≡ bare (numbers.with_number d (bare s))
bare_number d s = tested s.wide
  where
    two : PointNumbers → PointNumbers
    two r = record r { at = r.at + 2; left = r.left - 1; number = r.number + u16_of d r.at }

    one : PointNumbers → PointNumbers
    one r = record r { at = r.at + 1; left = r.left - 1; number = r.number + slice_index d r.at }

    tested : (b : Bool) → bare (cond b (two s) (one s)) ≡ bare (cond b (two (bare s)) (one (bare s)))
    tested true = refl
    tested false = refl

bare_next : (d : List ℕ) (s : PointNumbers) → bare (numbers.next_number d s) ≡ bare (numbers.next_number d (bare s))
bare_next d s = bare_number d (numbers.with_run d s) ∙ ap (λ x. bare (numbers.with_number d x)) (tested (nat_eq s.left 0))
    ∙ sym (bare_number d (numbers.with_run d (bare s)))
  where
    tested : (b : Bool) → bare (cond b (begun_here d s) s) ≡ bare (cond b (begun_here d (bare s)) (bare s))
    tested true = refl
    tested false = refl

alike : (d : List ℕ) (n : ℕ) (x y : PointNumbers) → bare x ≡ bare y
    → bare (times (numbers.next_number d) n x) ≡ bare (times (numbers.next_number d) n y)
alike d zero x y e = e
alike d (suc n) x y e =
    bare_next d (times (numbers.next_number d) n x)
    ∙ ap (λ z. bare (numbers.next_number d z)) (alike d n x y e)
    ∙ sym (bare_next d (times (numbers.next_number d) n y))

-- at the end of a run the next one begins as the first does
at_the_end : (d : List ℕ) (n : ℕ) (s : PointNumbers) → s.left ≡ 0 → (times (numbers.next_number d) n s).at ≡ end_from d n s.at
at_the_end d zero s h = refl
at_the_end d (suc n) s h =
    ap (λ (x : PointNumbers). x.at) (times_inner (numbers.next_number d) n s)
    ∙ ap (λ (x : PointNumbers). x.at) (alike d n (numbers.next_number d s) (numbers.next_number d (numbers.begun s.at)) first)
    ∙ ap (λ (x : PointNumbers). x.at) (sym (times_inner (numbers.next_number d) n (numbers.begun s.at)))
  where
    tested : (b : Bool) → b ≡ true → bare (cond b (begun_here d s) s) ≡ bare (begun_here d (numbers.begun s.at))
    tested true e = refl
    tested false e = absurd (true≢false (sym e))

    first : bare (numbers.next_number d s) ≡ bare (numbers.next_number d (numbers.begun s.at))
    first = bare_number d (numbers.with_run d s)
        ∙ ap (λ x. bare (numbers.with_number d x)) (tested (nat_eq s.left 0) (grind (arith, nat_tests)))
        ∙ sym (bare_number d (numbers.with_run d (numbers.begun s.at)))

-- ---- so many numbers of one run

record IsPassed (s x : PointNumbers) (k : ℕ) : Type 0 where
  at : x.at ≡ s.at + numbers.size_of s.wide * k
  left : x.left ≡ s.left - k
  wide : x.wide ≡ s.wide

one_passed : (d : List ℕ) (s : PointNumbers) → 0 < s.left → IsPassed s (numbers.next_number d s) 1
one_passed d s h = subst (λ (x : PointNumbers). IsPassed s (numbers.with_number d x) 1) (sym begun) (tested s.wide refl)
  where
    begun : numbers.with_run d s ≡ s
    begun =
        let e : nat_eq s.left 0 ≡ false = grind (arith, nat_tests) in
        not_chosen (nat_eq s.left 0) (begun_here d s) s e

    two : PointNumbers
    two = record s { at = s.at + 2; left = s.left - 1; number = s.number + u16_of d s.at }

    one : PointNumbers
    one = record s { at = s.at + 1; left = s.left - 1; number = s.number + slice_index d s.at }

    tested : (b : Bool) → s.wide ≡ b → IsPassed s (cond b two one) 1
    tested true e = record { at = ap (λ w. s.at + numbers.size_of w * 1) (sym e); left = refl; wide = refl }
    tested false e = record { at = ap (λ w. s.at + numbers.size_of w * 1) (sym e); left = refl; wide = refl }

many_passed : (d : List ℕ) (k : ℕ) (s : PointNumbers) → k ≤ s.left → IsPassed s (times (numbers.next_number d) k s) k
many_passed d zero s h = record { at = omega arith; left = omega arith; wide = refl }
many_passed d (suc k) s h =
    let x = times (numbers.next_number d) k s in
    let before = many_passed d k s (omega (arith, h)) in
    let left = before.left in
    let here = one_passed d x (omega (arith, h, left)) in
    let there : (numbers.next_number d x).at ≡ x.at + numbers.size_of s.wide * 1 = here.at ∙ ap (λ w. x.at + numbers.size_of w * 1) before.wide in
    let at = before.at in
    let more = mul-suc (numbers.size_of s.wide) k in
    let less = here.left in
    record { at = omega (arith, there, at, more); left = omega (arith, less, left); wide = here.wide ∙ before.wide }

run_has_some : (d : List ℕ) (s : PointNumbers) → 0 < (numbers.with_run d s).left
run_has_some d s = tested (nat_eq s.left 0) refl
  where
    tested : (b : Bool) → nat_eq s.left 0 ≡ b → 0 < (cond b (begun_here d s) s).left
    tested true h = omega arith
    tested false h = grind (arith, nat_tests)

from_the_run : (d : List ℕ) (k : ℕ) (s : PointNumbers) → 0 < k
    → times (numbers.next_number d) k (numbers.with_run d s) ≡ times (numbers.next_number d) k s
from_the_run d zero s h = absurd (omega (arith, h))
from_the_run d (suc k) s h =
    let run = numbers.with_run d s in
    let e : nat_eq run.left 0 ≡ false = let some = run_has_some d s in grind (arith, nat_tests) in
    let begun : numbers.with_run d run ≡ run = not_chosen (nat_eq run.left 0) (begun_here d run) run e in
    times_inner (numbers.next_number d) k run
    ∙ ap (λ x. times (numbers.next_number d) k (numbers.with_number d x)) begun
    ∙ sym (times_inner (numbers.next_number d) k s)

-- the rest, behind all of a run, or behind all that are wanted
rest_after : (d : List ℕ) (n k : ℕ) (run x : PointNumbers) → k ≡ min n run.left → x.left ≡ run.left - k → (b : Bool) → nat_le run.left n ≡ b
    → (times (numbers.next_number d) (n - k) x).at ≡ end_from d (n - k) x.at
rest_after d n k run x e left true h =
    let all : min n run.left ≡ run.left = min-eq_right (grind (arith, nat_tests)) in
    at_the_end d (n - k) x (omega (arith, e, left, all))
rest_after d n k run x e left false h =
    let wanted : min n run.left ≡ n = min-eq_left (grind (arith, nat_tests)) in
    let none : n - k ≡ 0 = omega (arith, e, wanted) in
    ap (λ m. (times (numbers.next_number d) m x).at) none ∙ sym (ap (λ m. end_from d m x.at) none)

-- as many as there are in the run, or as are wanted
pub run_end : (d : List ℕ) (n k at : ℕ) → 0 < n → k ≡ min n (numbers.with_run d (numbers.begun at)).left
    → end_from d (n - k) ((numbers.with_run d (numbers.begun at)).at + numbers.size_of (numbers.with_run d (numbers.begun at)).wide * k) ≡ end_from d n at
run_end d n k at some e =
    let step = numbers.next_number d in
    let run = numbers.with_run d (numbers.begun at) in
    let x = times step k run in
    let few : min n run.left ≤ n = min-le_left n run.left in
    let within : min n run.left ≤ run.left = min-le_right n run.left in
    let left : 0 < run.left = run_has_some d (numbers.begun at) in
    let least : 1 ≤ min n run.left = le-min (omega (arith, some)) (omega (arith, left)) in
    let passed = many_passed d k run (omega (arith, e, within)) in
    let whole : (n - k) + k ≡ n = omega (arith, e, few) in
    sym (ap (end_from d (n - k)) passed.at)
    ∙ sym (rest_after d n k run x e passed.left (nat_le run.left n) refl)
    ∙ ap (λ y. (times step (n - k) y).at) (from_the_run d k (numbers.begun at) (omega (arith, e, least)))
    ∙ ap (λ (y : PointNumbers). y.at) (sym (times_add step (n - k) k (numbers.begun at)))
    ∙ ap (λ m. (times step m (numbers.begun at)).at) whole
