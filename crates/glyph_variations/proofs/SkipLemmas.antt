-- what is read of a run at once, and what isn't read at all
use Prim.Native.Nat.{zero}
use Rattle.std.proofs.Common.{◌≡◌, ◌<◌, ◌≤◌, ◌+◌, ◌-◌, ◌*◌, ℕ, suc, List, Bool, true, false, cond, refl, sym, ap, ap₂, ◌∙◌, arith}
use Rattle.std.specs.Prelude.{nat_eq, nat_le, slice_index, ◌%◌, ◌/◌}
use Rattle.std.specs.Float.{Float, binary32}
use Rattle.std.proofs.lemmas.Bool.Decides.{nat_tests}
use Rattle.std.proofs.Math.Nat.{mul-suc, mul-le-mul_right}
use lib.Ieee.{add}
use Rattle.font_bytes.specs.Bytes.{u16_of}
use Rattle.glyph_variations.specs.Numbers as numbers
use Rattle.glyph_variations.specs.Packed as packed
use Rattle.glyph_variations.specs.Sums.{scaled, read_step, listed_sum, begun}
use Rattle.glyph_variations.specs.Times.{times}
use Rattle.glyph_variations.specs.declared.numbers.PointNumbers.{PointNumbers}
use Rattle.glyph_variations.specs.declared.packed.PackedDeltas.{PackedDeltas}
use Rattle.glyph_variations.specs.declared.sums.Reading.{Reading}
use Rattle.glyph_variations.specs.declared.sums.TuplePoints.{TuplePoints}

pub not_chosen : {A : Type 0} (b : Bool) (x y : A) → b ≡ false → cond b x y ≡ y
not_chosen b x y e = rw e refl

pub times_inner : {A : Type 0} (step : A → A) (n : ℕ) (x : A) → step (times step n x) ≡ times step n (step x)
times_inner step zero x = refl
times_inner step (suc n) x = ap step (times_inner step n x)

pub times_add : {A : Type 0} (step : A → A) (n k : ℕ) (x : A) → times step (n + k) x ≡ times step n (times step k x)
times_add step zero k x =
    let e : zero + k ≡ k = omega arith in
    ap (λ m. times step m x) e
times_add step (suc n) k x =
    let e : suc n + k ≡ suc (n + k) = omega arith in
    ap (λ m. times step m x) e ∙ ap step (times_add step n k x)

-- ---- a point whose number is passed comes no more

run_number : (d : List ℕ) (s : PointNumbers) → (numbers.with_run d s).number ≡ s.number
run_number d s = tested (nat_eq s.left 0)
  where
    begun_here : PointNumbers
    begun_here = record { at = s.at + 1; left = slice_index d s.at % 128 + 1; wide = nat_le 128 (slice_index d s.at); number = s.number }

    tested : (b : Bool) → (cond b begun_here s).number ≡ s.number
    tested true = refl
    tested false = refl

more_number : (d : List ℕ) (s : PointNumbers) → s.number ≤ (numbers.with_number d s).number
more_number d s = tested s.wide
  where
    two : PointNumbers
    two = record s { at = s.at + 2; left = s.left - 1; number = s.number + u16_of d s.at }

    one : PointNumbers
    one = record s { at = s.at + 1; left = s.left - 1; number = s.number + slice_index d s.at }

    tested : (b : Bool) → s.number ≤ (cond b two one).number
    tested true = omega arith
    tested false = omega arith

number_grows : (d : List ℕ) (s : PointNumbers) → s.number ≤ (numbers.next_number d s).number
number_grows d s =
    let same = run_number d s in
    let more = more_number d (numbers.with_run d s) in
    omega (arith, same, more)

number_passed : (d : List ℕ) (point : ℕ) (scalar : Float) (n : ℕ) (r : Reading) → point < r.numbers.number
    → point < (times (read_step d point scalar) n r).numbers.number
number_passed d point scalar zero r h = h
number_passed d point scalar (suc n) r h =
    let before = number_passed d point scalar n r h in
    let more = number_grows d (times (read_step d point scalar) n r).numbers in
    omega (arith, before, more)

sum_stays : (d : List ℕ) (point : ℕ) (scalar : Float) (n : ℕ) (r : Reading) → point < r.numbers.number
    → (times (read_step d point scalar) n r).sum ≡ r.sum
sum_stays d point scalar zero r h = refl
sum_stays d point scalar (suc n) r h =
    let x = times (read_step d point scalar) n r in
    let after : point < (numbers.next_number d x.numbers).number = number_passed d point scalar (suc n) r h in
    let other : nat_eq (numbers.next_number d x.numbers).number point ≡ false = grind (arith, nat_tests) in
    not_chosen (nat_eq (numbers.next_number d x.numbers).number point)
    (add binary32 x.sum (scaled (packed.next_delta d x.deltas).value scalar)) x.sum other
    ∙ sum_stays d point scalar n r h

pub listed_early : (d : List ℕ) (p : TuplePoints) (at point : ℕ) (scalar : Float) (i : ℕ) (r : Reading) → i ≤ p.count
    → r ≡ times (read_step d point scalar) i (begun p.at at) → point < r.numbers.number → r.sum ≡ listed_sum d p at point scalar
listed_early d p at point scalar i r few is h =
    let step = read_step d point scalar in
    let e : (p.count - i) + i ≡ p.count = omega (arith, few) in
    sym (sum_stays d point scalar (p.count - i) r h)
    ∙ ap (λ (x : Reading). (times step (p.count - i) x).sum) is
    ∙ ap (λ (x : Reading). x.sum) (sym (times_add step (p.count - i) i (begun p.at at)))
    ∙ ap (λ (n : ℕ). (times step n (begun p.at at)).sum) e

-- ---- deltas of a run

begun_run : (t : List ℕ) (s : PackedDeltas) → 0 < s.left → packed.with_run t s ≡ s
begun_run t s h =
    let e : nat_eq s.left 0 ≡ false = grind (arith, nat_tests) in
    not_chosen (nat_eq s.left 0) (record { at = s.at + 1; left = slice_index t s.at % 64 + 1; kind = slice_index t s.at / 64; value = s.value }) s e

one_of_a_run : (t : List ℕ) (s : PackedDeltas) → 0 < s.left → packed.next_delta t s ≡ packed.with_value t s
one_of_a_run t s h = ap (packed.with_value t) (begun_run t s h)

-- the delta of the same run that stands at `a`
abbrev pub read_at : List ℕ → PackedDeltas → ℕ → ℕ → PackedDeltas
read_at t s left a = record { at = a + packed.size_of s.kind; left = left; kind = s.kind; value = packed.value_at t s.kind a }

after_many : (t : List ℕ) (k : ℕ) (s : PackedDeltas) → k < s.left
    → times (packed.next_delta t) (suc k) s ≡ read_at t s (s.left - suc k) (s.at + packed.size_of s.kind * k)
after_many t zero s h =
    let here : s.at ≡ s.at + packed.size_of s.kind * zero = omega arith in
    let left : s.left - 1 ≡ s.left - suc zero = omega arith in
    one_of_a_run t s (omega (arith, h)) ∙ ap₂ (λ l a. read_at t s l a) left here
after_many t (suc k) s h =
    let a = s.at + packed.size_of s.kind * k in
    let l = s.left - suc k in
    let more = mul-suc (packed.size_of s.kind) k in
    let there : a + packed.size_of s.kind ≡ s.at + packed.size_of s.kind * suc k = omega (arith, more) in
    let left : l - 1 ≡ s.left - suc (suc k) = omega arith in
    ap (packed.next_delta t) (after_many t k s (omega (arith, h)))
    ∙ one_of_a_run t (read_at t s l a) (omega (arith, h))
    ∙ ap₂ (λ l a. read_at t s l a) left there

pub of_a_run : (t : List ℕ) (count : ℕ) (s : PackedDeltas) → 0 < count → count ≤ s.left
    → read_at t s (s.left - count) (s.at + packed.size_of s.kind * (count - 1)) ≡ times (packed.next_delta t) count s
of_a_run t count s some few =
    let e : suc (count - 1) ≡ count = omega (arith, some) in
    ap (λ (n : ℕ). read_at t s (s.left - n) (s.at + packed.size_of s.kind * (count - 1))) (sym e)
    ∙ sym (after_many t (count - 1) s (omega (arith, some, few)))
    ∙ ap (λ (n : ℕ). times (packed.next_delta t) n s) e

-- a delta has at most four bytes
pub run_fits : (size n : ℕ) → size ≤ 4 → size * n ≤ 4 * n
run_fits size n h = mul-le-mul_right n h

run_has_some : (t : List ℕ) (s : PackedDeltas) → 0 < (packed.with_run t s).left
run_has_some t s = tested (nat_eq s.left 0) refl
  where
    begun_here : PackedDeltas
    begun_here = record { at = s.at + 1; left = slice_index t s.at % 64 + 1; kind = slice_index t s.at / 64; value = s.value }

    tested : (b : Bool) → nat_eq s.left 0 ≡ b → 0 < (cond b begun_here s).left
    tested true h = omega arith
    tested false h = grind (arith, nat_tests)

from_the_run : (t : List ℕ) (k : ℕ) (s : PackedDeltas) → times (packed.next_delta t) (suc k) (packed.with_run t s) ≡ times (packed.next_delta t) (suc k) s
from_the_run t k s =
    times_inner (packed.next_delta t) k (packed.with_run t s)
    ∙ ap (λ (x : PackedDeltas). times (packed.next_delta t) k (packed.with_value t x)) (begun_run t (packed.with_run t s) (run_has_some t s))
    ∙ sym (times_inner (packed.next_delta t) k s)

pub run_read : (t : List ℕ) (n k : ℕ) (s : PackedDeltas) → 0 < k → k ≤ n
    → times (packed.next_delta t) (n - k) (times (packed.next_delta t) k (packed.with_run t s)) ≡ times (packed.next_delta t) n s
run_read t n k s some few =
    let step = packed.next_delta t in
    let e : suc (k - 1) ≡ k = omega (arith, some) in
    let whole : (n - k) + k ≡ n = omega (arith, few) in
    ap (times step (n - k)) (ap (λ (m : ℕ). times step m (packed.with_run t s)) (sym e) ∙ from_the_run t (k - 1) s ∙ ap (λ (m : ℕ). times step m s) e)
    ∙ sym (times_add step (n - k) k s) ∙ ap (λ (m : ℕ). times step m s) whole
