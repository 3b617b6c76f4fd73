-- what one step over a DICT does, and one over a real number
use Rattle.std.proofs.Common.{◌≡◌, ℕ, suc, ◌<◌, ◌≤◌, ◌+◌, ◌-◌, ◌/◌, ◌%◌, ◌≢◌, true, false, Some, None, nat_le, nat_eq, List, length, slice_index, refl, arith}
use Rattle.std.proofs.lemmas.Bool.Decides.{nat_tests}
use Rattle.cff_tables.specs.Dict.{dict_from, dict_step, real_end}
use Rattle.cff_tables.specs.declared.dict.Reading.{Reading}

pub dict_from_next : (d : List ℕ) (n i : ℕ) (r s : Reading) → i < n → r.at < length d → dict_step d r ≡ Some s
    → dict_from (n - i) d r ≡ dict_from (n - (i + 1)) d s
dict_from_next d n i r s h inside made =
    let e : n - i ≡ suc (n - (i + 1)) = omega arith in
    let no : nat_le (length d) r.at ≡ false = grind (arith, nat_tests, inside) in
    rw e (rw (no, dict_from) (rw made refl))

pub dict_from_refused : (d : List ℕ) (n i : ℕ) (r : Reading) → i < n → r.at < length d → dict_step d r ≡ None
    → dict_from (n - i) d r ≡ None
dict_from_refused d n i r h inside made =
    let e : n - i ≡ suc (n - (i + 1)) = omega arith in
    let no : nat_le (length d) r.at ≡ false = grind (arith, nat_tests, inside) in
    rw e (rw (no, dict_from) (rw made refl))

pub dict_from_done : (d : List ℕ) (n i : ℕ) (r : Reading) → i < n → length d ≤ r.at → dict_from (n - i) d r ≡ Some r.values
dict_from_done d n i r h past =
    let e : n - i ≡ suc (n - (i + 1)) = omega arith in
    let yes : nat_le (length d) r.at ≡ true = grind (arith, nat_tests, past) in
    rw e (rw (yes, dict_from) refl)

pub dict_from_over : (d : List ℕ) (n : ℕ) (r : Reading) → dict_from (n - n) d r ≡ Some r.values
dict_from_over d n r =
    let e : n - n ≡ 0 = omega arith in
    rw e refl

pub real_end_next : (d : List ℕ) (n i at : ℕ) → i < n → at < length d
    → slice_index d at / 16 ≢ 13 → slice_index d at / 16 ≢ 15 → slice_index d at % 16 ≢ 13 → slice_index d at % 16 ≢ 15
    → real_end (n - i) d at ≡ real_end (n - (i + 1)) d (at + 1)
real_end_next d n i at h inside a b c e4 =
    let e : n - i ≡ suc (n - (i + 1)) = omega arith in
    let t0 : nat_le (length d) at ≡ false = grind (arith, nat_tests, inside) in
    let t1 : nat_eq (slice_index d at / 16) 13 ≡ false = grind (arith, nat_tests, a) in
    let t2 : nat_eq (slice_index d at / 16) 15 ≡ false = grind (arith, nat_tests, b) in
    let t3 : nat_eq (slice_index d at % 16) 13 ≡ false = grind (arith, nat_tests, c) in
    let t4 : nat_eq (slice_index d at % 16) 15 ≡ false = grind (arith, nat_tests, e4) in
    rw e (rw (t0, t1, t2, t3, t4, real_end) refl)

pub real_end_low : (d : List ℕ) (n i at : ℕ) → i < n → at < length d
    → slice_index d at / 16 ≢ 13 → slice_index d at / 16 ≢ 15 → slice_index d at % 16 ≡ 15
    → real_end (n - i) d at ≡ Some (at + 1)
real_end_low d n i at h inside a b c =
    let e : n - i ≡ suc (n - (i + 1)) = omega arith in
    let t0 : nat_le (length d) at ≡ false = grind (arith, nat_tests, inside) in
    let t1 : nat_eq (slice_index d at / 16) 13 ≡ false = grind (arith, nat_tests, a) in
    let t2 : nat_eq (slice_index d at / 16) 15 ≡ false = grind (arith, nat_tests, b) in
    let t3 : nat_eq (slice_index d at % 16) 13 ≡ false = grind (arith, nat_tests, c) in
    let t4 : nat_eq (slice_index d at % 16) 15 ≡ true = grind (arith, nat_tests, c) in
    rw e (rw (t0, t1, t2, t3, t4, real_end) refl)

-- it ends here, and more steps change nothing
pub real_end_here : (d : List ℕ) (n i at : ℕ) → i < n → real_end (n - i) d at ≡ real_end (suc (n - (i + 1))) d at
real_end_here d n i at h =
    let e : n - i ≡ suc (n - (i + 1)) = omega arith in
    rw e refl

pub real_end_over : (d : List ℕ) (n at : ℕ) → real_end (n - n) d at ≡ None
real_end_over d n at =
    let e : n - n ≡ 0 = omega arith in
    rw e refl
