-- where strings begin, one after the other
use Prim.Native.Nat.{zero}
use Rattle.std.proofs.Common.{◌≡◌, ℕ, suc, ◌<◌, ◌≤◌, ◌+◌, None, true, false, nat_lt, List, length, slice_index, refl, inl, inr, arith}
use Rattle.std.proofs.lemmas.Bool.{cases_lt}
use Rattle.std.proofs.lemmas.Bool.Decides.{nat_tests}
use Rattle.std.proofs.lemmas.List.{get_or_past}
use Rattle.shape_font.specs.Names.{string_start, string_at}

-- a string within the table has the next one behind its bytes
start_within : (t : List ℕ) (k at : ℕ) → at < length t → string_start t (suc k) at ≡ string_start t k (at + (1 + slice_index t at))
start_within t k at within =
    let there : nat_lt at (length t) ≡ true = grind (arith, nat_tests, within) in
    rw there refl

-- past the end no other string begins
start_past : (t : List ℕ) (k at : ℕ) → length t ≤ at → string_start t k at ≡ at
start_past t zero at past = refl
start_past t (suc k) at past =
    let none : nat_lt at (length t) ≡ false = grind (arith, nat_tests, past) in
    rw none refl

start_next : (t : List ℕ) (k at : ℕ) → string_start t k at < length t
    → string_start t (suc k) at ≡ string_start t k at + (1 + slice_index t (string_start t k at))
start_next t zero at within = start_within t 0 at within
start_next t (suc k) at within =
    elim (cases_lt at (length t)) [
      | inl there ↦
          let here = start_within t k at there in
          let next = start_within t (suc k) at there in
          let inner : string_start t k (at + (1 + slice_index t at)) < length t = grind (arith, here, within) in
          rw (next, here) (start_next t k (at + (1 + slice_index t at)) inner)
      | inr none ↦
          let here = start_past t (suc k) at none in
          absurd (omega (arith, here, within, none))
    ]

pub string_start_after : (t : List ℕ) (k at : ℕ) → string_start t k at < length t
    → string_start t (k + 1) at ≡ string_start t k at + (1 + slice_index t (string_start t k at))
string_start_after t k at within =
    let e : k + 1 ≡ suc k = omega arith in
    rw e (start_next t k at within)

-- from the first that begins past the end on, all do
pub string_start_stays : (t : List ℕ) (k m at : ℕ) → k ≤ m → length t ≤ string_start t k at → length t ≤ string_start t m at
string_start_stays t zero m at low past = let here = start_past t m at past in omega (arith, here, past)
string_start_stays t (suc k) zero at low past = absurd (omega (arith, low))
string_start_stays t (suc k) (suc m) at low past =
    elim (cases_lt at (length t)) [
      | inl there ↦
          let here = start_within t k at there in
          let later = start_within t m at there in
          let inner : length t ≤ string_start t k (at + (1 + slice_index t at)) = grind (arith, here, past) in
          rw later (string_start_stays t k m (at + (1 + slice_index t at)) (omega (arith, low)) inner)
      | inr none ↦ let here = start_past t (suc m) at none in omega (arith, here, none)
    ]

-- no string begins past the end
pub string_at_past : (t : List ℕ) (start : ℕ) → length t ≤ start → string_at t start ≡ None
string_at_past t start past =
    let empty : slice_index t start ≡ 0 = get_or_past t start 0 past in
    rw empty refl
