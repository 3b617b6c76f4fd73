-- what one step over strings does
use Rattle.std.proofs.Common.{◌≡◌, ℕ, suc, ◌<◌, ◌≤◌, ◌+◌, ◌-◌, true, false, nat_lt, List, length, slice_index, refl, arith}
use Rattle.std.proofs.lemmas.Bool.Decides.{nat_tests}
use Rattle.shape_font.specs.Names.{string_start}

pub string_start_next : (t : List ℕ) (k i at : ℕ) → i < k → at < length t
    → string_start t (k - i) at ≡ string_start t (k - (i + 1)) (at + (1 + slice_index t at))
string_start_next t k i at h inside =
    let e : k - i ≡ suc (k - (i + 1)) = omega arith in
    let there : nat_lt at (length t) ≡ true = grind (arith, nat_tests, inside) in
    rw e (rw (there, string_start) refl)

pub string_start_past : (t : List ℕ) (k i at : ℕ) → i < k → length t ≤ at → string_start t (k - i) at ≡ at
string_start_past t k i at h past =
    let e : k - i ≡ suc (k - (i + 1)) = omega arith in
    let none : nat_lt at (length t) ≡ false = grind (arith, nat_tests, past) in
    rw e (rw (none, string_start) refl)

pub string_start_end : (t : List ℕ) (k at : ℕ) → string_start t (k - k) at ≡ at
string_start_end t k at =
    let e : k - k ≡ 0 = omega arith in
    rw e refl
