-- what one step among the records of `MVAR` does
use Rattle.std.proofs.Common.{◌≡◌, ℕ, suc, ◌<◌, ◌+◌, ◌-◌, ◌*◌, true, false, Some, None, List, nat_eq, refl, arith}
use Rattle.font_bytes.specs.Bytes.{u32_of}
use Rattle.font_variations.specs.Lines.{tagged_from}

pub tagged_next : (t : List ℕ) (tag size n i : ℕ) → i < n → nat_eq (u32_of t (12 + size * i)) tag ≡ false
    → tagged_from t tag size (n - i) i ≡ tagged_from t tag size (n - (i + 1)) (i + 1)
tagged_next t tag size n i h f =
    let e : n - i ≡ suc (n - (i + 1)) = omega arith in
    let s : suc i ≡ i + 1 = omega arith in
    rw e (rw f (rw s refl))

pub tagged_here : (t : List ℕ) (tag size n i : ℕ) → i < n → nat_eq (u32_of t (12 + size * i)) tag ≡ true
    → tagged_from t tag size (n - i) i ≡ Some i
tagged_here t tag size n i h f =
    let e : n - i ≡ suc (n - (i + 1)) = omega arith in
    rw e (rw f refl)

pub tagged_end : (t : List ℕ) (tag size n : ℕ) → tagged_from t tag size (n - n) n ≡ None
tagged_end t tag size n =
    let e : n - n ≡ 0 = omega arith in
    rw e refl
