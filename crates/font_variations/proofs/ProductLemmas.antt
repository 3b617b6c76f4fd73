-- what one step of a product and of a sum does
use Rattle.std.proofs.Common.{◌≡◌, ℕ, suc, ◌<◌, ◌+◌, ◌-◌, true, false, refl, arith}
use Rattle.std.specs.Float.{Float, binary32}
use lib.Ieee.{mul, add, eq}
use Rattle.font_variations.specs.Tents.{nothing}
use Rattle.font_variations.specs.Regions.{product_from}
use Rattle.font_variations.specs.Deltas.{sum_from}

pub product_next : (p : ℕ → Float) (n i : ℕ) (x : Float) → i < n → eq (p i) nothing ≡ false
    → product_from p (n - i) i x ≡ product_from p (n - (i + 1)) (i + 1) (mul binary32 x (p i))
product_next p n i x h f =
    let e : n - i ≡ suc (n - (i + 1)) = omega arith in
    let s : suc i ≡ i + 1 = omega arith in
    rw e (rw f (rw s refl))

pub product_none : (p : ℕ → Float) (n i : ℕ) (x : Float) → i < n → eq (p i) nothing ≡ true
    → product_from p (n - i) i x ≡ nothing
product_none p n i x h f =
    let e : n - i ≡ suc (n - (i + 1)) = omega arith in
    rw e (rw f refl)

pub product_end : (p : ℕ → Float) (n : ℕ) (x : Float) → product_from p (n - n) n x ≡ x
product_end p n x =
    let e : n - n ≡ 0 = omega arith in
    rw e refl

pub sum_next : (p : ℕ → Float) (n i : ℕ) (x : Float) → i < n
    → sum_from p (n - i) i x ≡ sum_from p (n - (i + 1)) (i + 1) (add binary32 x (p i))
sum_next p n i x h =
    let e : n - i ≡ suc (n - (i + 1)) = omega arith in
    let s : suc i ≡ i + 1 = omega arith in
    rw (e, sum_from) (rw s refl)

pub sum_end : (p : ℕ → Float) (n : ℕ) (x : Float) → sum_from p (n - n) n x ≡ x
sum_end p n x =
    let e : n - n ≡ 0 = omega arith in
    rw e refl
