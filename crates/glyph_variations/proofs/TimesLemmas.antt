-- one more step
use Rattle.std.proofs.Common.{◌≡◌, ◌∙◌, ◌+◌, ℕ, suc, ap, arith}
use Rattle.std.specs.Float.{Float, binary64}
use lib.Ieee.{mul}
use Rattle.glyph_variations.specs.Times.{times, steps}
use Rattle.glyph_variations.specs.Tuples.{product_of}

pub times_step : {A : Type 0} (step : A → A) (n : ℕ) (x y : A) → y ≡ times step n x → step y ≡ times step (n + 1) x
times_step step n x y is =
    let e : n + 1 ≡ suc n = omega arith in
    rw e (ap step is)

pub steps_next : {A : Type 0} (step : ℕ → A → A) (n : ℕ) (x y : A) → y ≡ steps step n x → step n y ≡ steps step (n + 1) x
steps_next step n x y is =
    let e : n + 1 ≡ suc n = omega arith in
    rw e (ap (step n) is)

pub product_step : (part : ℕ → Float) (n : ℕ) (x : Float) → x ≡ product_of part n → mul binary64 x (part n) ≡ product_of part (n + 1)
product_step part n x is =
    let e : n + 1 ≡ suc n = omega arith in
    rw e (ap (λ y. mul binary64 y (part n)) is)
