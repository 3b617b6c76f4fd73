-- Walks back over a list.
use Rattle.std.proofs.Common.{◌≡◌, ℕ, zero, suc, ◌-◌, ◌<◌, ◌≤◌, ◌&&◌, if◌then◌else◌, nat_lt, Bool, true, false, refl, ap, arith}
use Rattle.std.proofs.lemmas.Bool.Decides.{nat_tests}
use Rattle.indic_shaper.specs.Settling.Matras.{back_while}

-- one step back where the test holds
pub back_while-step : (goes : ℕ → Bool) (start i : ℕ) → start < i → goes i ≡ true → back_while goes start (i - 1) ≡ back_while goes start i
back_while-step goes start zero less holds = absurd (omega (arith, less))
back_while-step goes start (suc k) less holds =
    let test : nat_lt start (suc k) ≡ true = grind (arith, nat_tests, less) in
    let one : suc k - 1 ≡ k = omega arith in
    rw test (rw holds (ap (back_while goes start) one))

-- it ends at the start
pub back_while-start : (goes : ℕ → Bool) (start i : ℕ) → i ≤ start → back_while goes start i ≡ i
back_while-start goes start zero least = refl
back_while-start goes start (suc k) least = let test : nat_lt start (suc k) ≡ false = grind (arith, nat_tests, least) in rw test refl

-- and where the test fails
pub back_while-stop : (goes : ℕ → Bool) (start i : ℕ) → goes i ≡ false → back_while goes start i ≡ i
back_while-stop goes start zero fails = refl
back_while-stop goes start (suc k) fails = elim (nat_lt start (suc k))
    as (λ t. (if t && goes (suc k) then back_while goes start k else suc k) ≡ suc k) [
      | true ↦ rw fails refl
      | false ↦ refl
    ]
