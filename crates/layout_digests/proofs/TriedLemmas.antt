-- what so many subtables look at in vain, where none of them tries
use Prim.Native.Nat.{zero}
use Rattle.std.proofs.Common.{◌≡◌, ℕ, suc, ◌+◌, ◌≤◌, ◌<◌, min, max, refl, ap, ◌∙◌, arith}
use Rattle.layout_matching.specs.Tried.{untried, joined_reach, until_matched}
use Rattle.layout_matching.specs.declared.tried.Reach.{Reach}

-- nothing and nothing is nothing
twice : (at : ℕ) → joined_reach (untried at) (untried at) ≡ untried at
twice at =
    let low : min at at ≡ at = grind arith in
    let high : max at at ≡ at = grind arith in
    rw low (rw high refl)

pub until_untried_below : (f : ℕ → Reach) (at m : ℕ) → ((i : ℕ) → i < m → f i ≡ untried at) → (n i : ℕ) → n + i ≤ m
    → until_matched f n i (untried at) ≡ untried at
until_untried_below f at m each zero i within = refl
until_untried_below f at m each (suc n) i within =
    ap (λ r. until_matched f n (suc i) (joined_reach (untried at) r)) (each i (omega (arith, within)))
    ∙ ap (until_matched f n (suc i)) (twice at) ∙ until_untried_below f at m each n (suc i) (omega (arith, within))
