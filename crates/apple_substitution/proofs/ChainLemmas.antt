-- Entries of features, one by one.
use Rattle.std.proofs.Common.{◌≡◌, ℕ, suc, ◌+◌, ◌-◌, ◌*◌, ◌<◌, ◌≤◌, List, sym, ap, ◌∙◌, arith}
use Rattle.apple_substitution.specs.Chains.{flags_after, flags_from}
use Rattle.apple_substitution.specs.Languages.{Spoken}
use Rattle.apple_substitution.specs.declared.chains.Feature.{Feature}

pub flags_next : (t : List ℕ) (l : Spoken) (features : List Feature) (first n i flags new end : ℕ) → i < n
    → flags_from t l features (first + 12 * i) (n - i) flags ≡ end → new ≡ flags_after t l features (first + 12 * i) flags
    → flags_from t l features (first + 12 * (i + 1)) (n - (i + 1)) new ≡ end
flags_next t l features first n i flags new end more before is =
    let e : n - i ≡ suc (n - (i + 1)) = omega (arith, more) in
    let at : first + 12 * (i + 1) ≡ first + 12 * i + 12 = omega arith in
    ap (λ k. flags_from t l features k (n - (i + 1)) new) at
    ∙ ap (flags_from t l features (first + 12 * i + 12) (n - (i + 1))) is
    ∙ sym (ap (λ k. flags_from t l features (first + 12 * i) k flags) e) ∙ before

pub flags_all : (t : List ℕ) (l : Spoken) (features : List Feature) (at n i flags end : ℕ)
    → flags_from t l features at (n - i) flags ≡ end → n ≤ i → flags ≡ end
flags_all t l features at n i flags end before over =
    let none : n - i ≡ 0 = omega (arith, over) in
    sym (ap (λ k. flags_from t l features at k flags) none) ∙ before
