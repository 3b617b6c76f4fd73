-- The lookups of a feature, one by one.
use Rattle.std.proofs.Common.{◌≡◌, ℕ, suc, ◌+◌, ◌-◌, ◌<◌, List, refl, ap, ◌∙◌, arith}
use Rattle.layout_tables.specs.Features.{feature_lookup_of}
use Rattle.layout_map.specs.Lookups.{with_use, each_used}
use Rattle.layout_map.specs.declared.lookups.LookupUse.{LookupUse}

pub each_next : (t : List ℕ) (new : LookupUse) (feature n j : ℕ) (uses : List LookupUse) → j < n
    → each_used t new feature (n - j) j uses
    ≡ each_used t new feature (n - (j + 1)) (j + 1) (with_use new uses (feature_lookup_of t feature j))
each_next t new feature n j uses more =
    let e : n - j ≡ suc (n - (j + 1)) = omega (arith, more) in
    let s : suc j ≡ j + 1 = omega arith in
    ap (λ m. each_used t new feature m j uses) e
    ∙ ap (λ k. each_used t new feature (n - (j + 1)) k (with_use new uses (feature_lookup_of t feature j))) s

pub each_end : (t : List ℕ) (new : LookupUse) (feature n : ℕ) (uses : List LookupUse) → each_used t new feature (n - n) n uses ≡ uses
each_end t new feature n uses =
    let e : n - n ≡ 0 = omega arith in
    rw e refl
