-- Each lookup stands once in a stage, in order of the table.
use Rattle.std.proofs.Common.{◌≡◌, ℕ, zero, suc, ◌+◌, ◌<◌, ◌≤◌, List, [], ◌∷◌, length, true, false, subst, arith}
use Rattle.std.specs.Prelude.{nat_eq, slice_index, if◌then◌else◌}
use Rattle.std.specs.List.Sorted.{IsStrictlyIncreasing}
use Rattle.layout_map.specs.Lookups.{used_from, lookup_with}
use Rattle.layout_map.specs.Laws.{indexes}
use Rattle.layout_map.specs.declared.lookups.LookupUse.{LookupUse}
use Rattle.layout_map.specs.declared.lookups.LookupMap.{LookupMap}

-- the first of the lookups that are used from `i` on is `i` or a later one
first_from : (i : ℕ) (uses : List LookupUse) → 0 < length (indexes (used_from i uses)) → i ≤ slice_index (indexes (used_from i uses)) 0
first_from i [] some = absurd (omega (arith, some))
first_from i (u ∷ uses) some =
    let rest : List LookupMap = used_from (i + 1) uses in
    elim (nat_eq u.mask 0) as (λ b. 0 < length (indexes (if b then rest else lookup_with i u ∷ rest))
    → i ≤ slice_index (indexes (if b then rest else lookup_with i u ∷ rest)) 0) [
      | true ↦ λ h. omega (arith, first_from (i + 1) uses h)
      | false ↦ λ h. omega arith
    ] some

-- one more number before numbers that increase
increasing_cons : (n : ℕ) (ns : List ℕ) → (0 < length ns → n < slice_index ns 0) → IsStrictlyIncreasing ns → IsStrictlyIncreasing (n ∷ ns)
increasing_cons n ns first rest zero more = first (omega (arith, more))
increasing_cons n ns first rest (suc k) more =
    let next : suc (k + 1) ≡ suc k + 1 = omega arith in
    subst (λ m. slice_index ns k < slice_index (n ∷ ns) m) next (rest k (omega (arith, more)))

pub used_increase : (i : ℕ) (uses : List LookupUse) → IsStrictlyIncreasing (indexes (used_from i uses))
used_increase i [] = λ k more. absurd (omega (arith, more))
used_increase i (u ∷ uses) =
    let rest : List LookupMap = used_from (i + 1) uses in
    let later : IsStrictlyIncreasing (indexes rest) = used_increase (i + 1) uses in
    elim (nat_eq u.mask 0) as (λ b. IsStrictlyIncreasing (indexes (if b then rest else lookup_with i u ∷ rest))) [
      | true ↦ later
      | false ↦ increasing_cons i (indexes rest) (λ some. omega (arith, first_from (i + 1) uses some)) later
    ]
