-- Glyphs of one cluster stand side by side if clusters are in order, so that one set of flags for neighbours is one for
-- all of them.
use Rattle.std.proofs.Common.{◌≡◌, ℕ, zero, suc, ◌+◌, ◌-◌, ◌<◌, ◌≤◌, Bool, true, false, inl, inr, List, [], ◌∷◌, length, get_or, nat_le, refl, ap, sym, ◌∙◌, arith}
use Rattle.std.proofs.lemmas.List.{get_or-map, length-map}
use Rattle.std.proofs.lemmas.Bool.{cases_Bool}
use Rattle.std.proofs.lemmas.Bool.Decides.{nat_tests}
use Rattle.shape_items.specs.ClusterOrder.{IsOrderedFor}
use Rattle.shape_items.specs.Clusters.{clusters}
use Rattle.shape_items.specs.Flags.{flags_of, HasOneSetOfFlags, ClustersHaveOneSetOfFlags}
use Rattle.shape_items.specs.Items.{Item}

-- the cluster of the item at a place
cluster-at : (xs : List Item) (k : ℕ) (d : Item) → k < length xs → get_or (clusters xs) k 0 ≡ (get_or xs k d).cluster
cluster-at xs k d within = get_or-map (λ (x : Item). x.cluster) xs k d 0 within

-- what stands between two glyphs of a cluster is of that cluster
between : (backward : Bool) (xs : List Item) → IsOrderedFor backward (clusters xs) → (i j m : ℕ) (d : Item) → i ≤ m → m ≤ j → j < length xs
    → (get_or xs i d).cluster ≡ (get_or xs j d).cluster → (get_or xs m d).cluster ≡ (get_or xs i d).cluster
between true xs ordered i j m d from to within same =
    let low = ordered i m 0 from (rw length-map (omega arith)) in
    let high = ordered m j 0 to (rw length-map within) in
    omega (arith, low, high, same, cluster-at xs i d (omega arith), cluster-at xs m d (omega arith), cluster-at xs j d within)
between false xs ordered i j m d from to within same =
    let low = ordered i m 0 from (rw length-map (omega arith)) in
    let high = ordered m j 0 to (rw length-map within) in
    omega (arith, low, high, same, cluster-at xs i d (omega arith), cluster-at xs m d (omega arith), cluster-at xs j d within)

-- neighbours in one cluster have the same flags
neighbours : (xs : List Item) → HasOneSetOfFlags xs → (i : ℕ) (d : Item) → suc i < length xs
    → (get_or xs i d).cluster ≡ (get_or xs (suc i) d).cluster
    → flags_of (get_or xs i d) ≡ flags_of (get_or xs (suc i) d)
neighbours [] one i d within same = absurd (omega arith)
neighbours (x ∷ []) one i d within same = absurd (omega arith)
neighbours (x ∷ y ∷ xs) one zero d within same = one.0 same
neighbours (x ∷ y ∷ xs) one (suc i) d within same = neighbours (y ∷ xs) one.1 i d (omega arith) same

-- and so have two of a cluster that stand n places apart
apart : (backward : Bool) (xs : List Item) → IsOrderedFor backward (clusters xs) → HasOneSetOfFlags xs → (i n j : ℕ) (d : Item)
    → j ≡ i + n → j < length xs
    → (get_or xs i d).cluster ≡ (get_or xs j d).cluster → flags_of (get_or xs i d) ≡ flags_of (get_or xs j d)
apart backward xs ordered one i zero j d at within same =
    let e : i ≡ j = omega (arith, at) in
    ap (λ k. flags_of (get_or xs k d)) e
apart backward xs ordered one i (suc n) j d at within same =
    let m = i + n in
    let next : suc m ≡ j = omega (arith, at) in
    let there = ap (λ k. get_or xs k d) next in
    let before : (get_or xs m d).cluster
    ≡ (get_or xs i d).cluster = between backward xs ordered i j m d (omega arith) (omega (arith, next)) within same in
    apart backward xs ordered one i n m d refl (omega (arith, next, within)) (sym before)
    ∙ neighbours xs one m d (omega (arith, next, within)) (before ∙ same ∙ sym (ap (λ (x : Item). x.cluster) there)) ∙ ap flags_of there

-- all items of one cluster have one set of flags
pub clusters_have_one_set : (backward : Bool) (xs : List Item) → IsOrderedFor backward (clusters xs) → HasOneSetOfFlags xs
    → ClustersHaveOneSetOfFlags xs
clusters_have_one_set backward xs ordered one = λ i j d first second same.
    elim (cases_Bool (nat_le i j)) [
      | inl below ↦
          let le : i ≤ j = grind (arith, nat_tests, below) in
          apart backward xs ordered one i (j - i) j d (omega (arith, le)) second same
      | inr above ↦
          let le : j ≤ i = grind (arith, nat_tests, above) in
          sym (apart backward xs ordered one j (i - j) i d (omega (arith, le)) first (sym same))
    ]
