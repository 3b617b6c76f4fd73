-- Items that join the least cluster ahead: place by place, and what becomes of their clusters and flags.
use Rattle.std.proofs.Common.{◌≡◌, ℕ, zero, suc, ◌<◌, ◌≤◌, Bool, true, false, List, [], ◌∷◌, ◌++◌, length, get_or, set, take, drop, min, reverse, refl, sym, ap, subst, ◌∙◌, arith, ◌+◌, add-one, inl, inr}
use Rattle.std.specs.List.Sorted.{IsNonDecreasing}
use Rattle.std.proofs.lemmas.Bool.{or_cases, or_right}
use Rattle.std.proofs.lemmas.Bool.Decides.{nat_tests}
use Rattle.std.proofs.lemmas.List.{length-reverse, reverse-reverse}
use Rattle.shape_items.specs.Buffer.{Buffer}
use Rattle.shape_items.specs.ClusterOrder.{IsMonotoneLevel, IsOrderedFor, IsNonIncreasing, PreservesClusters}
use Rattle.shape_items.specs.Clusters.{clusters}
use Rattle.shape_items.specs.Items.{Item, put_in}
use Rattle.shape_items.specs.PreservesFlags.{IsDefinedFlag, has_flag, some_has, PreservesFlags}
use Rattle.shape_items.proofs.Flags.FlagLemmas.{no_flag, PreservesFlags-items, PreservesFlags-same}
use Rattle.shape_items.proofs.Order.ReversedLemmas.{clusters-reverse, falls-reverse, rises-reverse, Contains-reverse, some_has-reverse}
use Rattle.shape_buffer.specs.Preservation.{PreservesOrder}
use Rattle.shape_buffer.proofs.Steps.PreservationLemmas.{PreservesOrder-same}
use Rattle.shape_common.specs.declared.text_types.BufferClusterLevel.{BufferClusterLevel}
use Rattle.shape_common.specs.declared.text_types.BufferClusterLevel.TheVariants.{MonotoneGraphemes, MonotoneCharacters, Characters}
use Rattle.cluster_order.specs.Least.{least_with, least_ahead}
use Rattle.cluster_order.specs.Ordered.{joined_to, joined_ahead, joined_for, clusters_ordered}
use Rattle.cluster_order.specs.Ordering.{HasNoNewCluster, ComesToOrder}
use Rattle.cluster_order.proofs.LeastLemmas.{ahead-rises, ahead-falls, ahead-none_new, preserves}

-- ---- the walk, from the last place to the first

-- the items from a place on joined
abbrev pub joined_from : ℕ → List Item → List Item
joined_from n xs = take n xs ++ joined_ahead (drop n xs)

-- the place before them is joined to the next
joined-step : (xs : List Item) (i : ℕ) (d : Item) → i < length xs
    → set (joined_from (suc i) xs) i (joined_to (get_or (joined_from (suc i) xs) i d) (drop (suc i) (joined_from (suc i) xs)))
    ≡ joined_from i xs
joined-step [] i d lt = absurd (omega arith)
joined-step (x ∷ xs) zero d lt = refl
joined-step (x ∷ xs) (suc i) d lt = ap (λ (ys : List Item). x ∷ ys) (joined-step xs i d (omega arith))

pub joined-next : (xs : List Item) (i : ℕ) (d : Item) → i < length xs
    → set (joined_from (i + 1) xs) i (joined_to (get_or (joined_from (i + 1) xs) i d) (drop (i + 1) (joined_from (i + 1) xs)))
    ≡ joined_from i xs
joined-next xs i d lt = rw add-one (joined-step xs i d lt)

-- none of them
pub joined-none : (xs : List Item) → joined_from (length xs) xs ≡ xs
joined-none [] = refl
joined-none (x ∷ xs) = ap (λ (ys : List Item). x ∷ ys) (joined-none xs)

pub length-joined : (xs : List Item) → length (joined_ahead xs) ≡ length xs
length-joined [] = refl
length-joined (x ∷ xs) = ap suc (length-joined xs)

pub length_joined_for : (backward : Bool) (xs : List Item) → length (joined_for backward xs) ≡ length xs
length_joined_for true xs = length-reverse (joined_ahead (reverse xs)) ∙ length-joined (reverse xs) ∙ length-reverse xs
length_joined_for false xs = length-joined xs

pub turned_twice : {A : Type 0} (xs : List A) → reverse (reverse xs) ≡ xs
turned_twice xs = reverse-reverse xs

-- ---- clusters

put_in-cluster : (c : ℕ) (x : Item) → (put_in c x).cluster ≡ c
put_in-cluster c x = grind (arith, nat_tests)

put_in-same : (c : ℕ) (x : Item) → x.cluster ≡ c → put_in c x ≡ x
put_in-same c x is = grind (arith, nat_tests)

joined_to-cluster : (x : Item) (ys : List Item) → (joined_to x ys).cluster ≡ least_with x.cluster (clusters ys)
joined_to-cluster x [] = refl
joined_to-cluster x (y ∷ ys) = put_in-cluster (min x.cluster y.cluster) x

clusters-joined : (xs : List Item) → clusters (joined_ahead xs) ≡ least_ahead (clusters xs)
clusters-joined [] = refl
clusters-joined (x ∷ xs) =
    let rest = clusters-joined xs in
    ap (λ (c : ℕ). c ∷ clusters (joined_ahead xs)) (joined_to-cluster x (joined_ahead xs))
    ∙ ap (λ (ks : List ℕ). least_with x.cluster ks ∷ ks) rest

clusters-joined_back : (xs : List Item) → clusters (joined_for true xs) ≡ reverse (least_ahead (reverse (clusters xs)))
clusters-joined_back xs =
    clusters-reverse (joined_ahead (reverse xs))
    ∙ ap (λ (ks : List ℕ). reverse ks) (clusters-joined (reverse xs) ∙ ap least_ahead (clusters-reverse xs))

ordered-joined : (backward : Bool) (xs : List Item) → IsOrderedFor backward (clusters (joined_for backward xs))
ordered-joined true xs =
    subst IsNonIncreasing (sym (clusters-joined_back xs)) (falls-reverse (least_ahead (reverse (clusters xs))) (ahead-rises (reverse (clusters xs))))
ordered-joined false xs = subst IsNonDecreasing (sym (clusters-joined xs)) (ahead-rises (clusters xs))

-- order is preserved whichever way clusters are put in order
back-preserves : (ks : List ℕ) → PreservesClusters ks (reverse (least_ahead (reverse ks)))
back-preserves ks = record {
  rising = λ rises. rises-reverse (least_ahead (reverse ks)) (ahead-falls (reverse ks) (falls-reverse ks rises));
  falling = λ _. falls-reverse (least_ahead (reverse ks)) (ahead-rises (reverse ks));
  none_new = λ k is. Contains-reverse ks k (ahead-none_new (reverse ks) k (Contains-reverse (least_ahead (reverse ks)) k is));
}

preserves-joined : (backward : Bool) (xs : List Item) → PreservesClusters (clusters xs) (clusters (joined_for backward xs))
preserves-joined true xs = subst (λ (ks : List ℕ). PreservesClusters (clusters xs) ks) (sym (clusters-joined_back xs)) (back-preserves (clusters xs))
preserves-joined false xs = subst (λ (ks : List ℕ). PreservesClusters (clusters xs) ks) (sym (clusters-joined xs)) (preserves (clusters xs))

-- ---- what is in order stays

rises-tail : (x : ℕ) (xs : List ℕ) → IsNonDecreasing (x ∷ xs) → IsNonDecreasing xs
rises-tail x xs f i j d le lt = f (suc i) (suc j) d (omega arith) (omega arith)

joined_to-same : (x : Item) (ys : List Item) → IsNonDecreasing (x.cluster ∷ clusters ys) → joined_to x ys ≡ x
joined_to-same x [] rises = refl
joined_to-same x (y ∷ ys) rises =
    let le : x.cluster ≤ y.cluster = rises 0 1 0 (omega arith) (omega arith) in
    put_in-same (min x.cluster y.cluster) x (omega arith)

joined-same : (xs : List Item) → IsNonDecreasing (clusters xs) → joined_ahead xs ≡ xs
joined-same [] rises = refl
joined-same (x ∷ xs) rises =
    ap (λ (ys : List Item). joined_to x ys ∷ ys) (joined-same xs (rises-tail x.cluster (clusters xs) rises))
    ∙ ap (λ (y : Item). y ∷ xs) (joined_to-same x xs rises)

joined_for-same : (backward : Bool) (xs : List Item) → IsOrderedFor backward (clusters xs) → joined_for backward xs ≡ xs
joined_for-same true xs falls =
    ap (λ (ys : List Item). reverse ys)
    (joined-same (reverse xs) (subst IsNonDecreasing (sym (clusters-reverse xs)) (rises-reverse (clusters xs) falls)))
    ∙ reverse-reverse xs
joined_for-same false xs rises = joined-same xs rises

-- ---- flags

put_in-flag : (c flag : ℕ) → IsDefinedFlag flag → (x : Item) → has_flag flag (put_in c x) ≡ true → has_flag flag x ≡ true
put_in-flag c flag d x h =
    let e = no_flag x.mask flag d in
    grind (arith, nat_tests)

joined_to-flag : (flag : ℕ) → IsDefinedFlag flag → (x : Item) (ys : List Item) → has_flag flag (joined_to x ys) ≡ true → has_flag flag x ≡ true
joined_to-flag flag d x [] h = h
joined_to-flag flag d x (y ∷ ys) h = put_in-flag (min x.cluster y.cluster) flag d x h

joined-flag : (flag : ℕ) → IsDefinedFlag flag → (xs : List Item) → some_has flag (joined_ahead xs) ≡ true → some_has flag xs ≡ true
joined-flag flag d [] some = some
joined-flag flag d (x ∷ xs) some = elim (or_cases (has_flag flag (joined_to x (joined_ahead xs))) (some_has flag (joined_ahead xs)) some) [
  | inl here ↦ rw (joined_to-flag flag d x (joined_ahead xs) here) refl
  | inr later ↦ or_right (has_flag flag x) _ (joined-flag flag d xs later)
]

joined_for-flag : (backward : Bool) (flag : ℕ) → IsDefinedFlag flag → (xs : List Item) → some_has flag (joined_for backward xs) ≡ true
    → some_has flag xs ≡ true
joined_for-flag true flag d xs some =
    sym (some_has-reverse flag xs)
    ∙ joined-flag flag d (reverse xs) (sym (some_has-reverse flag (joined_ahead (reverse xs))) ∙ some)
joined_for-flag false flag d xs some = joined-flag flag d xs some

-- ---- the buffer

-- joined at the monotone levels, left at level CHARACTERS
pub ordered-cases : (P : Buffer → Type 0) (backward : Bool) (b : Buffer)
    → (IsMonotoneLevel b.cluster_level → P (record b { items = joined_for backward b.items })) → (b.cluster_level ≡ Characters → P b)
    → P (clusters_ordered backward b)
unfolding clusters_ordered
ordered-cases P backward b joined left = at_level b.cluster_level joined left
  where
    at_level : (level : BufferClusterLevel) → (IsMonotoneLevel level → P (record b { items = joined_for backward b.items }))
        → (level ≡ Characters → P b) → P (elim level as (λ v. Buffer) [
          | MonotoneGraphemes ↦ record b { items = joined_for backward b.items }
          | MonotoneCharacters ↦ record b { items = joined_for backward b.items }
          | Characters ↦ b
        ])
    at_level MonotoneGraphemes joined left = joined tt
    at_level MonotoneCharacters joined left = joined tt
    at_level Characters joined left = left refl

pub ordered-preserves : (backward : Bool) (b : Buffer) → PreservesOrder b (clusters_ordered backward b)
ordered-preserves backward b =
    ordered-cases (PreservesOrder b) backward b
    (λ _. record { clusters = preserves-joined backward b.items; direction = refl; flags = refl; level = refl })
    (λ _. PreservesOrder-same b)

pub brings_none : {old new : Buffer} → PreservesOrder old new → HasNoNewCluster old new
brings_none order = record { none_new = order.clusters.none_new; direction = order.direction; flags = order.flags; level = order.level }

pub ordered-orders : (backward : Bool) (b : Buffer) → IsMonotoneLevel b.cluster_level → ComesToOrder backward b (clusters_ordered backward b)
ordered-orders backward b monotone = record {
  ordered = ordered-cases (λ c. IsOrderedFor backward (clusters c.items)) backward b (λ _. ordered-joined backward b.items)
      (λ is. absurd (subst IsMonotoneLevel is monotone));
  none = brings_none (ordered-preserves backward b);
}

pub ordered-same : (backward : Bool) (b : Buffer) → IsOrderedFor backward (clusters b.items) → clusters_ordered backward b ≡ b
ordered-same backward b order =
    ordered-cases (λ c. c ≡ b) backward b
    (λ _. ap (λ (items : List Item). record b { items = items }) (joined_for-same backward b.items order)) (λ _. refl)

pub ordered-flags : (backward : Bool) (b : Buffer) → PreservesFlags b (clusters_ordered backward b)
ordered-flags backward b =
    ordered-cases (PreservesFlags b) backward b
    (λ _. PreservesFlags-items b _ (λ flag defined some. joined_for-flag backward flag defined b.items some)) (λ _. PreservesFlags-same b)

pub ordered-count : (backward : Bool) (b : Buffer) → length (clusters_ordered backward b).items ≡ length b.items
ordered-count backward b =
    ordered-cases (λ c. length c.items ≡ length b.items) backward b (λ _. length_joined_for backward b.items) (λ _. refl)
