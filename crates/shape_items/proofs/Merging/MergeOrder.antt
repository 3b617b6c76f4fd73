-- Merging preserves the order of clusters, and brings no new one.
use Rattle.std.proofs.Common.{◌≡◌, ℕ, ◌+◌, ◌-◌, ◌<◌, ◌≤◌, cond, nat_lt, List, [], ◌∷◌, ◌++◌, length, get_or, take, drop, map, min, refl, sym, ◌∙◌, arith, add-one, replicate, slice_range, inl, inr, ◌⊎◌}
use Rattle.std.proofs.lemmas.Bool.Decides.{nat_tests}
use Rattle.std.specs.List.{fold}
use Rattle.std.proofs.lemmas.List.{places, map-append, length-map, length-append, length-take, length-drop, take-map, drop-map, get_or-take, get_or-drop, length-replicate}
use Rattle.std.proofs.lemmas.List.Sums.{prefix_len-le-length}
use Rattle.shape_items.specs.Items.{Item, put_in}
use Rattle.shape_items.specs.Clusters.{clusters, put_range, merge, least_cluster, growth_left, growth_right}
use Rattle.shape_items.specs.ClusterOrder.{PreservesClusters}
use Rattle.shape_items.proofs.Merging.ClusterLemmas.{merge-cases, merged_span}
use Rattle.shape_items.proofs.Order.DrawsInOrder.{DrawsInOrder, DrawsInOrder-same, PreservesClusters-from_draws}

min_cases : (a b : ℕ) → (min a b ≡ a) ⊎ (min a b ≡ b)
min_cases a b = grind (arith, nat_tests)

-- an item put into a cluster has it
put_in-cluster : (c : ℕ) (x : Item) → (put_in c x).cluster ≡ c
put_in-cluster c x = grind (arith, nat_tests)

pub clusters-put_in : (c : ℕ) (xs : List Item) → clusters (map (put_in c) xs) ≡ replicate (length xs) c
clusters-put_in c [] = refl
clusters-put_in c (x ∷ xs) = grind (arith, put_in-cluster, clusters-put_in c xs)

-- a list with a part of it in one cluster
pub clusters-put_range : (a b c : ℕ) (xs : List Item)
    → clusters (put_range a b c xs) ≡ take a (clusters xs) ++ (replicate (length (slice_range xs a b)) c ++ drop b (clusters xs))
clusters-put_range a b c xs =
    simp (map-append, clusters-put_in, take-map, drop-map)

-- the least cluster is that of an item
fold_least_reached : (a : ℕ) (xs : List Item)
    → (fold (λ least item. min least item.cluster) a xs ≡ a)
    ⊎ ((k : ℕ) × (k < length xs) × (get_or (clusters xs) k 0 ≡ fold (λ least item. min least item.cluster) a xs))
fold_least_reached a [] = inl refl
fold_least_reached a (x ∷ xs) =
    elim (fold_least_reached (min a x.cluster) xs) [
      | inl e ↦ elim (min_cases a x.cluster) [
        | inl l ↦ inl (e ∙ l)
        | inr r ↦ inr (0, omega arith, sym (e ∙ r))
      ]
      | inr (k, lt, e) ↦ inr (k + 1, omega (arith), rw add-one e)
    ]

pub least_cluster_reached : (xs : List Item) → 0 < length xs
    → (k : ℕ) × (k < length xs) × (get_or (clusters xs) k 0 ≡ least_cluster xs)
least_cluster_reached [] some = absurd (omega arith)
least_cluster_reached (x ∷ xs) some =
    elim (fold_least_reached x.cluster xs) [
      | inl e ↦ (0, omega arith, sym e)
      | inr (k, lt, e) ↦ (k + 1, omega arith, rw add-one e)
    ]

-- the same, of a span of a list
pub least_of_span_reached : (start end : ℕ) (xs : List Item) → start < end → end ≤ length xs
    → (k : ℕ) × (start ≤ k) × (k < end) × (get_or (clusters xs) k 0 ≡ least_cluster (slice_range xs start end))
least_of_span_reached start end xs lt le =
    let n : length (slice_range xs start end) ≡ end - start = simp (length-take, length-drop) (omega arith) in
    let some : 0 < length (slice_range xs start end) = omega arith in
    let found = least_cluster_reached (slice_range xs start end) some in
    let k_lt : found.0 < end - start = omega (arith, found.1) in
    let there : get_or (clusters (slice_range xs start end)) found.0 0 ≡ get_or (clusters xs) (start + found.0) 0 =
    simp (← take-map, ← drop-map, get_or-take, get_or-drop) in
    (start + found.0, omega arith, omega arith, sym there ∙ found.2)

length-slice_range : (a b : ℕ) (xs : List Item) → b ≤ length xs → length (slice_range xs a b) ≡ b - a
length-slice_range a b xs le = simp (length-take, length-drop) (omega arith)

pub length-clusters-put_range : (a b c : ℕ) (xs : List Item) → a ≤ b → b ≤ length xs
    → length (clusters (put_range a b c xs)) ≡ length xs
length-clusters-put_range a b c xs le within =
    rw (clusters-put_range a b c xs) (simp (length-append, length-take, length-drop, length-replicate, length-map) (omega arith))

pub put_range_below : (a b c : ℕ) (xs : List Item) (k : ℕ) → a ≤ b → b ≤ length xs → k < a
    → get_or (clusters (put_range a b c xs)) k 0 ≡ get_or (clusters xs) k 0
put_range_below a b c xs k le within lt =
    let n : length (clusters xs) ≡ length xs = length-map xs (λ x. x.cluster) in
    rw (clusters-put_range a b c xs) (grind (arith, places))

pub put_range_inside : (a b c : ℕ) (xs : List Item) (k : ℕ) → a ≤ k → b ≤ length xs → k < b
    → get_or (clusters (put_range a b c xs)) k 0 ≡ c
put_range_inside a b c xs k le within lt =
    let n : length (clusters xs) ≡ length xs = length-map xs (λ x. x.cluster) in
    let m : length (slice_range xs a b) ≡ b - a = length-slice_range a b xs within in
    rw (clusters-put_range a b c xs) (grind (arith, places))

pub put_range_above : (a b c : ℕ) (xs : List Item) (k : ℕ) → a ≤ b → b ≤ length xs → b ≤ k
    → get_or (clusters (put_range a b c xs)) k 0 ≡ get_or (clusters xs) k 0
put_range_above a b c xs k le within lt =
    let n : length (clusters xs) ≡ length xs = length-map xs (λ x. x.cluster) in
    let m : length (slice_range xs a b) ≡ b - a = length-slice_range a b xs within in
    rw (clusters-put_range a b c xs) (grind (arith, places))

-- where the cluster at place k comes from, when the items from a up to b get the cluster of place m
moved : ℕ → ℕ → ℕ → ℕ → ℕ
moved a b m k = cond (nat_lt k a) k (cond (nat_lt k b) m k)

moved_below : (a b m k : ℕ) → k < a → moved a b m k ≡ k
unfolding moved
moved_below a b m k lt = grind (arith, nat_tests)

moved_inside : (a b m k : ℕ) → a ≤ k → k < b → moved a b m k ≡ m
unfolding moved
moved_inside a b m k le lt = grind (arith, nat_tests)

moved_above : (a b m k : ℕ) → a ≤ b → b ≤ k → moved a b m k ≡ k
unfolding moved
moved_above a b m k le le' = grind (arith, nat_tests)

pub place_cases : (a b k : ℕ) → (k < a) ⊎ ((a ≤ k) × (k < b)) ⊎ (b ≤ k)
place_cases a b k = grind arith

moved_in_order : (a b m i j : ℕ) → a ≤ m → m ≤ b → i ≤ j → moved a b m i ≤ moved a b m j
unfolding moved
moved_in_order a b m i j le lt ij = grind (arith, nat_tests)

moved_within : (a b m k n : ℕ) → m < n → k < n → moved a b m k < n
unfolding moved
moved_within a b m k n mn kn = grind (arith, nat_tests)

put_range_at : (a b c : ℕ) (xs : List Item) (m : ℕ) → a ≤ m → m ≤ b → b ≤ length xs → get_or (clusters xs) m 0 ≡ c → (k : ℕ)
    → get_or (clusters (put_range a b c xs)) k 0 ≡ get_or (clusters xs) (moved a b m k) 0
put_range_at a b c xs m am mb within at_m k =
    let le : a ≤ b = omega arith in
    elim (place_cases a b k) [
      | inl lt ↦ rw moved_below (put_range_below a b c xs k le within lt)
      | inr r ↦ elim r [
        | inl (ge, lt) ↦ rw moved_inside (put_range_inside a b c xs k ge within lt ∙ sym at_m)
        | inr ge ↦ rw moved_above (put_range_above a b c xs k le within ge)
      ]
    ]

pub put_range_draws : (a b c : ℕ) (xs : List Item) (m : ℕ) → a ≤ m → m ≤ b → m < length xs → b ≤ length xs → get_or (clusters xs) m 0 ≡ c
    → DrawsInOrder (clusters xs) (clusters (put_range a b c xs))
put_range_draws a b c xs m am mb inside within at_m =
    let le : a ≤ b = omega arith in
    let n : length (clusters (put_range a b c xs)) ≡ length xs = length-clusters-put_range a b c xs le within in
    let n' : length (clusters xs) ≡ length xs = length-map xs (λ x. x.cluster) in
    record {
      place = moved a b m;
      within = λ k lt. let lt' : k < length xs = omega arith in rw n' (moved_within a b m k (length xs) inside lt');
      same = λ k lt. put_range_at a b c xs m am mb within at_m k;
      in_order = λ i j ij lt. moved_in_order a b m i j am mb ij;
    }

pub growth_right-within : (xs : List Item) (last least : ℕ) → last < length xs → last + growth_right xs last least < length xs
growth_right-within xs last least lt = grind (arith, length-drop, prefix_len-le-length {X = Item})

merged_span_draws : (start end : ℕ) (xs : List Item) → start + 1 < end → end ≤ length xs
    → DrawsInOrder (clusters xs) (clusters (merged_span start end xs))
merged_span_draws start end xs lt within =
    let start_lt : start < end = omega arith in
    let last_lt : end - 1 < length xs = omega arith in
    let reached = least_of_span_reached start end xs start_lt within in
    let least = least_cluster (slice_range xs start end) in
    let right : end - 1 + growth_right xs (end - 1) least < length xs = growth_right-within xs (end - 1) least last_lt in
    let from : start - growth_left xs start least ≤ reached.0 = omega (arith, reached.1) in
    let to : reached.0 ≤ end + growth_right xs (end - 1) least = omega (arith, reached.2) in
    let inside : reached.0 < length xs = omega (arith, reached.2) in
    let total : end + growth_right xs (end - 1) least ≤ length xs = omega arith in
    put_range_draws _ _ least xs reached.0 from to inside total reached.3

-- merging draws clusters in order
pub merge_draws : (start end : ℕ) (xs : List Item) → end ≤ length xs → DrawsInOrder (clusters xs) (clusters (merge start end xs))
merge_draws start end xs within =
    merge-cases (λ ys. DrawsInOrder (clusters xs) (clusters ys)) start end xs
    (λ long. merged_span_draws start end xs long within) (DrawsInOrder-same (clusters xs))

-- what `merge` leaves preserves the order of clusters, and has no new one
pub merge_preserves : (start end : ℕ) (xs ys : List Item) → end ≤ length xs → ys ≡ merge start end xs
    → PreservesClusters (clusters xs) (clusters ys)
merge_preserves start end xs ys within e = rw e (PreservesClusters-from_draws _ _ (merge_draws start end xs within))
