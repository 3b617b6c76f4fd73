-- Neighbours that share a cluster: merging makes them, and parts none of those before its span.
use Rattle.std.proofs.Common.{◌≡◌, ℕ, zero, suc, ◌+◌, ◌-◌, ◌<◌, ◌≤◌, Bool, true, false, ◌==◌, nat_lt, List, length, get_or, take, refl, sym, ap, ◌∙◌, arith, slice_range, slice_index, inl, inr}
use Rattle.std.proofs.lemmas.Bool.{cases_Bool, cases_eq, cases_order, both_ways}
use Rattle.std.proofs.lemmas.Bool.Decides.{nat_tests}
use Rattle.std.proofs.lemmas.List.{get_or-map}
use Rattle.std.proofs.lemmas.List.Sums.{suffix_len-take_yes, suffix_len-take_no}
use Rattle.std.specs.List.{suffix_len}
use Rattle.shape_items.specs.Items.{Item, new_item, has_cluster}
use Rattle.shape_items.specs.Clusters.{clusters, merge, least_cluster, growth_left, growth_right}
use Rattle.shape_items.proofs.Merging.ClusterLemmas.{merge_short, merge_long}
use Rattle.shape_items.proofs.Merging.MergeOrder.{growth_right-within, put_range_below, put_range_inside}

-- the cluster of the item at a place
abbrev pub cluster_at : List Item → ℕ → ℕ
cluster_at xs k = get_or (clusters xs) k 0

-- the item at a place and the next one share a cluster
abbrev pub Joined : List Item → ℕ → Type 0
Joined xs k = cluster_at xs k ≡ cluster_at xs (k + 1)

-- from this place on to the end each item passes, and the one before it doesn't
record PassesFrom (p : Item → Bool) (xs : List Item) (d : Item) (from end : ℕ) : Type 0 where
  passes : (k : ℕ) → from ≤ k → k < end → p (get_or xs k d) ≡ true
  stops : (k : ℕ) → k + 1 ≡ from → p (get_or xs k d) ≡ false

PassesFrom-suffix : (p : Item → Bool) (xs : List Item) (d : Item) (n : ℕ) → n ≤ length xs
    → PassesFrom p xs d (n - suffix_len p (take n xs)) n
PassesFrom-suffix p xs d zero le = record { passes = λ k ge lt. absurd (omega arith); stops = λ k e. absurd (omega arith) }
PassesFrom-suffix p xs d (suc n) le =
    let before : suc n - 1 ≡ n = omega arith in
    let last = ap (λ k. p (get_or xs k d)) before in
    elim (cases_Bool (p (get_or xs n d))) [
      | inl is ↦
          let earlier = PassesFrom-suffix p xs d n (omega arith) in
          let more = suffix_len-take_yes p xs (suc n) d (omega arith) le (last ∙ is) in
          let same = ap (λ k. suffix_len p (take k xs)) before in
          record {
            passes = λ k ge lt. elim (cases_eq k n) [
              | inl at ↦ ap (λ i. p (get_or xs i d)) at ∙ is
              | inr not_at ↦ earlier.passes k (omega arith) (omega arith)
            ];
            stops = λ k e. earlier.stops k (omega arith);
          }
      | inr is_not ↦
          let none = suffix_len-take_no p xs (suc n) d (omega arith) le (last ∙ is_not) in
          record {
            passes = λ k ge lt. absurd (omega arith);
            stops = λ k e. let at : k ≡ n = omega arith in ap (λ i. p (get_or xs i d)) at ∙ is_not;
          }
    ]

-- a span that grows left ends its growth between two items that don't share a cluster
parted_before_growth : (start : ℕ) (xs : List Item) (least k : ℕ) → start ≤ length xs → k + 1 < start
    → k + 1 ≡ start - growth_left xs start least → Joined xs k → ⊥
parted_before_growth start xs least k within before at joined =
    elim (cases_Bool (slice_index (clusters xs) start == least)) [
      | inl is_least ↦
          let none : growth_left xs start least ≡ 0 = rw is_least refl in
          absurd (omega arith)
      | inr not_least ↦
          let first = slice_index (clusters xs) start in
          let d = new_item 0 0 in
          let grown : growth_left xs start least ≡ suffix_len (has_cluster first) (take start xs) = rw not_least refl in
          let reach = PassesFrom-suffix (has_cluster first) xs d start within in
          let in_it : has_cluster first (get_or xs (k + 1) d) ≡ true = reach.passes (k + 1) (omega arith) before in
          let out : has_cluster first (get_or xs k d) ≡ false = reach.stops k (omega arith) in
          let left : cluster_at xs k ≡ (get_or xs k d).cluster = get_or-map (λ x. x.cluster) xs k d 0 (omega arith) in
          let right : cluster_at xs (k + 1) ≡ (get_or xs (k + 1) d).cluster = get_or-map (λ x. x.cluster) xs (k + 1) d 0 (omega arith) in
          let same : (get_or xs k d).cluster ≡ (get_or xs (k + 1) d).cluster = sym left ∙ joined ∙ right in
          both_ways _ out (ap (λ c. c == first) same ∙ in_it)
    ]

-- the items of the span share a cluster once it is merged
pub merge_joins : (start end : ℕ) (xs : List Item) (k : ℕ) → start ≤ k → k + 1 < end → end ≤ length xs → Joined (merge start end xs) k
merge_joins start end xs k from to within =
    let least = least_cluster (slice_range xs start end) in
    let a = start - growth_left xs start least in
    let b = end + growth_right xs (end - 1) least in
    let long : nat_lt (start + 1) end ≡ true = grind (arith, nat_tests) in
    let right : end - 1 + growth_right xs (end - 1) least < length xs = growth_right-within xs (end - 1) least (omega arith) in
    let total : b ≤ length xs = omega arith in
    rw (merge_long start end xs long)
    (put_range_inside a b least xs k (omega arith) total (omega arith)
    ∙ sym (put_range_inside a b least xs (k + 1) (omega arith) total (omega arith)))

-- neighbours before the span still share theirs
pub merge_preserves_joined : (start end : ℕ) (xs : List Item) (k : ℕ) → k + 1 < start → end ≤ length xs → Joined xs k
    → Joined (merge start end xs) k
merge_preserves_joined start end xs k before within joined =
    elim (cases_Bool (nat_lt (start + 1) end)) [
      | inr short ↦ rw (merge_short start end xs short) joined
      | inl long ↦
          let least = least_cluster (slice_range xs start end) in
          let a = start - growth_left xs start least in
          let b = end + growth_right xs (end - 1) least in
          let some : start + 1 < end = grind (arith, nat_tests) in
          let right : end - 1 + growth_right xs (end - 1) least < length xs = growth_right-within xs (end - 1) least (omega arith) in
          let total : b ≤ length xs = omega arith in
          let order : a ≤ b = omega arith in
          rw (merge_long start end xs long)
          (elim (cases_order (k + 1) a) [
            | inl at ↦ absurd (parted_before_growth start xs least k (omega arith) before at joined)
            | inr (inl below) ↦ put_range_below a b least xs k order total (omega arith) ∙ joined
                ∙ sym (put_range_below a b least xs (k + 1) order total below)
            | inr (inr above) ↦ put_range_inside a b least xs k (omega arith) total (omega arith)
                ∙ sym (put_range_inside a b least xs (k + 1) (omega arith) total (omega arith))
          ])
    ]
