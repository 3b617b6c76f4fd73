-- Merging graphemes of a text whose clusters rise.
use Rattle.std.proofs.Common.{◌≡◌, ℕ, suc, ◌+◌, ◌-◌, ◌<◌, ◌≤◌, ◌==◌, true, nat_lt, min, List, [], ◌∷◌, length, get_or, take, drop, fold, replicate, slice_range, refl, sym, ap, ap₂, ◌∙◌, arith, inl, inr, ◌⊎◌, eq-eqb}
use Rattle.std.proofs.lemmas.Bool.{cases_Bool}
use Rattle.std.proofs.lemmas.Bool.Decides.{nat_tests}
use Rattle.std.proofs.lemmas.List.{length-take, length-drop, length-map, take-map, drop-map, get_or-take, get_or-drop, drop-drop}
use Rattle.std.specs.List.Sorted.{IsNonDecreasing}
use Rattle.shape_items.specs.Clusters.{clusters, merge, put_range, least_cluster, growth_left, growth_right}
use Rattle.shape_items.specs.Items.{Item}
use Rattle.shape_items.proofs.Merging.ClusterLemmas.{merge_short, merge_long}
use Rattle.shape_items.proofs.Order.GraphemeOrderLemmas.{AreOneCluster}
use Rattle.shape_items.proofs.Merging.JoinLemmas.{cluster_at}
use Rattle.shape_items.proofs.Merging.KeyLemmas.{length-merge}
use Rattle.shape_items.proofs.Merging.MergeOrder.{least_of_span_reached, put_range_below, put_range_inside, put_range_above, growth_right-within, place_cases, merge_preserves}
use Rattle.shape_items.specs.GraphemeSpans.{spans_from}
use Rattle.shape_prepare.specs.NativeOrder.{parted}
use Rattle.shape_prepare.proofs.Spans.ReversalLemmas.{total}

-- what a merge leaves: the span in the cluster of its first item, what stands before it as it was, and after it that
-- cluster or the old one
pub record Spread (start end : ℕ) (xs ys : List Item) : Type 0 where
  pub below : (k : ℕ) → k < start → cluster_at ys k ≡ cluster_at xs k
  pub inside : (k : ℕ) → start ≤ k → k < end → cluster_at ys k ≡ cluster_at xs start
  pub beyond : (k : ℕ) → end ≤ k → (cluster_at ys k ≡ cluster_at xs k) ⊎ (cluster_at ys k ≡ cluster_at xs start)

min_left : (a b : ℕ) → min a b ≤ a
min_left a b = grind (arith, nat_tests)

fold_min-below : (a : ℕ) (xs : List Item) → fold (λ least item. min least item.cluster) a xs ≤ a
fold_min-below a [] = omega arith
fold_min-below a (x ∷ xs) = omega (arith, fold_min-below (min a x.cluster) xs, min_left a x.cluster)

least_cluster-below : (xs : List Item) → 0 < length xs → least_cluster xs ≤ get_or (clusters xs) 0 0
least_cluster-below [] some = absurd (omega arith)
least_cluster-below (x ∷ xs) some = fold_min-below x.cluster xs

-- the least cluster of a span is that of its first item
least-first : (start end : ℕ) (xs : List Item) → IsNonDecreasing (clusters xs) → start < end → end ≤ length xs
    → least_cluster (slice_range xs start end) ≡ cluster_at xs start
least-first start end xs rising lt within =
    let size : length (slice_range xs start end) ≡ end - start = simp (length-take, length-drop) (omega arith) in
    let some : 0 < length (slice_range xs start end) = omega arith in
    let room : 0 < end - start = omega arith in
    let plus : start + 0 ≡ start = omega arith in
    let first : get_or (clusters (slice_range xs start end)) 0 0 ≡ cluster_at xs start =
    (let there : get_or (clusters (slice_range xs start end)) 0 0
    ≡ get_or (clusters xs) (start + 0) 0 = simp (← take-map, ← drop-map, get_or-take, get_or-drop) in there)
    ∙ ap (cluster_at xs) plus in
    let reached = least_of_span_reached start end xs lt within in
    let many : length (clusters xs) ≡ length xs = length-map xs (λ item. item.cluster) in
    let inside : reached.0 < length (clusters xs) = omega (arith, reached.2) in
    let up : cluster_at xs start ≤ cluster_at xs reached.0 = rising start reached.0 0 reached.1 inside in
    let down = least_cluster-below (slice_range xs start end) some in
    omega (arith, up, down, first, reached.3)

spread-put : (start end b c : ℕ) (xs ys : List Item) → start ≤ end → end ≤ b → b ≤ length xs → cluster_at xs start ≡ c
    → ys ≡ put_range start b c xs → Spread start end xs ys
spread-put start end b c xs ys le grown within is made = record {
  below = λ k lt. ap (λ (l : List Item). cluster_at l k) made ∙ put_range_below start b c xs k (omega arith) within lt;
  inside = λ k ge lt. ap (λ (l : List Item). cluster_at l k) made ∙ put_range_inside start b c xs k ge within (omega arith) ∙ sym is;
  beyond = λ k ge. elim (place_cases start b k) [
    | inl before ↦ absurd (omega arith)
    | inr r ↦ elim r [
      | inl (from, lt) ↦ inr (ap (λ (l : List Item). cluster_at l k) made ∙ put_range_inside start b c xs k from within lt ∙ sym is)
      | inr past ↦ inl (ap (λ (l : List Item). cluster_at l k) made ∙ put_range_above start b c xs k (omega arith) within past)
    ]
  ];
}

pub merge-spreads : (start end : ℕ) (xs : List Item) → IsNonDecreasing (clusters xs) → start ≤ end → end ≤ length xs
    → Spread start end xs (merge start end xs)
merge-spreads start end xs rising le within =
    elim (cases_Bool (nat_lt (start + 1) end)) [
      | inl long ↦
          let lt : start + 1 < end = grind (arith, nat_tests) in
          let least = least_cluster (slice_range xs start end) in
          let first : least ≡ cluster_at xs start = least-first start end xs rising (omega arith) within in
          let grows = growth_right xs (end - 1) least in
          let right : end - 1 + grows < length xs = growth_right-within xs (end - 1) least (omega arith) in
          let same : (cluster_at xs start == least) ≡ true = eq-eqb _ _ (sym first) in
          let left : growth_left xs start least ≡ 0 = rw same refl in
          let from : start - growth_left xs start least ≡ start = omega arith in
          let made : merge start end xs ≡ put_range start (end + grows) least xs = merge_long start end xs long
          ∙ ap (λ a. put_range a (end + grows) least xs) from in
          spread-put start end (end + grows) least xs (merge start end xs) le (omega arith) (omega arith) (sym first) made
      | inr short ↦
          let few : end ≤ start + 1 = grind (arith, nat_tests) in
          let made : merge start end xs ≡ xs = merge_short start end xs short in
          record {
            below = λ k lt. ap (λ (l : List Item). cluster_at l k) made;
            inside = λ k ge lt. let here : k ≡ start = omega arith in ap (λ (l : List Item). cluster_at l k) made ∙ ap (cluster_at xs) here;
            beyond = λ k ge. inl (ap (λ (l : List Item). cluster_at l k) made);
          }
    ]

-- ---- a merge of each part

-- each part stands in the cluster of its first item
abbrev pub OneEach : ℕ → List ℕ → List Item → Type 0
OneEach start [] ys = Unit {0}
OneEach start (size ∷ sizes) ys =
    ((k : ℕ) → start ≤ k → k < start + size → cluster_at ys k ≡ cluster_at ys start) × OneEach (start + size) sizes ys

-- the first item of each part has such a cluster
abbrev pub Firsts : (ℕ → Type 0) → ℕ → List ℕ → List Item → Type 0
Firsts Q start [] ys = Unit {0}
Firsts Q start (size ∷ sizes) ys = Q (cluster_at ys start) × Firsts Q (start + size) sizes ys

-- no part is empty
abbrev pub SomeEach : List ℕ → Type 0
SomeEach [] = Unit {0}
SomeEach (size ∷ sizes) = (0 < size) × SomeEach sizes

Firsts-spread : (Q : ℕ → Type 0) (start end from : ℕ) (sizes : List ℕ) (xs ys : List Item) → Spread start end xs ys → end ≤ from
    → Q (cluster_at xs start) → Firsts Q from sizes xs → Firsts Q from sizes ys
Firsts-spread Q start end from [] xs ys spread le here firsts = tt
Firsts-spread Q start end from (size ∷ sizes) xs ys spread le here firsts = (
  elim (spread.beyond from le) [
    | inl same ↦ rw same firsts.0
    | inr joined ↦ rw joined here
  ],
  Firsts-spread Q start end (from + size) sizes xs ys spread (omega arith) here firsts.1,
)

abbrev pub all_merged : List (ℕ × ℕ) → List Item → List Item
all_merged spans xs = fold (λ xs span. merge span.0 span.1 xs) xs spans

pub record Merged (start : ℕ) (sizes : List ℕ) (xs ys : List Item) : Type 1 where
  pub below : (k : ℕ) → k < start → cluster_at ys k ≡ cluster_at xs k
  pub one : OneEach start sizes ys
  pub firsts : (Q : ℕ → Type 0) → Firsts Q start sizes xs → Firsts Q start sizes ys
  pub as_many : length ys ≡ length xs

pub parts-merged : (start : ℕ) (sizes : List ℕ) (xs : List Item) → IsNonDecreasing (clusters xs) → SomeEach sizes
    → start + total sizes ≤ length xs → Merged start sizes xs (all_merged (spans_from start sizes) xs)
parts-merged start [] xs rising some within = record { below = λ k lt. refl; one = tt; firsts = λ Q f. f; as_many = refl }
parts-merged start (size ∷ sizes) xs rising some within =
    let end = start + size in
    let next = merge start end xs in
    let inside : end ≤ length xs = omega arith in
    let le : start ≤ end = omega arith in
    let spread = merge-spreads start end xs rising le inside in
    let many : length next ≡ length xs = length-merge start end xs in
    let goes_on : IsNonDecreasing (clusters next) = (merge_preserves start end xs next inside refl).rising rising in
    let rest = parts-merged end sizes next goes_on some.1 (omega arith) in
    let last = all_merged (spans_from end sizes) next in
    let here : start < end = omega (arith, some.0) in
    let at_start : cluster_at last start ≡ cluster_at xs start = rest.below start here ∙ spread.inside start (omega arith) here in
    record {
      below = λ k lt. rest.below k (omega arith) ∙ spread.below k lt;
      one = (λ k ge lt. rest.below k lt ∙ spread.inside k ge lt ∙ sym at_start, rest.one);
      firsts = λ Q f. (rw at_start f.0, rest.firsts Q (Firsts-spread Q start end end sizes xs next spread (omega arith) f.0 f.1));
      as_many = rest.as_many ∙ many;
    }

-- so every item's cluster is that of the first item of a part
pub all-firsts : (Q : ℕ → Type 0) (start : ℕ) (sizes : List ℕ) (ys : List Item) → OneEach start sizes ys → Firsts Q start sizes ys → (k : ℕ)
    → start ≤ k → k < start + total sizes → Q (cluster_at ys k)
all-firsts Q start [] ys one firsts k ge lt = absurd (omega arith)
all-firsts Q start (size ∷ sizes) ys one firsts k ge lt =
    elim (place_cases 0 (start + size) k) [
      | inl below ↦ absurd (omega arith)
      | inr r ↦ elim r [
        | inl (_, here) ↦ rw (one.0 k ge here) firsts.0
        | inr later ↦ all-firsts Q (start + size) sizes ys one.1 firsts.1 k later (omega arith)
      ]
    ]

-- ---- the parts as lists

same-replicate : (c : ℕ) (cs : List ℕ) → ((k : ℕ) → k < length cs → get_or cs k 0 ≡ c) → cs ≡ replicate (length cs) c
same-replicate c [] same = refl
same-replicate c (x ∷ cs) same =
    ap₂ (λ (a : ℕ) (l : List ℕ). a ∷ l) (same 0 (omega arith)) (same-replicate c cs (λ k lt. same (suc k) (omega arith)))

pub parts-one_cluster : (start : ℕ) (sizes : List ℕ) (ys : List Item) → OneEach start sizes ys
    → AreOneCluster (parted sizes (drop start ys))
parts-one_cluster start [] ys one = tt
parts-one_cluster start (size ∷ sizes) ys one = (
  (cluster_at ys start, here),
  (let rest : drop size (drop start ys)
      ≡ drop (start + size) ys = drop-drop size start ys in rw rest (parts-one_cluster (start + size) sizes ys one.1)),
)
  where
    here : clusters (take size (drop start ys)) ≡ replicate (length (take size (drop start ys))) (cluster_at ys start)
    here =
        let many : length (clusters (take size (drop start ys)))
        ≡ length (take size (drop start ys)) = length-map (take size (drop start ys)) (λ item. item.cluster) in
        same-replicate (cluster_at ys start) (clusters (take size (drop start ys))) (λ k lt.
        let few : k < size = omega (arith, lt, many, length-take size (drop start ys)) in
        let there : get_or (clusters (take size (drop start ys))) k 0
        ≡ get_or (clusters ys) (start + k) 0 = simp (← take-map, ← drop-map, get_or-take, get_or-drop) in
        there ∙ one.0 (start + k) (omega arith) (omega arith))
        ∙ ap (λ n. replicate n (cluster_at ys start)) many
