-- What merging one span after the other keeps.
use Rattle.std.proofs.Common.{◌≡◌, ◌≢◌, ℕ, ◌+◌, ◌<◌, ◌≤◌, List, [], ◌∷◌, ◌++◌, map, length, get_or, drop, refl, ap, sym, subst, ◌∙◌, arith, add-one, drop-cons, inl, inr}
use Rattle.shape_items.specs.Items.{Item}
use Rattle.shape_items.specs.Buffer.{Buffer}
use Rattle.shape_items.specs.BufferClusters.{merge_at, merge_clusters, merge_out_clusters}
use Rattle.shape_items.specs.Clusters.{clusters, merge}
use Rattle.shape_items.specs.ClusterOrder.{IsMonotoneLevel, PreservesClusters}
use Rattle.shape_items.specs.PreservesFlags.{PreservesFlags}
use Rattle.shape_items.specs.Spans.{AreSpansInOrder, merge_each, all_merged, spans_merged_out}
use Rattle.shape_common.specs.declared.text_types.BufferClusterLevel.TheVariants.{Characters}
use Rattle.shape_items.proofs.Deletion.DeletePreserves.{merged_preserves, merged_out_preserves}
use Rattle.shape_items.proofs.Flags.FlagLemmas.{PreservesFlags-same, PreservesFlags-then}
use Rattle.shape_items.proofs.Merging.ClusterLemmas.{merge_out-cases, merge_clusters-monotone, merge_out-monotone, level_cases}
use Rattle.shape_items.proofs.Merging.KeyLemmas.{IsKey, keys-merge_clusters, without_items, without_items-merge_clusters, length-merge, length-merge_clusters, length-merge_out}
use Rattle.shape_items.proofs.Order.PreservesClusterLemmas.{PreservesClusters-same, PreservesClusters-then}

-- ---- spans in order

-- they are in order from an earlier place on, too
pub AreSpansInOrder-lower : (low from size : ℕ) (spans : List (ℕ × ℕ)) → low ≤ from → AreSpansInOrder from size spans
    → AreSpansInOrder low size spans
AreSpansInOrder-lower low from size [] le h = tt
AreSpansInOrder-lower low from size (span ∷ spans) le h = (omega (arith, h.0), h.1, h.2, h.3)

-- spans up to a place, and then those that begin at it or after it
pub AreSpansInOrder-append : (from middle size : ℕ) (before behind : List (ℕ × ℕ)) → from ≤ middle → middle ≤ size
    → AreSpansInOrder from middle before → AreSpansInOrder middle size behind → AreSpansInOrder from size (before ++ behind)
AreSpansInOrder-append from middle size [] behind le within h later = AreSpansInOrder-lower from middle size behind le later
AreSpansInOrder-append from middle size (span ∷ before) behind le within h later = (
  h.0,
  h.1,
  omega (arith, h.2),
  AreSpansInOrder-append span.0 middle size before behind (omega (arith, h.1, h.2)) within h.3 later,
)

-- the spans from the one at a place on: that one, and those after it
pub AreSpansInOrder-next : (from size : ℕ) (spans : List (ℕ × ℕ)) (i : ℕ) (d : ℕ × ℕ) → i < length spans
    → AreSpansInOrder from size (drop i spans) → AreSpansInOrder from size (get_or spans i d ∷ drop (i + 1) spans)
AreSpansInOrder-next from size spans i d lt in_order =
    subst (AreSpansInOrder from size) (drop-cons spans i d lt ∙ ap (λ n. get_or spans i d ∷ drop n spans) (sym (add-one i))) in_order

-- ---- one more span

pub merge_each-next : (spans : List (ℕ × ℕ)) (i : ℕ) (d : ℕ × ℕ) (xs new : List Item) → i < length spans
    → new ≡ merge (get_or spans i d).0 (get_or spans i d).1 xs
    → merge_each (drop (i + 1) spans) new ≡ merge_each (drop i spans) xs
merge_each-next spans i d xs new lt is = rw (is, add-one, drop-cons spans i d) refl

pub all_merged-next : (spans : List (ℕ × ℕ)) (i : ℕ) (d : ℕ × ℕ) (b new : Buffer) → i < length spans
    → new ≡ merge_clusters (get_or spans i d).0 (get_or spans i d).1 b
    → all_merged (drop (i + 1) spans) new ≡ all_merged (drop i spans) b
all_merged-next spans i d b new lt is = rw (is, add-one, drop-cons spans i d) refl

-- ---- as many items

pub length-merge_each : (spans : List (ℕ × ℕ)) (xs : List Item) → length (merge_each spans xs) ≡ length xs
length-merge_each [] xs = refl
length-merge_each (span ∷ spans) xs = length-merge_each spans (merge span.0 span.1 xs) ∙ length-merge span.0 span.1 xs

pub length-all_merged : (spans : List (ℕ × ℕ)) (b : Buffer) → length (all_merged spans b).items ≡ length b.items
length-all_merged [] b = refl
length-all_merged (span ∷ spans) b =
    length-all_merged spans (merge_clusters span.0 span.1 b) ∙ length-merge_clusters span.0 span.1 b

pub length-spans_merged_out : (spans : List (ℕ × ℕ)) (b : Buffer) → length (spans_merged_out spans b).items ≡ length b.items
length-spans_merged_out [] b = refl
length-spans_merged_out (span ∷ spans) b =
    length-spans_merged_out spans (merge_out_clusters span.0 span.1 b) ∙ length-merge_out span.0 span.1 b

-- ---- the rest of the buffer

-- what depends on neither clusters nor the defined flags stays
pub keys-all_merged : {B : Type 0} (key : Item → B) → IsKey key → (spans : List (ℕ × ℕ)) (b : Buffer)
    → map key (all_merged spans b).items ≡ map key b.items
keys-all_merged key is_key [] b = refl
keys-all_merged key is_key (span ∷ spans) b =
    keys-all_merged key is_key spans (merge_clusters span.0 span.1 b) ∙ keys-merge_clusters key is_key span.0 span.1 b

pub without_items-all_merged : (spans : List (ℕ × ℕ)) (b : Buffer) → without_items (all_merged spans b) ≡ without_items b
without_items-all_merged [] b = refl
without_items-all_merged (span ∷ spans) b =
    without_items-all_merged spans (merge_clusters span.0 span.1 b) ∙ without_items-merge_clusters span.0 span.1 b

merge_out_is : (start end : ℕ) (b : Buffer) → merge_out_clusters start end b ≡ record b { items = (merge_out_clusters start end b).items }
merge_out_is start end b = merge_out-cases (λ c. c ≡ record b { items = c.items }) start end b refl refl

-- merging out changes the items alone
pub spans_merged_out_is : (spans : List (ℕ × ℕ)) (b : Buffer)
    → spans_merged_out spans b ≡ record b { items = (spans_merged_out spans b).items }
spans_merged_out_is [] b = refl
spans_merged_out_is (span ∷ spans) b =
    let merged : Buffer = merge_out_clusters span.0 span.1 b in
    spans_merged_out_is spans merged
    ∙ ap (λ (m : Buffer). record m { items = (spans_merged_out spans merged).items }) (merge_out_is span.0 span.1 b)

-- ---- the order of clusters, and the flags

-- the order of clusters and the flags are kept
abbrev PreservesBoth : Buffer → Buffer → Type 0
PreservesBoth b c = PreservesClusters (clusters b.items) (clusters c.items) × PreservesFlags b c

PreservesBoth-then : (a b c : Buffer) → PreservesBoth a b → PreservesBoth b c → PreservesBoth a c
PreservesBoth-then a b c first later =
    (PreservesClusters-then _ _ _ first.0 later.0, PreservesFlags-then a b c first.1 later.1)

pub all_merged_preserve : (from : ℕ) (spans : List (ℕ × ℕ)) (b c : Buffer) → AreSpansInOrder from (length b.items) spans
    → c ≡ all_merged spans b
    → PreservesClusters (clusters b.items) (clusters c.items) × PreservesFlags b c
all_merged_preserve from spans b c in_order e = rw e (each from spans b in_order) where
  each : (from : ℕ) (spans : List (ℕ × ℕ)) (b : Buffer) → AreSpansInOrder from (length b.items) spans → PreservesBoth b (all_merged spans b)
  each from [] b in_order = (PreservesClusters-same (clusters b.items), PreservesFlags-same b)
  each from (span ∷ spans) b in_order =
      let merged = merge_clusters span.0 span.1 b in
      PreservesBoth-then b merged _ (merged_preserves span.0 span.1 b merged in_order.2 refl)
      (each span.0 spans merged (rw (length-merge_clusters span.0 span.1 b) in_order.3))

pub spans_merged_out_preserve : (from : ℕ) (spans : List (ℕ × ℕ)) (b c : Buffer) → AreSpansInOrder from (length b.items) spans
    → c ≡ spans_merged_out spans b
    → PreservesClusters (clusters b.items) (clusters c.items) × PreservesFlags b c
spans_merged_out_preserve from spans b c in_order e = rw e (each from spans b in_order) where
  each : (from : ℕ) (spans : List (ℕ × ℕ)) (b : Buffer) → AreSpansInOrder from (length b.items) spans
      → PreservesBoth b (spans_merged_out spans b)
  each from [] b in_order = (PreservesClusters-same (clusters b.items), PreservesFlags-same b)
  each from (span ∷ spans) b in_order =
      let merged = merge_out_clusters span.0 span.1 b in
      PreservesBoth-then b merged _ (merged_out_preserves span.0 span.1 b merged in_order.2 refl)
      (each span.0 spans merged (rw (length-merge_out span.0 span.1 b) in_order.3))

-- ---- at each level

-- at the monotone levels the items are merged
all_merged-monotone : (spans : List (ℕ × ℕ)) (b : Buffer) → IsMonotoneLevel b.cluster_level
    → all_merged spans b ≡ record b { items = merge_each spans b.items }
all_merged-monotone [] b monotone = refl
all_merged-monotone (span ∷ spans) b monotone =
    ap (all_merged spans) (merge_clusters-monotone span.0 span.1 b monotone)
    ∙ all_merged-monotone spans (merge_at span.0 span.1 b) monotone

pub spans_merged_out-monotone : (spans : List (ℕ × ℕ)) (b : Buffer) → IsMonotoneLevel b.cluster_level
    → spans_merged_out spans b ≡ record b { items = merge_each spans b.items }
spans_merged_out-monotone [] b monotone = refl
spans_merged_out-monotone (span ∷ spans) b monotone =
    ap (spans_merged_out spans) (merge_out-monotone span.0 span.1 b monotone)
    ∙ spans_merged_out-monotone spans (merge_at span.0 span.1 b) monotone

-- at level CHARACTERS merging out changes nothing
pub spans_merged_out-characters : (spans : List (ℕ × ℕ)) (b : Buffer) → b.cluster_level ≡ Characters → spans_merged_out spans b ≡ b
spans_merged_out-characters [] b is = refl
spans_merged_out-characters (span ∷ spans) b is =
    let same : merge_out_clusters span.0 span.1 b ≡ b = rw is refl in
    ap (spans_merged_out spans) same ∙ spans_merged_out-characters spans b is

-- the items merged at once are the buffer merged span by span, at a level that merges
pub merged_at_once : (spans : List (ℕ × ℕ)) (b new : Buffer) → b.cluster_level ≢ Characters
    → new ≡ record b { items = merge_each spans b.items } → new ≡ all_merged spans b
merged_at_once spans b new merges e = elim (level_cases b.cluster_level) [
  | inl monotone ↦ e ∙ sym (all_merged-monotone spans b monotone)
  | inr is ↦ absurd (merges is)
]

pub merged_out_at_once : (spans : List (ℕ × ℕ)) (b new : Buffer) → b.cluster_level ≢ Characters
    → new ≡ record b { items = merge_each spans b.items } → new ≡ spans_merged_out spans b
merged_out_at_once spans b new merges e = elim (level_cases b.cluster_level) [
  | inl monotone ↦ e ∙ sym (spans_merged_out-monotone spans b monotone)
  | inr is ↦ absurd (merges is)
]

-- at a level that merges, merging out is merging
pub spans_merged_out-merged : (spans : List (ℕ × ℕ)) (b : Buffer) → b.cluster_level ≢ Characters
    → spans_merged_out spans b ≡ all_merged spans b
spans_merged_out-merged spans b merges = merged_at_once spans b (spans_merged_out spans b) merges (elim (level_cases b.cluster_level) [
  | inl monotone ↦ spans_merged_out-monotone spans b monotone
  | inr is ↦ absurd (merges is)
])

-- spans that make the same of the items make the same of the buffer
pub spans_merged_out-equal : (spans others : List (ℕ × ℕ)) (b : Buffer) → merge_each spans b.items ≡ merge_each others b.items
    → spans_merged_out spans b ≡ spans_merged_out others b
spans_merged_out-equal spans others b same = elim (level_cases b.cluster_level) [
  | inl monotone ↦ spans_merged_out-monotone spans b monotone ∙ ap (λ (xs : List Item). record b { items = xs }) same
      ∙ sym (spans_merged_out-monotone others b monotone)
  | inr is ↦ spans_merged_out-characters spans b is ∙ sym (spans_merged_out-characters others b is)
]
