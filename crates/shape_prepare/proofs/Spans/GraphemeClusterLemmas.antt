-- Graphemes that were merged stand in one cluster each.
use Rattle.std.proofs.Common.{◌≡◌, ℕ, false, List, [], ◌∷◌, length, map, fold, refl, sym, ap, ap₂, ◌∙◌, arith, inl, inr, subst}
use Rattle.std.proofs.lemmas.Bool.{cases_Bool}
use Rattle.std.proofs.lemmas.List.{take_at, drop_at}
use Rattle.std.specs.List.Sorted.{IsNonDecreasing}
use Rattle.canonical_form.specs.Divided.{divided, put_first}
use Rattle.canonical_form.proofs.Lists.DividedLemmas.{whole, whole-divided, sizes-bits}
use Rattle.shape_items.specs.Buffer.{Buffer}
use Rattle.shape_items.specs.BufferClusters.{merge_clusters, merge_at}
use Rattle.shape_items.specs.Clusters.{clusters, merge}
use Rattle.shape_items.specs.ClusterOrder.{IsMonotoneLevel}
use Rattle.shape_items.specs.Items.{Item}
use Rattle.shape_items.proofs.Merging.ClusterLemmas.{merge_clusters-monotone}
use Rattle.shape_items.proofs.Order.GraphemeOrderLemmas.{AreOneCluster}
use Rattle.shape_items.proofs.Merging.KeyLemmas.{keys-merge}
use Rattle.shape_items.specs.GraphemeSpans.{grapheme_spans, graphemes, is_continuation}
use Rattle.shape_prepare.specs.NativeOrder.{parted}
use Rattle.shape_items.proofs.MergingInOrder.GraphemeWalkLemmas.{IsKey-continuation}
use Rattle.shape_prepare.proofs.Spans.RisingMergeLemmas.{all_merged, parts-merged, parts-one_cluster, SomeEach, Merged}
use Rattle.shape_prepare.proofs.Spans.ReversalLemmas.{total, total-lengths}

-- at a monotone level a walk that merges changes items alone
pub spans-merged : (spans : List (ℕ × ℕ)) (b : Buffer) → IsMonotoneLevel b.cluster_level
    → fold (λ b span. merge_clusters span.0 span.1 b) b spans ≡ record b { items = all_merged spans b.items }
spans-merged [] b monotone = refl
spans-merged (span ∷ spans) b monotone =
    ap (λ (b : Buffer). fold (λ (b : Buffer) (span : ℕ × ℕ). merge_clusters span.0 span.1 b) b spans)
    (merge_clusters-monotone span.0 span.1 b monotone)
    ∙ spans-merged spans (merge_at span.0 span.1 b) monotone

-- merging changes no bit
bits-merged : (spans : List (ℕ × ℕ)) (xs : List Item) → map is_continuation (all_merged spans xs) ≡ map is_continuation xs
bits-merged [] xs = refl
bits-merged (span ∷ spans) xs = bits-merged spans (merge span.0 span.1 xs) ∙ keys-merge is_continuation IsKey-continuation span.0 span.1 xs

some-put_first : {A : Type 0} (x : A) (parts : List (List A)) → SomeEach (map length parts) → SomeEach (map length (put_first x parts))
some-put_first x [] some = (omega arith, tt)
some-put_first x (part ∷ parts) some = (omega arith, some.1)

-- no grapheme is empty
pub some-graphemes : (xs : List Item) → SomeEach (map length (graphemes xs))
some-graphemes [] = tt
some-graphemes (x ∷ []) = (omega arith, tt)
some-graphemes (x ∷ y ∷ rest) = elim (cases_Bool (is_continuation y)) [
  | inl on ↦ rw on (some-put_first x (graphemes (y ∷ rest)) (some-graphemes (y ∷ rest)))
  | inr off ↦ rw off (omega arith, some-graphemes (y ∷ rest))
]

-- a list in parts of their sizes
parted-whole : {A : Type 0} (parts : List (List A)) → parted (map length parts) (whole parts) ≡ parts
parted-whole [] = refl
parted-whole {A} (part ∷ parts) =
    ap₂ (λ (a : List A) (l : List A). a ∷ parted (map length parts) l) (take_at part (whole parts) (length part) refl)
    (drop_at part (whole parts) (length part) refl)
    ∙ ap (λ (l : List (List A)). part ∷ l) (parted-whole parts)

pub parted-graphemes : (xs : List Item) (sizes : List ℕ) → map length (graphemes xs) ≡ sizes → parted sizes xs ≡ graphemes xs
parted-graphemes xs sizes same =
    ap₂ (λ (ns : List ℕ) (l : List Item). parted ns l) (sym same) (sym (whole-divided is_continuation xs)) ∙ parted-whole (graphemes xs)

pub total-graphemes : (xs : List Item) → total (map length (graphemes xs)) ≡ length xs
total-graphemes xs = total-lengths (graphemes xs) ∙ ap length (whole-divided is_continuation xs)

-- the merged list of a list whose clusters rise
abbrev pub graphemes_merged : List Item → List Item
graphemes_merged xs = all_merged (grapheme_spans xs) xs

pub sizes-merged : (xs : List Item) → map length (graphemes (graphemes_merged xs)) ≡ map length (graphemes xs)
sizes-merged xs =
    sizes-bits is_continuation (graphemes_merged xs)
    ∙ ap (λ bits. map length (divided (λ bit. bit) bits)) (bits-merged (grapheme_spans xs) xs)
    ∙ sym (sizes-bits is_continuation xs)

pub merged-parts : (xs : List Item) → IsNonDecreasing (clusters xs) → Merged 0 (map length (graphemes xs)) xs (graphemes_merged xs)
merged-parts xs rising =
    let sizes = map length (graphemes xs) in
    parts-merged 0 sizes xs rising (some-graphemes xs) (omega (arith, total-graphemes xs))

pub merged-one_cluster : (xs : List Item) → IsNonDecreasing (clusters xs) → AreOneCluster (graphemes (graphemes_merged xs))
merged-one_cluster xs rising =
    subst AreOneCluster (parted-graphemes (graphemes_merged xs) (map length (graphemes xs)) (sizes-merged xs))
    (parts-one_cluster 0 (map length (graphemes xs)) (graphemes_merged xs) (merged-parts xs rising).one)

-- ---- graphemes of one item

-- no item after the first continues
abbrev pub NoneContinues : List Item → Type 0
NoneContinues [] = Unit {0}
NoneContinues (x ∷ xs) = (is_continuation x ≡ false) × NoneContinues xs

pub single-one_cluster : (xs : List Item) → NoneContinues xs → AreOneCluster (graphemes xs)
single-one_cluster [] none = tt
single-one_cluster (x ∷ []) none = ((x.cluster, refl), tt)
single-one_cluster (x ∷ y ∷ rest) none = rw none.1.0 ((x.cluster, refl), single-one_cluster (y ∷ rest) none.1)
