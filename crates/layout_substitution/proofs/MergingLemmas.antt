-- Walks over the items of a span, and over those beside it.
use Rattle.std.proofs.Common.{◌≡◌, ℕ, ◌+◌, ◌-◌, ◌<◌, ◌≤◌, ◌++◌, List, [], ◌∷◌, length, take, drop, get_or, min, slice_index, slice_range, refl, sym, ap, ◌∙◌, arith}
use Rattle.std.proofs.lemmas.List.{get_or-map, get_or_default, length-take, length-drop}
use Rattle.std.proofs.lemmas.List.Sums.{fold-append}
use Rattle.std.specs.List.{fold}
use Rattle.shape_items.specs.Items.{Item, new_item}
use Rattle.shape_items.specs.Clusters.{clusters, least_cluster}
use Rattle.shape_items.proofs.MergingInOrder.StandingLemmas.{slice_range-more}
use Rattle.layout_matching.specs.Skipping.{nth}

pub cluster_there : (xs : List Item) (i : ℕ) → i < length xs → slice_index (clusters xs) i ≡ (nth xs i).cluster
cluster_there xs i lt = get_or-map (λ (x : Item). x.cluster) xs i (new_item 0 0) 0 lt

least-longer : (xs : List Item) (y : Item) → 0 < length xs → least_cluster (xs ++ y ∷ []) ≡ min (least_cluster xs) y.cluster
least-longer [] y some = absurd (omega arith)
least-longer (x ∷ xs) y some = fold-append (λ (least : ℕ) (item : Item). min least item.cluster) x.cluster xs (y ∷ [])

one_more : (xs : List Item) (a i : ℕ) → a ≤ i → i < length xs → slice_range xs a (i + 1) ≡ slice_range xs a i ++ nth xs i ∷ []
one_more xs a i le lt = slice_range-more xs a i (nth xs i) le lt (get_or_default xs i (new_item 0 0) (nth xs i) lt)

pub least_first : (xs : List Item) (a : ℕ) → a < length xs → (nth xs a).cluster ≡ least_cluster (slice_range xs a (a + 1))
least_first xs a lt =
    let none : a - a ≡ 0 = omega arith in
    let empty : slice_range xs a a ≡ [] = rw none refl in
    sym (ap least_cluster (one_more xs a a (omega arith) lt ∙ ap (λ l. l ++ nth xs a ∷ []) empty))

pub least_next : (xs : List Item) (a i : ℕ) → a < i → i < length xs
    → min (least_cluster (slice_range xs a i)) (nth xs i).cluster ≡ least_cluster (slice_range xs a (i + 1))
least_next xs a i lt inside =
    let some : 0 < length (slice_range xs a i) = simp (length-take, length-drop) (omega arith) in
    sym (ap least_cluster (one_more xs a i (omega arith) inside) ∙ least-longer (slice_range xs a i) (nth xs i) some)
