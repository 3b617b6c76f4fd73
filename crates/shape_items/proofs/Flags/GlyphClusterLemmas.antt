-- The clusters of a list, span by span.
use Rattle.std.proofs.Common.{◌≡◌, ℕ, suc, ◌+◌, ◌-◌, ◌<◌, ◌≤◌, true, false, inl, inr, List, [], ◌∷◌, ◌++◌, length, take, drop, slice_range, append_assoc, refl, ap, sym, ◌∙◌, arith}
use Rattle.std.proofs.lemmas.Bool.{cases_Bool}
use Rattle.std.proofs.lemmas.Bool.Decides.{nat_tests}
use Rattle.std.proofs.lemmas.List.{drop-drop, length-drop, length-take-le}
use Rattle.std.specs.List.{prefix_len}
use Rattle.canonical_form.specs.Divided.{put_first}
use Rattle.shape_items.specs.Flags.{cluster_runs}
use Rattle.shape_items.specs.GlyphClusters.{cluster_of, clusters_of, run_length}
use Rattle.shape_items.specs.Items.{Item, has_cluster}
use Rattle.shape_items.specs.declared.clusters.glyph_clusters.GlyphCluster.{GlyphCluster}
use Rattle.shape_common.specs.declared.positions.GlyphPosition.{GlyphPosition}
use Rattle.shape_common.specs.declared.text_types.Direction.{Direction}

-- the first item has its own cluster
own : (x : Item) → has_cluster x.cluster x ≡ true
own x = grind (arith, nat_tests)

pub run_length-some : (xs : List Item) → 0 < length xs → 0 < run_length xs
run_length-some [] some = absurd (omega arith)
run_length-some (x ∷ xs) some = rw (own x) (omega arith)

-- the first span goes on as long as the cluster does, and the others are those of what follows
first_span : (c : ℕ) (x : Item) (xs : List Item) → x.cluster ≡ c
    → cluster_runs (x ∷ xs) ≡ (x ∷ take (prefix_len (has_cluster c) xs) xs) ∷ cluster_runs (drop (prefix_len (has_cluster c) xs) xs)
first_span c x [] is = refl
first_span c x (y ∷ ys) is = elim (cases_Bool (has_cluster c y)) [
  | inl here ↦
      let same : y.cluster ≡ c = grind (arith, nat_tests) in
      let goes_on : has_cluster x.cluster y ≡ true = grind (arith, nat_tests) in
      let more : 1 + prefix_len (has_cluster c) ys ≡ suc (prefix_len (has_cluster c) ys) = omega arith in
      rw (goes_on, here, more) (ap (put_first x) (first_span c y ys same))
  | inr here ↦ let ends : has_cluster x.cluster y ≡ false = grind (arith, nat_tests) in rw (ends, here) refl
]

pub runs-first : (xs : List Item) → 0 < length xs → cluster_runs xs ≡ take (run_length xs) xs ∷ cluster_runs (drop (run_length xs) xs)
runs-first [] some = absurd (omega arith)
runs-first (x ∷ xs) some =
    let more : 1 + prefix_len (has_cluster x.cluster) xs ≡ suc (prefix_len (has_cluster x.cluster) xs) = omega arith in
    rw (own x, more) (first_span x.cluster x xs refl)

-- and so it is from any place on
pub runs-at : (xs : List Item) (start end : ℕ) → start < length xs → end ≡ start + run_length (drop start xs)
    → cluster_runs (drop start xs) ≡ slice_range xs start end ∷ cluster_runs (drop end xs)
runs-at xs start end within is =
    let n = run_length (drop start xs) in
    let count : end - start ≡ n = omega (arith, is) in
    rw count (runs-first (drop start xs) (rw (length-drop start xs) (omega (arith, within)))
    ∙ ap (λ ys. take n (drop start xs) ∷ cluster_runs ys) (drop-drop n start xs ∙ ap (λ k. drop k xs) (omega (arith, is))))

-- so one more span is put after those that were found
pub clusters-more : (direction : Direction) (positions : List GlyphPosition) (xs : List Item) (start end : ℕ) (found : List GlyphCluster)
    → start < length xs → end ≡ start + run_length (drop start xs) → end ≤ length xs
    → (found ++ cluster_of direction positions start (slice_range xs start end) ∷ [])
    ++ clusters_of direction positions end (cluster_runs (drop end xs))
    ≡ found ++ clusters_of direction positions start (cluster_runs (drop start xs))
clusters-more direction positions xs start end found within is fits =
    let long : start + length (slice_range xs start end) ≡ end = rw (length-take-le (end - start) (drop start xs)
    (rw (length-drop start xs) (omega arith))) (omega (arith, is)) in
    append_assoc found _ _
    ∙ ap (λ n. found ++ cluster_of direction positions start (slice_range xs start end) ∷ clusters_of direction positions n (cluster_runs (drop end xs)))
    (sym long)
    ∙ ap (λ runs. found ++ clusters_of direction positions start runs) (sym (runs-at xs start end within is))
