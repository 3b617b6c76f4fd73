-- Merging depends on the clusters and the masks of items, and leaves all else of them.
use Rattle.std.proofs.Common.{◌≡◌, ℕ, true, false, if◌then◌else◌, ◌==◌, List, [], ◌∷◌, map, refl, sym, ap, ap₂, ◌∙◌, inl, inr}
use Rattle.std.specs.List.{zip}
use Rattle.shape_items.specs.Buffer.{Buffer}
use Rattle.shape_items.specs.BufferClusters.{merge_out_clusters}
use Rattle.shape_items.specs.Clusters.{clusters, merge}
use Rattle.shape_items.specs.Items.{Item, put_in, feature_bits}
use Rattle.shape_items.specs.Spans.{merge_each, spans_merged_out}
use Rattle.shape_common.specs.declared.flags.ScratchFlags.{ScratchFlags}
use Rattle.shape_items.proofs.Merging.ClusterLemmas.{level_cases}
use Rattle.shape_items.proofs.Merging.KeyLemmas.{IsKey, keys-merge_out}
use Rattle.shape_items.proofs.MergingInOrder.EachSpanLemmas.{spans_merged_out-monotone, spans_merged_out-characters}
use Rattle.shape_normalize.specs.RoundThree.{cluster_and_mask}
use Rattle.shape_normalize.proofs.RoundTwo.ByClusterLemmas.{clusters-merge-same, put_each, merge-put_each}

-- a cluster and a mask that are put in a cluster
put_mark : ℕ × ℕ → ℕ → ℕ × ℕ
put_mark m c = if m.0 == c then m else (c, feature_bits m.1)

marks-put_in : (c : ℕ) (x : Item) → cluster_and_mask (put_in c x) ≡ put_mark (cluster_and_mask x) c
unfolding put_mark
marks-put_in c x =
    elim (x.cluster == c) as (λ t. cluster_and_mask (if t then x else record x { cluster = c; mask = feature_bits x.mask })
    ≡ (if t then (x.cluster, x.mask) else (c, feature_bits x.mask))) [
      | true ↦ refl
      | false ↦ refl
    ]

marks-put_each : (xs : List Item) (cs : List ℕ)
    → map cluster_and_mask (put_each xs cs) ≡ map (λ p. put_mark p.0 p.1) (zip (map cluster_and_mask xs) cs)
marks-put_each [] cs = refl
marks-put_each (x ∷ xs) [] = refl
marks-put_each (x ∷ xs) (c ∷ cs) = ap₂ ◌∷◌ (marks-put_in c x) (marks-put_each xs cs)

clusters_of_marks : (xs : List Item) → clusters xs ≡ map (λ m. m.0) (map cluster_and_mask xs)
clusters_of_marks [] = refl
clusters_of_marks (x ∷ xs) = ap (λ l. x.cluster ∷ l) (clusters_of_marks xs)

-- lists of the same clusters and masks have the same once they are merged
marks-merge : (start end : ℕ) (xs ys : List Item) → map cluster_and_mask xs ≡ map cluster_and_mask ys
    → map cluster_and_mask (merge start end xs) ≡ map cluster_and_mask (merge start end ys)
marks-merge start end xs ys same =
    let both : clusters xs ≡ clusters ys = clusters_of_marks xs ∙ ap (map (λ m. m.0)) same ∙ sym (clusters_of_marks ys) in
    ap (map cluster_and_mask) (merge-put_each start end xs)
    ∙ marks-put_each xs (clusters (merge start end xs))
    ∙ ap₂ (λ ms cs. map (λ p. put_mark p.0 p.1) (zip ms cs)) same (clusters-merge-same start end xs ys both)
    ∙ sym (ap (map cluster_and_mask) (merge-put_each start end ys) ∙ marks-put_each ys (clusters (merge start end ys)))

marks-merge_each : (spans : List (ℕ × ℕ)) (xs ys : List Item) → map cluster_and_mask xs ≡ map cluster_and_mask ys
    → map cluster_and_mask (merge_each spans xs) ≡ map cluster_and_mask (merge_each spans ys)
marks-merge_each [] xs ys same = same
marks-merge_each (span ∷ spans) xs ys same =
    marks-merge_each spans (merge span.0 span.1 xs) (merge span.0 span.1 ys) (marks-merge span.0 span.1 xs ys same)

-- and so have buffers of one level
pub marks-merged_out : (spans : List (ℕ × ℕ)) (b : Buffer) (xs : List Item) (flags : ScratchFlags)
    → map cluster_and_mask xs ≡ map cluster_and_mask b.items
    → map cluster_and_mask (spans_merged_out spans (record b { items = xs; scratch_flags = flags })).items
    ≡ map cluster_and_mask (spans_merged_out spans b).items
marks-merged_out spans b xs flags same =
    let c : Buffer = record b { items = xs; scratch_flags = flags } in
    let marks = λ (d : Buffer). map cluster_and_mask d.items in
    elim (level_cases b.cluster_level) [
      | inl monotone ↦ ap marks (spans_merged_out-monotone spans c monotone) ∙ marks-merge_each spans xs b.items same
          ∙ sym (ap marks (spans_merged_out-monotone spans b monotone))
      | inr is ↦ ap marks (spans_merged_out-characters spans c is) ∙ same
          ∙ sym (ap marks (spans_merged_out-characters spans b is))
    ]

-- all else of an item
abbrev pub bare : Item → Item
bare item = record item { cluster = 0; mask = 0 }

IsKey-bare : IsKey bare
IsKey-bare = record { by_cluster = λ item cluster. refl; by_break = λ item. refl }

pub bare-merged_out : (spans : List (ℕ × ℕ)) (b : Buffer) → map bare (spans_merged_out spans b).items ≡ map bare b.items
bare-merged_out [] b = refl
bare-merged_out (span ∷ spans) b =
    bare-merged_out spans (merge_out_clusters span.0 span.1 b) ∙ keys-merge_out bare IsKey-bare span.0 span.1 b
