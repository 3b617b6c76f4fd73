-- What is promised of clusters: they come from the text, in the order of its direction.
use Rattle.std.specs.Prelude.{◌≡◌, ◌⊎◌, ℕ, true, List, Some, Contains}
use Rattle.std.specs.List.Sorted.{IsNonDecreasing}
use Rattle.cluster_order.specs.Ordering.{IsBringingNoCluster, IsOrdering}
use Rattle.shape_buffer.specs.Preservation.{IsClusterPreserving}
use Rattle.shape_items.specs.Buffer.{Buffer}
use Rattle.shape_items.specs.ClusterOrder.{IsMonotoneLevel, IsOrderedFor}
use Rattle.shape_items.specs.Clusters.{clusters}
use Rattle.shape_common.specs.Direction.{is_backward}
use Rattle.shape_common.specs.declared.text_types.BufferClusterLevel.TheVariants.{MonotoneGraphemes}
use Rattle.shape_common.specs.declared.text_types.Direction.{Direction}
use Rattle.shape_normalize.specs.Normalized.{HookPreservesClusters}
use Rattle.shape_plan.specs.Preservation.{CallsPreserveClusters, EachCalledLookup, EachCalledPause}
use Rattle.shape_plan.specs.Run.{Run}
use Rattle.shape_plan.specs.Shaper.{HookMeaning}
use Rattle.shape_prepare.specs.ClusterPoint.{first_clusters, marked_text}
use Rattle.shape_pipeline.specs.Shaped.{entered}

-- the cluster premises on lookups and hooks: they preserve clusters
pub record RunPreservesClusters (run : Run) : Type 0 where
  pub calls : CallsPreserveClusters run
  pub reordering : HookPreservesClusters run.rules

-- a run that ends in order: its last hook, `postprocess_glyphs`, puts clusters in the order of the plan's direction. Its pauses
-- bring no cluster, and may leave clusters out of order; all other calls preserve them
pub record EndsInOrder (run : Run) : Type 0 where
  pub lookups : EachCalledLookup IsClusterPreserving run
  pub hooks : HookMeaning
  pub used : run.hooks ≡ Some hooks
  pub preprocess : run.constants.has_preprocess_text ≡ true → IsClusterPreserving hooks.preprocess
  pub setup_masks : run.constants.has_setup_masks ≡ true → IsClusterPreserving hooks.setup_masks
  pub pause : run.constants.has_pause ≡ true → EachCalledPause IsBringingNoCluster run hooks
  pub given : run.constants.has_postprocess_glyphs ≡ true
  pub postprocess : IsOrdering (is_backward run.direction) hooks.postprocess
  pub reordering : HookPreservesClusters run.rules

-- a run orders clusters in one of these ways
abbrev pub RunOrdersClusters : Run → Type 0
RunOrdersClusters run = RunPreservesClusters run ⊎ EndsInOrder run

-- the clusters of the first characters of a text's graphemes
abbrev pub grapheme_clusters : Run → Buffer → List ℕ
grapheme_clusters run text = first_clusters (marked_text run (entered text)).items

-- the clusters of glyphs come from the text, at MONOTONE_GRAPHEMES from the first characters of its graphemes, and
-- stand in the order of the target direction
pub record ComesInOrder (run : Run) (target : Direction) (text glyphs : Buffer) : Type 0 where
  pub from_text : (k : ℕ) → Contains (clusters glyphs.items) k → Contains (clusters text.items) k
  pub from_firsts : text.cluster_level ≡ MonotoneGraphemes
      → (k : ℕ) → Contains (clusters glyphs.items) k → Contains (grapheme_clusters run text) k
  pub ordered : IsOrderedFor (is_backward target) (clusters glyphs.items)

-- so it is at the monotone levels, if the clusters of the text never fall
abbrev pub OrderIsKept : Run → Direction → Buffer → Buffer → Type 0
OrderIsKept run target text glyphs =
    IsMonotoneLevel text.cluster_level → IsNonDecreasing (clusters text.items) → ComesInOrder run target text glyphs

-- and if the run orders clusters
abbrev pub ClustersComeInOrder : Run → Direction → Buffer → Buffer → Type 0
ClustersComeInOrder run target text glyphs = RunOrdersClusters run → OrderIsKept run target text glyphs
