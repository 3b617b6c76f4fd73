-- What preparing makes of clusters that never fall.
use Rattle.std.specs.Prelude.{◌≡◌, ℕ, Bool, if◌then◌else◌, List, take, Contains}
use Rattle.std.specs.List.{flat_map}
use Rattle.shape_items.specs.Items.{Item}
use Rattle.shape_common.specs.declared.text_types.BufferClusterLevel.TheVariants.{MonotoneGraphemes}
use Rattle.shape_prepare.specs.Begun.{begun}
use Rattle.shape_items.specs.GraphemeSpans.{graphemes}
use Rattle.shape_prepare.specs.Graphemes.{graphemes_marked}
use Rattle.std.specs.List.Sorted.{IsNonDecreasing}
use Rattle.shape_items.specs.Buffer.{Buffer}
use Rattle.shape_items.specs.Clusters.{clusters}
use Rattle.shape_items.specs.ClusterOrder.{IsMonotoneLevel, IsOrderedFor}
use Rattle.shape_common.specs.Direction.{reverse_of}
use Rattle.shape_buffer.specs.Outcome.{run_steps}
use Rattle.shape_common.specs.declared.text_types.Direction.{Direction}
use Rattle.shape_plan.specs.Preservation.{CallsPreserveClusters}
use Rattle.shape_plan.specs.Run.{Run}
use Rattle.shape_prepare.specs.NativeOrder.{is_against, native_direction}
use Rattle.shape_prepare.specs.PrepareSteps.{grapheme_steps, prepare_steps}

-- the opposite direction if the list was reversed, else the same
abbrev pub direction_for : Bool → Direction → Direction
direction_for reversed direction = if reversed then reverse_of direction else direction

-- whether the native order reverses the list
abbrev pub is_reversed : Run → Buffer → Bool
is_reversed run b =
    let text = run_steps (grapheme_steps run) b in
    is_against (native_direction run.unicode text) text.direction

-- clusters are in order, and none is new; the direction tells whether the list was reversed; flags and level stay
pub record InOrderFor (reversed : Bool) (old new : Buffer) : Type 0 where
  pub order : IsOrderedFor reversed (clusters new.items)
  pub none_new : (k : ℕ) → Contains (clusters new.items) k → Contains (clusters old.items) k
  pub direction : new.direction ≡ direction_for reversed old.direction
  pub flags : new.flags ≡ old.flags
  pub level : new.cluster_level ≡ old.cluster_level

-- at the monotone levels, if the hooks preserve clusters, a text whose clusters never fall is prepared in order
abbrev pub PreparingPreservesOrder : Type 0
PreparingPreservesOrder =
    (run : Run) (target : Direction) (b : Buffer) → CallsPreserveClusters run → IsMonotoneLevel b.cluster_level
    → IsNonDecreasing (clusters b.items)
    → InOrderFor (is_reversed run b) b (run_steps (prepare_steps run target) b)

-- the clusters of the first characters of a list's graphemes
abbrev pub first_clusters : List Item → List ℕ
first_clusters items = flat_map (λ grapheme. take 1 (clusters grapheme)) (graphemes items)

-- the text with its graphemes marked, before a dotted circle
abbrev pub marked_text : Run → Buffer → Buffer
marked_text run b = graphemes_marked run.unicode (begun run.map.global_mask b)

-- at level MONOTONE_GRAPHEMES each cluster of the prepared text is that of the first character of a grapheme
abbrev pub PreparingPreservesFirsts : Type 0
PreparingPreservesFirsts =
    (run : Run) (target : Direction) (b : Buffer) → CallsPreserveClusters run → b.cluster_level ≡ MonotoneGraphemes
    → IsNonDecreasing (clusters b.items)
    → (k : ℕ) → Contains (clusters (run_steps (prepare_steps run target) b).items) k → Contains (first_clusters (marked_text run b).items) k
