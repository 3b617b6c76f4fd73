-- What can be cut into lines, on small cases whose answers are worked out by hand.
use Rattle.std.specs.Prelude.{ℕ, List, [], ◌∷◌}
use Rattle.shape_items.specs.Buffer.{Buffer, new_buffer}
use Rattle.shape_items.specs.Items.{Item, new_item}
use Rattle.shape_lines.specs.CanCut.{CanCut}

-- a glyph in a cluster, with a mask
abbrev pub marked : ℕ → ℕ → Item
marked cluster mask = record (new_item 0x61 cluster) { mask = mask }

-- glyphs in these clusters, without flags
abbrev pub in_clusters : List ℕ → List Item
in_clusters [] = []
in_clusters (cluster ∷ clusters) = marked cluster 0 ∷ in_clusters clusters

abbrev pub of_items : List Item → Buffer
of_items items = record new_buffer { items = items }

abbrev pub CanCutClusters : List ℕ → ℕ → Type 0
CanCutClusters clusters text_end = CanCut (of_items (in_clusters clusters)) text_end

-- two glyphs in these clusters with these masks, in a text that ends at 9
abbrev pub CanCutMasks : ℕ → ℕ → ℕ → ℕ → Type 0
CanCutMasks cluster mask next next_mask = CanCut (of_items (marked cluster mask ∷ marked next next_mask ∷ [])) 9

pub record WorkedCanCut : Type 0 where
  pub none : CanCutClusters [] 0
  pub rising : CanCutClusters (0 ∷ 0 ∷ 2 ∷ []) 3
  pub falling : CanCutClusters (2 ∷ 0 ∷ 0 ∷ []) 3
  pub one_cluster : CanCutClusters (4 ∷ 4 ∷ []) 5
  pub flags_of_two_clusters : CanCutMasks 0 1 2 0
  pub features_of_one_cluster : CanCutMasks 0 9 0 17

pub record WorkedCannotCut : Type 0 where
  pub rising_then_falling : CanCutClusters (0 ∷ 2 ∷ 1 ∷ []) 9 → ⊥
  pub at_the_end : CanCutClusters (0 ∷ 2 ∷ []) 2 → ⊥
  pub first_at_the_end : CanCutClusters (2 ∷ 0 ∷ []) 2 → ⊥
  pub break_of_one : CanCutMasks 0 1 0 0 → ⊥
  pub concat_of_one : CanCutMasks 0 0 0 2 → ⊥
  pub tatweel_of_one : CanCutMasks 0 4 0 0 → ⊥
