-- Clusters put in order, on lists worked out by hand.
use Rattle.std.specs.Prelude.{◌≡◌, ℕ, Bool, true, false, List, [], ◌∷◌, map, refl}
use Rattle.shape_items.specs.Buffer.{Buffer, new_buffer}
use Rattle.shape_items.specs.Clusters.{clusters}
use Rattle.shape_items.specs.Items.{new_item}
use Rattle.shape_common.specs.declared.text_types.BufferClusterLevel.{BufferClusterLevel}
use Rattle.shape_common.specs.declared.text_types.BufferClusterLevel.TheVariants.{MonotoneGraphemes, MonotoneCharacters, Characters}
use Rattle.cluster_order.specs.Ordered.{joined_for, clusters_ordered}

-- letters in these clusters, at a level
abbrev pub letters_in : BufferClusterLevel → List ℕ → Buffer
letters_in level ks = record new_buffer { cluster_level = level; items = map (λ k. new_item 0x915 k) ks }

-- their clusters, put in order
abbrev pub ordered_at : BufferClusterLevel → Bool → List ℕ → List ℕ
ordered_at level backward ks = clusters (clusters_ordered backward (letters_in level ks)).items

-- the masks of two letters, the first of which stands in cluster 1 and the second in cluster 0
abbrev pub masks_after : ℕ → ℕ → List ℕ
masks_after first second =
    map (λ item. item.mask)
    (joined_for false (record (new_item 0x915 1) { mask = first } ∷ record (new_item 0x93F 0) { mask = second } ∷ []))

-- a sign before its letter takes both into one cluster, and what stands beside them stays; each cluster is the least of those that
-- come later in the text's direction; a list in order stays; so does each at level CHARACTERS; who joins a cluster loses its flags
pub record WorkedOrdered : Type 0 where
  pub sign : ordered_at MonotoneGraphemes false (0 ∷ 2 ∷ 1 ∷ 3 ∷ []) ≡ 0 ∷ 1 ∷ 1 ∷ 3 ∷ []
  pub sign_backward : ordered_at MonotoneGraphemes true (3 ∷ 1 ∷ 2 ∷ 0 ∷ []) ≡ 3 ∷ 1 ∷ 1 ∷ 0 ∷ []
  pub two_before : ordered_at MonotoneCharacters false (2 ∷ 3 ∷ 1 ∷ 4 ∷ []) ≡ 1 ∷ 1 ∷ 1 ∷ 4 ∷ []
  pub falling : ordered_at MonotoneCharacters false (3 ∷ 2 ∷ 1 ∷ 0 ∷ []) ≡ 0 ∷ 0 ∷ 0 ∷ 0 ∷ []
  pub rising_backward : ordered_at MonotoneCharacters true (0 ∷ 1 ∷ 2 ∷ []) ≡ 0 ∷ 0 ∷ 0 ∷ []
  pub in_order : ordered_at MonotoneGraphemes false (0 ∷ 0 ∷ 1 ∷ 5 ∷ []) ≡ 0 ∷ 0 ∷ 1 ∷ 5 ∷ []
  pub characters : ordered_at Characters false (2 ∷ 1 ∷ []) ≡ 2 ∷ 1 ∷ []
  pub flags : masks_after 0x107 3 ≡ 0x100 ∷ 3 ∷ []

pub worked_ordered : WorkedOrdered
unfolding clusters_ordered
worked_ordered = record {
  sign = refl;
  sign_backward = refl;
  two_before = refl;
  falling = refl;
  rising_backward = refl;
  in_order = refl;
  characters = refl;
  flags = refl;
}
