-- How many items a merging writes beside its span, on cases that are worked out by hand.
use Rattle.std.specs.Prelude.{◌≡◌, ℕ, List, [], ◌∷◌, map, refl}
use Rattle.shape_common.specs.declared.text_types.BufferClusterLevel.{BufferClusterLevel}
use Rattle.shape_common.specs.declared.text_types.BufferClusterLevel.TheVariants.{MonotoneGraphemes, MonotoneCharacters, Characters}
use Rattle.shape_items.specs.Buffer.{new_buffer}
use Rattle.shape_items.specs.Items.{new_item}
use Rattle.shape_items.specs.Merging.{merged_beside}

-- items of these clusters, a span from one place to another, and how many are written beside it
abbrev pub BesideAt : BufferClusterLevel → ℕ → ℕ → List ℕ → ℕ → Type 0
BesideAt level at last clusters count =
    merged_beside at last (record new_buffer { items = map (new_item 0x644) clusters; cluster_level = level }) ≡ count

abbrev pub Beside : ℕ → ℕ → List ℕ → ℕ → Type 0
Beside at last clusters count = BesideAt MonotoneGraphemes at last clusters count

pub record MergingWorked : Type 0 where
  pub none : Beside 1 2 (4 ∷ 3 ∷ 2 ∷ 1 ∷ []) 0
  pub before : Beside 2 3 (3 ∷ 3 ∷ 3 ∷ 2 ∷ 1 ∷ []) 2
  pub up_to_another : Beside 2 3 (4 ∷ 3 ∷ 3 ∷ 2 ∷ []) 1
  pub after : Beside 0 1 (0 ∷ 1 ∷ 1 ∷ 1 ∷ 2 ∷ []) 2
  pub up_to_the_end : Beside 1 2 (0 ∷ 1 ∷ 2 ∷ 2 ∷ []) 1
  -- the least cluster is that of an item between them
  pub on_both_sides : Beside 1 3 (2 ∷ 2 ∷ 1 ∷ 3 ∷ 3 ∷ 3 ∷ []) 3
  -- items in the least cluster aren't written
  pub least_first : Beside 2 3 (1 ∷ 1 ∷ 1 ∷ 2 ∷ []) 0
  pub least_last : Beside 0 1 (3 ∷ 2 ∷ 2 ∷ 2 ∷ []) 0
  pub one_cluster : Beside 1 2 (2 ∷ 2 ∷ 2 ∷ 2 ∷ []) 0
  pub no_span : Beside 1 0 (1 ∷ 1 ∷ 1 ∷ []) 0
  pub by_characters : BesideAt MonotoneCharacters 2 3 (3 ∷ 3 ∷ 3 ∷ 2 ∷ []) 2
  pub not_merged : BesideAt Characters 2 3 (3 ∷ 3 ∷ 3 ∷ 2 ∷ []) 0

pub merging_worked : MergingWorked
merging_worked = record {
  none = refl;
  before = refl;
  up_to_another = refl;
  after = refl;
  up_to_the_end = refl;
  on_both_sides = refl;
  least_first = refl;
  least_last = refl;
  one_cluster = refl;
  no_span = refl;
  by_characters = refl;
  not_merged = refl;
}
