-- What glyphs show of a text.
use Rattle.std.specs.Prelude.{◌≡◌, ℕ, ◌-◌, ◌<◌, ◌≤◌, ◌⊎◌, List, length, slice_index_or}
use Rattle.shape_items.specs.Items.{Item, new_item}

-- the cluster of the glyph at a place
abbrev pub cluster_at : List Item → ℕ → ℕ
cluster_at glyphs k = (slice_index_or glyphs k (new_item 0 0)).cluster

-- a span of text ends where a cluster of the glyphs begins, or with the text
abbrev pub EndsIn : List Item → ℕ → ℕ → Type 0
EndsIn glyphs text_len end = (end ≡ text_len) ⊎ ((k : ℕ) × (k < length glyphs) × (cluster_at glyphs k ≡ end))

-- the glyphs from place `start` up to `end` show the text from one cluster up to another: theirs lie in it, and each
-- cluster that does is one of theirs
pub record ShowsExactly (glyphs : List Item) (start end from to : ℕ) : Type 0 where
  pub theirs : (k : ℕ) → start ≤ k → k < end → (from ≤ cluster_at glyphs k) × (cluster_at glyphs k < to)
  pub no_other : (k : ℕ) → k < length glyphs → from ≤ cluster_at glyphs k → cluster_at glyphs k < to
      → (j : ℕ) × (start ≤ j) × (j < end) × (cluster_at glyphs j ≡ cluster_at glyphs k)

-- the glyphs of a span of text lie between the first and the last of them
pub record FirstToLast (glyphs : List Item) (from to count start end : ℕ) : Type 0 where
  pub ordered : start ≤ end
  pub within : end ≤ count
  pub inside : (k : ℕ) → k < count → from ≤ cluster_at glyphs k → cluster_at glyphs k < to → (start ≤ k) × (k < end)
  pub first : start < end → (from ≤ cluster_at glyphs start) × (cluster_at glyphs start < to)
  pub last : start < end → (from ≤ cluster_at glyphs (end - 1)) × (cluster_at glyphs (end - 1) < to)
