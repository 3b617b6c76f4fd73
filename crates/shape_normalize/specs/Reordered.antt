-- What `reorder_marks` leaves as it was, and what it may change.
use Rattle.std.specs.Prelude.{◌≡◌, ◌⊎◌, ℕ, ◌<◌, map, take, drop, slice_range, All}
use Rattle.std.specs.Int.RustNames.{bit_or}
use Rattle.std.specs.List.Sorted.{IsPermutation}
use Rattle.shape_items.specs.Buffer.{Buffer}
use Rattle.shape_items.specs.Items.{Item, ccc_of_item, feature_bits}
use Rattle.shape_items.specs.PreservesFlags.{PreservesFlags}
use Rattle.shape_common.specs.declared.text_types.BufferClusterLevel.TheVariants.{Characters}
use Rattle.shape_plan.specs.Reorder.{with_ccc}
use Rattle.shape_common.specs.FlagNames.{HAS_GLYPH_FLAGS}

-- an item except for its cluster and its defined flags, which merging changes
abbrev pub unmerged : Item → Item
unmerged item = record item { cluster = 0; mask = feature_bits item.mask }

-- and except for its ccc, which the hook may set
abbrev pub without_ccc : Item → Item
without_ccc item = with_ccc 0 (unmerged item)

-- a run in another order: its items are permuted, except for clusters, defined flags and ccc, which stay nonzero;
-- before and after it all stays except clusters and defined flags; and of the buffer nothing else changes except the
-- scratch flag HAS_GLYPH_FLAGS, which may come at level CHARACTERS
pub record ReordersRun (start end : ℕ) (old new : Buffer) : Type 0 where
  pub run : IsPermutation (map without_ccc (slice_range old.items start end)) (map without_ccc (slice_range new.items start end))
  pub marks : All (λ item. 0 < ccc_of_item item) (slice_range new.items start end)
  pub before : map unmerged (take start new.items) ≡ map unmerged (take start old.items)
  pub behind : map unmerged (drop end new.items) ≡ map unmerged (drop end old.items)
  pub scratch : (new.scratch_flags.0 ≡ old.scratch_flags.0)
      ⊎ ((old.cluster_level ≡ Characters) × (new.scratch_flags.0 ≡ bit_or old.scratch_flags.0 HAS_GLYPH_FLAGS))
  pub flags : PreservesFlags old new
  pub rest : record new { items = old.items; scratch_flags = old.scratch_flags } ≡ old
