-- What attachment has marked unsafe to break, from a base on.
use Rattle.std.specs.Prelude.{◌≡◌, List, ◌≤◌, length, map, slice_range}
use Rattle.std.specs.Int.RustNames.{bit_or}
use Rattle.shape_common.specs.FlagNames.{UNSAFE}
use Rattle.shape_items.specs.Clusters.{least_cluster, mark_break}
use Rattle.shape_items.specs.Items.{Item}
use Rattle.layout_positions.specs.declared.flagged.Flagged.{Flagged}

-- the item marked, whatever its cluster is
abbrev pub unsafe_item : Item → Item
unsafe_item item = record item { mask = bit_or item.mask UNSAFE }

-- to mark the span again changes nothing, but for what is of its least cluster; up to place `low` that is marked, too
pub record IsFlagged (f : Flagged) (xs : List Item) : Type 0 where
  pub begins : f.from ≤ f.low
  pub goes_on : f.low ≤ f.to
  pub ends : f.to ≤ length xs
  pub least : f.least ≡ least_cluster (slice_range xs f.from f.to)
  pub whole : map unsafe_item (slice_range xs f.from f.low) ≡ slice_range xs f.from f.low
  pub others : map (mark_break f.least) (slice_range xs f.from f.to) ≡ slice_range xs f.from f.to
