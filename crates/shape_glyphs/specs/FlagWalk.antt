-- The walk that gives each cluster one set of flags, and what it hands on from item to item.
use Rattle.std.specs.Prelude.{ℕ, ◌-◌, nat_lt, List, if◌then◌else◌}
use Rattle.std.specs.List.{prefix_len}
use Rattle.shape_items.specs.Items.{Item, has_cluster}
use Rattle.shape_items.specs.Flags.{first_united, handed_flags}
use Rattle.shape_common.specs.declared.flags.BufferFlags.{BufferFlags}
use Rattle.shape_glyphs.specs.declared.flags.HandedOn.{HandedOn}

-- what the first of some items hands on if a cluster begins with it: the flags of all that are in the cluster, and how
-- many are after it
abbrev pub handed_by_run : BufferFlags → ℕ → List Item → HandedOn
handed_by_run flags cluster items = record {
  mask = handed_flags flags (first_united cluster items);
  left = prefix_len (has_cluster cluster) items - 1;
}

-- what the first of some items hands on, after one that hands this on
abbrev pub handed_by : BufferFlags → HandedOn → ℕ → List Item → HandedOn
handed_by flags before cluster items =
    if nat_lt 0 before.left then record { mask = before.mask; left = before.left - 1 } else handed_by_run flags cluster items
