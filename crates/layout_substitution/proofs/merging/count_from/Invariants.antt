use Rattle.std.proofs.Common.{◌≡◌, ◌+◌, ◌-◌, drop}
use Rattle.std.specs.List.{prefix_len}
use Rattle.shape_items.specs.Items.{has_cluster}
use Rattle.layout_substitution.proofs.merging.count_from.Given as goal

-- so many stand there, and those after them
abbrev pub invariant-loop-i : goal.invariant-loop-i
invariant-loop-i l =
    prefix_len (has_cluster l.cluster) (drop l.from l.items)
    ≡ l.i - l.from + prefix_len (has_cluster l.cluster) (drop l.i l.items)
