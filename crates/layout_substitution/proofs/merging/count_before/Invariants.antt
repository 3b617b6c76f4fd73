use Rattle.std.proofs.Common.{◌≡◌, ◌+◌, ◌-◌, take}
use Rattle.std.specs.List.{suffix_len}
use Rattle.shape_items.specs.Items.{has_cluster}
use Rattle.layout_substitution.proofs.merging.count_before.Given as goal

-- so many stand there, and those before them
abbrev pub invariant-loop-n : goal.invariant-loop-n
invariant-loop-n l =
    suffix_len (has_cluster l.cluster) (take l.at l.items) ≡ l.n + suffix_len (has_cluster l.cluster) (take (l.at - l.n) l.items)
