use Rattle.std.proofs.Common.{◌≡◌, ◌++◌, drop}
use Rattle.text_items.specs.Items.{joined, joined_from, singles, singles_from}
use Rattle.text_items.proofs.items.joined.Given as goal

abbrev pub invariant-loop-cluster : goal.invariant-loop-cluster
invariant-loop-cluster l =
    l.items.items ++ joined_from l.item (singles_from l.context (drop l.cluster-index l.rest)) ≡ joined (singles l.clusters)
