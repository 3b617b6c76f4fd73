use Rattle.std.proofs.Common.{◌≡◌, drop}
use Rattle.text_items.specs.Scripts.{first_script}
use Rattle.text_items.proofs.scripts.first_script.Given as goal

abbrev pub invariant-loop-cluster : goal.invariant-loop-cluster
invariant-loop-cluster l = first_script (drop l.cluster-index l.clusters) ≡ first_script l.clusters
