use Rattle.std.proofs.Common.{◌≡◌, ℕ, ◌<◌, ◌≤◌, length, get_or, drop}
use Rattle.text_items.specs.Scripts.{first_script, with_next}
use Rattle.text_items.proofs.ItemLemmas.{no_cluster}
use Rattle.text_items.proofs.clusters.look_ahead.Given as goal

abbrev pub invariant-loop-count : goal.invariant-loop-count
invariant-loop-count l = record {
  within : l.count ≤ length l.clusters;
  same_length : length l.clusters ≡ length l.fn.clusters;
  left : (k : ℕ) → k < l.count → get_or l.clusters k no_cluster ≡ get_or l.fn.clusters k no_cluster;
  done : drop l.count l.clusters ≡ with_next (drop l.count l.fn.clusters);
  next : l.next ≡ first_script (drop l.count l.fn.clusters);
}

abbrev pub decreases-loop-count : goal.decreases-loop-count
decreases-loop-count l = l.count
