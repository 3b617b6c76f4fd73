use Rattle.std.proofs.Common.{◌≤◌, ◌-◌, length}
use Rattle.layout_context.specs.Digested.{HoldsFirst}
use Rattle.layout_context.proofs.run_digest.digest_of.Given as goal

abbrev pub invariant-loop-at : goal.invariant-loop-at
invariant-loop-at l = record {
  within : l.at ≤ length l.items;
  held : HoldsFirst l.all l.items l.at;
}

abbrev pub decreases-loop-at : goal.decreases-loop-at
decreases-loop-at l = length l.items - l.at
