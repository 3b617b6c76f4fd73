use Rattle.std.proofs.Common.{◌≡◌, ℕ, ◌-◌, ◌≤◌, length, drop}
use Rattle.text_items.specs.Ranges.{number_at}
use Rattle.text_items.proofs.ranges.past_ended.Given as goal

abbrev pub invariant-loop-next : goal.invariant-loop-next
invariant-loop-next l = (at : ℕ) → l.offset ≤ at → number_at (drop l.next l.ranges) at ≡ number_at (drop l.fn.place l.ranges) at

abbrev pub decreases-loop-next : goal.decreases-loop-next
decreases-loop-next l = length l.ranges - l.next
