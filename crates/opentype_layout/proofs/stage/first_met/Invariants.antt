use Rattle.std.proofs.Common.{◌≤◌, ◌-◌, length}
use Rattle.opentype_layout.specs.Stage.{SkipsTo}
use Rattle.opentype_layout.proofs.stage.first_met.Given as goal

abbrev pub invariant-loop-met : goal.invariant-loop-met
invariant-loop-met l = record {
  inside : l.met.next ≤ length l.stage.maps.now;
  skipped : SkipsTo l.stage.tables l.stage.maps.now l.buffer.items (record { next = 0; left = l.buffer.max_ops }) l.met;
}

abbrev pub decreases-loop-met : goal.decreases-loop-met
decreases-loop-met l = length l.stage.maps.now - l.met.next
