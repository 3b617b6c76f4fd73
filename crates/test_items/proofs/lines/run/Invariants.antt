use Rattle.std.proofs.Common.{◌^◌, ◌-◌}
use Rattle.test_items.proofs.lines.run.Given as goal

abbrev pub decreases-loop : goal.decreases-loop
decreases-loop g l = 2 ^ 128 - l.counter
