use Rattle.std.proofs.Common.{◌^◌, ◌-◌}
use Rattle.shapeline.proofs.engine.run.Given as goal

abbrev pub decreases-loop : goal.decreases-loop
decreases-loop g l = 2 ^ 128 - l.counter
