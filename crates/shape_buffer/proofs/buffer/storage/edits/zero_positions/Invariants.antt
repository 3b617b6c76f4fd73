use Rattle.std.proofs.Common.{◌≡◌, ◌++◌, replicate, drop}
use Rattle.shape_common.specs.Positions.{zero_position}
use Rattle.shape_buffer.proofs.buffer.storage.edits.zero_positions.Given as goal

abbrev pub invariant-loop-position : goal.invariant-loop-position
invariant-loop-position l = l.positions ≡ replicate l.position-index zero_position ++ drop l.position-index l.fn.positions
