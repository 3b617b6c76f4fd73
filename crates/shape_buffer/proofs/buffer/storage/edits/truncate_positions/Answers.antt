use Rattle.shape_common.specs.Positions.{zero_position}
use Rattle.shape_buffer.proofs.FillLemmas.{taken_filled}
use Rattle.shape_buffer.proofs.buffer.storage.edits.truncate_positions.Goals as goal

pub returns-clause-zeros : goal.returns-clause-zeros
returns-clause-zeros c = λ one.
    taken_filled c.args.positions.now.items c.truncate.new.self.items c.args.len zero_position one c.truncate.ensures.items
