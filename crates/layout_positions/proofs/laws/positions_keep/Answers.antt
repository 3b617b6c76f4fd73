use Rattle.layout_positions.proofs.PreservationLemmas.{started-kept, positioned-kept, finished-kept}
use Rattle.layout_positions.proofs.laws.positions_keep.Goals as goal

pub returns-clause-start : goal.returns-clause-start
returns-clause-start c = started-kept

pub returns-clause-lookups : goal.returns-clause-lookups
returns-clause-lookups c = positioned-kept

pub returns-clause-offsets : goal.returns-clause-offsets
returns-clause-offsets c = finished-kept
