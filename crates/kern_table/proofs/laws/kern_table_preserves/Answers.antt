use Rattle.kern_table.proofs.PreservationLemmas.{clusters-kern, flags-kern}
use Rattle.kern_table.proofs.laws.kern_table_preserves.Goals as goal

pub returns-clause-clusters : goal.returns-clause-clusters
returns-clause-clusters c = λ map face. clusters-kern face

pub returns-clause-flags : goal.returns-clause-flags
returns-clause-flags c = λ map face. flags-kern face
