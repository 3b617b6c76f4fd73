use Rattle.opentype_layout.proofs.PreservationLemmas.{clusters-opentype, flags-opentype}
use Rattle.opentype_layout.proofs.laws.opened_layout_preserves.Goals as goal

pub returns-clause-clusters : goal.returns-clause-clusters
returns-clause-clusters c = λ map face. clusters-opentype map face

pub returns-clause-flags : goal.returns-clause-flags
returns-clause-flags c = λ map face. flags-opentype map face
