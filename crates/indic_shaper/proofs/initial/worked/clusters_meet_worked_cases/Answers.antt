use Rattle.indic_shaper.specs.Worked.Initial.{worked_clusters}
use Rattle.indic_shaper.proofs.initial.worked.clusters_meet_worked_cases.Goals as goal

pub returns : goal.returns
returns c = worked_clusters
