use Rattle.font_variations.specs.Worked.Scalars.{worked_tents, worked_regions}
use Rattle.font_variations.specs.Worked.Deltas.{worked_deltas, worked_index_maps, worked_metrics, worked_lines}
use Rattle.font_variations.proofs.worked.deltas_meet_worked_cases.Goals as goal

pub returns-clause-tents : goal.returns-clause-tents
returns-clause-tents c = worked_tents

pub returns-clause-regions : goal.returns-clause-regions
returns-clause-regions c = worked_regions

pub returns-clause-deltas : goal.returns-clause-deltas
returns-clause-deltas c = worked_deltas

pub returns-clause-index_maps : goal.returns-clause-index_maps
returns-clause-index_maps c = worked_index_maps

pub returns-clause-metrics : goal.returns-clause-metrics
returns-clause-metrics c = worked_metrics

pub returns-clause-lines : goal.returns-clause-lines
returns-clause-lines c = worked_lines
