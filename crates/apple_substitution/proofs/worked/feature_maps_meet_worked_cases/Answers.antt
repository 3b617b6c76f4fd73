use Rattle.apple_substitution.specs.Worked.FeatureMaps.{worked_choices, worked_mapped, worked_against, worked_edges, worked_text_ranges}
use Rattle.apple_substitution.proofs.worked.feature_maps_meet_worked_cases.Goals as goal

pub returns-clause-choices : goal.returns-clause-choices
returns-clause-choices c = worked_choices

pub returns-clause-mapped : goal.returns-clause-mapped
returns-clause-mapped c = worked_mapped

pub returns-clause-against : goal.returns-clause-against
returns-clause-against c = worked_against

pub returns-clause-edges : goal.returns-clause-edges
returns-clause-edges c = worked_edges

pub returns-clause-ranges : goal.returns-clause-ranges
returns-clause-ranges c = worked_text_ranges
