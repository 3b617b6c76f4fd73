use Rattle.layout_map.specs.Worked.Stages.{worked_lookups, worked_stages, worked_map, worked_chosen}
use Rattle.layout_map.proofs.worked.maps_meet_worked_cases.Goals as goal

pub returns-clause-lookups : goal.returns-clause-lookups
returns-clause-lookups c = worked_lookups

pub returns-clause-stages : goal.returns-clause-stages
returns-clause-stages c = worked_stages

pub returns-clause-map : goal.returns-clause-map
returns-clause-map c = worked_map

pub returns-clause-chosen : goal.returns-clause-chosen
returns-clause-chosen c = worked_chosen
