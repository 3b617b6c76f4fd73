use Rattle.layout_context.specs.Worked.Around.{worked_joiners, worked_masks, worked_syllables_around, worked_components_matched, worked_classes_of_three_lists, worked_bounds, worked_covers}
use Rattle.layout_context.proofs.worked.surroundings_meet_worked_cases.Goals as goal

pub returns-clause-joiners : goal.returns-clause-joiners
returns-clause-joiners c = worked_joiners

pub returns-clause-masks : goal.returns-clause-masks
returns-clause-masks c = worked_masks

pub returns-clause-syllables : goal.returns-clause-syllables
returns-clause-syllables c = worked_syllables_around

pub returns-clause-components : goal.returns-clause-components
returns-clause-components c = worked_components_matched

pub returns-clause-classes_of_three_lists : goal.returns-clause-classes_of_three_lists
returns-clause-classes_of_three_lists c = worked_classes_of_three_lists

pub returns-clause-bounds : goal.returns-clause-bounds
returns-clause-bounds c = worked_bounds

pub returns-clause-covers : goal.returns-clause-covers
returns-clause-covers c = worked_covers
