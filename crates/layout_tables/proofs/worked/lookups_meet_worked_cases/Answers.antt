use Rattle.layout_tables.specs.Worked.Features.{worked_feature_lists, worked_conditions, worked_variations}
use Rattle.layout_tables.specs.Worked.Lookups.{worked_lookups}
use Rattle.layout_tables.proofs.WorkedLemmas.{worked_tag_digests}
use Rattle.layout_tables.proofs.worked.lookups_meet_worked_cases.Goals as goal

pub returns-clause-features : goal.returns-clause-features
returns-clause-features c = worked_feature_lists

pub returns-clause-digests : goal.returns-clause-digests
returns-clause-digests c = worked_tag_digests

pub returns-clause-conditions : goal.returns-clause-conditions
returns-clause-conditions c = worked_conditions

pub returns-clause-variations : goal.returns-clause-variations
returns-clause-variations c = worked_variations

pub returns-clause-lookups : goal.returns-clause-lookups
returns-clause-lookups c = worked_lookups
