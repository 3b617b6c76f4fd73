use Rattle.shape_text_forms.specs.Worked.Features.{worked_features, worked_refusals}
use Rattle.shape_text_forms.specs.Worked.Variations.{worked_variations}
use Rattle.shape_text_forms.proofs.worked.features_meet_worked_cases.Goals as goal

pub returns-clause-features : goal.returns-clause-features
returns-clause-features c = worked_features

pub returns-clause-refusals : goal.returns-clause-refusals
returns-clause-refusals c = worked_refusals

pub returns-clause-variations : goal.returns-clause-variations
returns-clause-variations c = worked_variations
