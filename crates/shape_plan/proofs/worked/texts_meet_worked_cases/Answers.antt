use Rattle.shape_plan.specs.Worked.Texts.{scripts_of_texts, tags_of_facts, scripts_that_fit}
use Rattle.shape_plan.proofs.worked.texts_meet_worked_cases.Goals as goal

pub returns : goal.returns
returns c = record { scripts = scripts_of_texts; tags = tags_of_facts; fit = scripts_that_fit }
