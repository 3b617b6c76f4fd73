use Rattle.universal_shaper.specs.Worked.Categories.{worked_categories}
use Rattle.universal_shaper.proofs.worked.categories_meet_worked_cases.Goals as goal

pub returns : goal.returns
returns c = worked_categories
