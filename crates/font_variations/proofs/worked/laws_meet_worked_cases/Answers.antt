use Rattle.font_variations.proofs.LawRows.{worked_parts, worked_defaults}
use Rattle.font_variations.proofs.worked.laws_meet_worked_cases.Goals as goal

pub returns-clause-parts : goal.returns-clause-parts
returns-clause-parts c = worked_parts

pub returns-clause-defaults : goal.returns-clause-defaults
returns-clause-defaults c = worked_defaults
