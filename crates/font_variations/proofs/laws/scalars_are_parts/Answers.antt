use Rattle.font_variations.proofs.PartLemmas.{tent_part, regions_part}
use Rattle.font_variations.proofs.laws.scalars_are_parts.Goals as goal

pub returns-clause-axes : goal.returns-clause-axes
returns-clause-axes c = tent_part

pub returns-clause-regions : goal.returns-clause-regions
returns-clause-regions c = regions_part
