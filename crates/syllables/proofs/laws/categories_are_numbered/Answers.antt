use Rattle.std.proofs.Common.{refl}
use Rattle.syllables.proofs.laws.categories_are_numbered.Goals as goal

pub returns : goal.returns
returns c = record { universal = refl; universal_code = refl; indic = refl; indic_code = refl }
