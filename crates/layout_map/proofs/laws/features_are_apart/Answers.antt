use Rattle.layout_map.proofs.ApartLemmas.{features_apart}
use Rattle.layout_map.proofs.laws.features_are_apart.Goals as goal

pub returns : goal.returns
returns c = features_apart
