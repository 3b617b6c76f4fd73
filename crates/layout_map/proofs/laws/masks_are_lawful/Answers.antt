use Rattle.layout_map.proofs.LawfulLemmas.{map_meaning-lawful}
use Rattle.layout_map.proofs.laws.masks_are_lawful.Goals as goal

pub returns : goal.returns
returns c = map_meaning-lawful
