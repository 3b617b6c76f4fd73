use Rattle.shape_carets.proofs.LawLemmas.{same_place, same_nearest}
use Rattle.shape_carets.proofs.laws.carets_are_unique.Goals as goal

pub returns : goal.returns
returns c = record { place = same_place; nearest = same_nearest }
