use Rattle.apple_positioning.proofs.OldTableLemmas.{kern_of_pairs}
use Rattle.apple_positioning.proofs.laws.kern_without_machines_is_kerned_by_pairs.Goals as goal

pub returns : goal.returns
returns c = kern_of_pairs
