use Rattle.shape_carets.proofs.RiseLemmas.{offsets-rise}
use Rattle.shape_carets.proofs.laws.offsets_rise.Goals as goal

pub returns : goal.returns
returns c = offsets-rise
