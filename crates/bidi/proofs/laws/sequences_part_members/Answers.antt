use Rattle.bidi.proofs.PartLemmas.{sequences_part}
use Rattle.bidi.proofs.laws.sequences_part_members.Goals as goal

pub returns : goal.returns
returns c = sequences_part
