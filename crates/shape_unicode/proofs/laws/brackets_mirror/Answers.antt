use Rattle.shape_unicode.proofs.BracketLemmas.{brackets_mirror}
use Rattle.shape_unicode.proofs.laws.brackets_mirror.Goals as goal

pub returns : goal.returns
returns c = brackets_mirror
