use Rattle.shape_unicode.proofs.TableLemmas.{spaces_are_separators}
use Rattle.shape_unicode.proofs.laws.spaces_are_separators.Goals as goal

pub returns : goal.returns
returns c = spaces_are_separators
