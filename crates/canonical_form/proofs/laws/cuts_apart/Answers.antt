use Rattle.canonical_form.proofs.CutLemmas.{cut}
use Rattle.canonical_form.proofs.Expanding.ExpandedLemmas.{expanded-cut}
use Rattle.canonical_form.proofs.laws.cuts_apart.Goals as goal

pub returns-clause-expanded : goal.returns-clause-expanded
returns-clause-expanded g c = expanded-cut

pub returns-clause-settled : goal.returns-clause-settled
returns-clause-settled g c = cut
