use Rattle.canonical_form.proofs.LawLemmas.{recomposed_decides}
use Rattle.canonical_form.proofs.laws.recomposed_decides.Goals as goal

pub returns : goal.returns
returns g = recomposed_decides
