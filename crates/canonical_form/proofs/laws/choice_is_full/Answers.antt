use Rattle.canonical_form.proofs.Expanding.ChoiceLemmas.{choice-full}
use Rattle.canonical_form.proofs.laws.choice_is_full.Goals as goal

pub returns : goal.returns
returns g = choice-full
