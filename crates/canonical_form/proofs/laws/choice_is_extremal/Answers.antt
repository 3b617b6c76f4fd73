use Rattle.canonical_form.proofs.LawLemmas.{choice_is_greatest, choice_is_least, choice_stays}
use Rattle.canonical_form.proofs.laws.choice_is_extremal.Goals as goal

pub returns-clause-greatest : goal.returns-clause-greatest
returns-clause-greatest g = choice_is_greatest

pub returns-clause-least : goal.returns-clause-least
returns-clause-least g = choice_is_least

pub returns-clause-stays : goal.returns-clause-stays
returns-clause-stays g = choice_stays
