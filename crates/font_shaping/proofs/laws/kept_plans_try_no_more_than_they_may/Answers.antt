use Rattle.font_shaping.proofs.RunTriesLemmas.{no_more}
use Rattle.font_shaping.proofs.laws.kept_plans_try_no_more_than_they_may.Goals as goal

pub returns-clause-unopened : goal.returns-clause-unopened
returns-clause-unopened g c = λ plan face.
    no_more face _ (λ map. c.runs_try_no_more_than_they_may.ensures.within map face _) (c.plans_never_raise.ensures plan face)

pub returns-clause-opened : goal.returns-clause-opened
returns-clause-opened g c = λ plan face.
    no_more face _ (λ map. c.runs_try_no_more_than_they_may.ensures.within map face _) (c.plans_never_raise-2.ensures plan face)
