use Rattle.font_shaping.proofs.RunTriesLemmas.{no_more}
use Rattle.font_shaping.proofs.laws.script_runs_try_no_more_than_they_may.Goals as goal

pub returns : goal.returns
returns g c = λ face features text.
    no_more face _ (λ map. c.runs_try_no_more_than_they_may.ensures.within map face _)
    (c.texts_never_raise.ensures face features text)
