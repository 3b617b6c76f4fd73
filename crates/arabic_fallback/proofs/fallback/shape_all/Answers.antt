use Rattle.arabic_fallback.proofs.MadeLemmas.{Made-then, OnOk-then}
use Rattle.arabic_fallback.proofs.fallback.shape_all.Goals as goal

pub returns-clause-ok : goal.returns-clause-ok
returns-clause-ok g c =
    OnOk-then c.ligate_tables.result (λ later. Made-then _ _ _ _ _ c.in_ok-form_all.ensures.ok later) c.ligate_tables.ensures.ok
