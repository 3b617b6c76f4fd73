use Rattle.arabic_fallback.proofs.MadeLemmas.{Made-then, OnOk-then}
use Rattle.arabic_fallback.proofs.fallback.ligate_tables.Goals as goal

pub returns-clause-ok : goal.returns-clause-ok
returns-clause-ok g c = OnOk-then c.put_ligatures-3.result
    (λ third. Made-then _ _ _ _ _ (Made-then _ _ _ _ _ c.in_ok-put_ligatures.ensures.ok c.in_ok-put_ligatures-2.ensures.ok) third)
    c.put_ligatures-3.ensures.ok
