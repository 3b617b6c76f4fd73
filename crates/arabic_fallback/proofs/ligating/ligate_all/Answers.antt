use Rattle.arabic_fallback.specs.Ligating.{cleared_away, each_ligated}
use Rattle.arabic_fallback.proofs.MadeLemmas.{Made-then, OnOk-then}
use Rattle.arabic_fallback.proofs.ligating.ligate_all.Goals as goal

pub returns-clause-ok : goal.returns-clause-ok
returns-clause-ok c = OnOk-then c.clear_away.result
    (λ later. Made-then (each_ligated c.args.rule c.args.rows.now) cleared_away _ _ _ c.ligate_each.ensures later) c.clear_away.ensures.ok
