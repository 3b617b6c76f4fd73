use Rattle.std.proofs.Common.{subst, ◌∙◌}
use Rattle.std.specs.Prelude.{OnOk}
use Rattle.shape_buffer.specs.Outcome.{Made}
use Rattle.arabic_fallback.specs.Ligating.{ligated}
use Rattle.arabic_fallback.specs.Fallback.{ligated_by}
use Rattle.arabic_fallback.proofs.fallback.put_ligatures.Goals as goal

pub returns-clause-ok : goal.returns-clause-ok
unfolding ligated_by
returns-clause-ok g c =
    subst (λ rows. OnOk c.ligate_all.result (Made (ligated c.args.rule rows) c.args.buffer.now c.ligate_all.new.buffer))
    (c.as_slice.ensures.value ∙ c.in_ok-rows.ensures.ok) c.ligate_all.ensures.ok
