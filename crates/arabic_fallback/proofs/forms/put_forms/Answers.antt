use Rattle.std.proofs.Common.{true, subst, ◌∙◌}
use Rattle.shape_buffer.specs.Outcome.{Made}
use Rattle.arabic_fallback.specs.Forms.{put_forms, formed_by}
use Rattle.arabic_fallback.proofs.forms.put_forms.Goals as goal

pub returns-clause-ok : goal.returns-clause-ok
unfolding formed_by
returns-clause-ok g c =
    subst (λ rows. Made (put_forms (record { mask = c.args.mask; ignores_marks = true }) rows) c.args.buffer.now c.put_listed.new.buffer)
    (c.as_slice.ensures.value ∙ c.in_ok-rows.ensures.ok) c.put_listed.ensures
