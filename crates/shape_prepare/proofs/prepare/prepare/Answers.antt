use Rattle.std.proofs.Common.{rules}
use Rattle.std.proofs.lemmas.Result.{err_from_is_err_and}
use Rattle.shape_buffer.proofs.Steps.Runs.{Refused-first_made, Refused-first_ran, Refused-here}
use Rattle.shape_prepare.proofs.prepare.prepare.Goals as goal

pub returns-in_err-insert_dotted_circle : goal.returns-in_err-insert_dotted_circle
returns-in_err-insert_dotted_circle g c =
    let p = err_from_is_err_and c.from_residual.result c.from_residual.ensures.1 in
    rw (p.1, p.2) (search (rules, c.in_err-insert_dotted_circle.ensures, Refused-first_made, Refused-here) depth 30)

pub returns-in_err-preprocess_text : goal.returns-in_err-preprocess_text
returns-in_err-preprocess_text g c =
    let p = err_from_is_err_and c.from_residual-in_err-preprocess_text.result c.from_residual-in_err-preprocess_text.ensures.1 in
    rw (p.1, p.2) (Refused-first_made c.initialize_masks.ensures c.requires
    (Refused-first_made c.set_unicode_props.ensures (search rules)
    (Refused-first_ran c.in_ok-insert_dotted_circle.ensures
    (Refused-first_made c.form_clusters.ensures (search rules)
    (Refused-first_made c.ensure_native_direction.ensures (search rules)
    (Refused-here c.in_err-preprocess_text.ensures))))))
