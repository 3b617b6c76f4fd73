use Rattle.std.proofs.Common.{rules}
use Rattle.std.proofs.lemmas.Result.{err_from_is_err_and}
use Rattle.shape_buffer.proofs.Steps.Runs.{Refused-first_made, Refused-here}
use Rattle.shape_glyphs.proofs.finishing.finish_glyphs.Goals as goal

pub returns-in_err-postprocess_glyphs : goal.returns-in_err-postprocess_glyphs
returns-in_err-postprocess_glyphs g c =
    let p = err_from_is_err_and c.from_residual.result c.from_residual.ensures.1 in
    rw (p.1, p.2) (Refused-first_made c.reverse_backward.ensures c.requires
    (Refused-first_made c.remove_deleted.ensures (search rules)
    (Refused-first_made c.deal_with_variation_selectors.ensures (search rules)
    (Refused-first_made c.hide_default_ignorables.ensures (search rules)
    (Refused-here c.in_err-postprocess_glyphs.ensures)))))
