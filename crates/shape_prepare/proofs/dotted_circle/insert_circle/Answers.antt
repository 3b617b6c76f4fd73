use Rattle.std.proofs.Common.{ap, Err}
use Rattle.std.proofs.lemmas.Result.{err_from_is_err_and}
use Rattle.shape_prepare.proofs.StepLemmas.{Refused-circle}
use Rattle.shape_prepare.proofs.dotted_circle.insert_circle.Goals as goal

pub returns-in_err-insert : goal.returns-in_err-insert
returns-in_err-insert g c =
    let p = err_from_is_err_and c.from_residual.result c.from_residual.ensures.1 in
    rw (p.1, p.2) (Refused-circle g.U.hb_unicode_funcs_t.unicode c.args.buffer.now c.in_err-insert.field-0.0
    (λ is. c.in_err-insert.ensures.at_limit.0 (ap Err is)) c.requires.some)
