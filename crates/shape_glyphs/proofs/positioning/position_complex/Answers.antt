use Rattle.std.proofs.Common.{rules}
use Rattle.std.proofs.lemmas.Result.{err_from_is_err_and}
use Rattle.shape_buffer.proofs.Steps.Runs.{Refused-first_made, Refused-first_ran, Refused-here}
use Rattle.shape_glyphs.proofs.positioning.position_complex.Goals as goal

pub returns-in_err-position_by_plan : goal.returns-in_err-position_by_plan
returns-in_err-position_by_plan g c =
    let p = err_from_is_err_and c.from_residual.result c.from_residual.ensures.1 in
    rw (p.1, p.2) (search (rules, c.in_err-position_by_plan.ensures, Refused-first_made, Refused-here) depth 30)

pub returns-in_err-kern_by_plan : goal.returns-in_err-kern_by_plan
returns-in_err-kern_by_plan g c =
    let p = err_from_is_err_and c.from_residual-in_err-kern_by_plan.result c.from_residual-in_err-kern_by_plan.ensures.1 in
    rw (p.1, p.2) (Refused-first_made c.position_start.ensures c.requires
    (Refused-first_made c.zero_marks_early.ensures (search rules)
    (Refused-first_ran c.in_ok-position_by_plan.ensures
    (Refused-here c.in_err-kern_by_plan.ensures))))
