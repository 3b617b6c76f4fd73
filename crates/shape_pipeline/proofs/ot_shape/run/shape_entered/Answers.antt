use Rattle.std.proofs.lemmas.Result.{err_from_is_err_and}
use Rattle.shape_buffer.proofs.Steps.Runs.{RunOutcome-then, Refused-after, Refused-before}
use Rattle.shape_pipeline.proofs.ot_shape.run.shape_entered.Goals as goal

pub returns-in_err-prepare : goal.returns-in_err-prepare
returns-in_err-prepare g c =
    let p = err_from_is_err_and c.from_residual.result c.from_residual.ensures.1 in
    rw (p.1, p.2) (Refused-before _ c.in_err-prepare.ensures)

pub returns-in_err-normalize : goal.returns-in_err-normalize
returns-in_err-normalize g c =
    let p = err_from_is_err_and c.from_residual-in_err-normalize.result c.from_residual-in_err-normalize.ensures.1 in
    rw (p.1, p.2) (Refused-after c.in_ok-prepare.ensures (Refused-before _ c.in_err-normalize.ensures))

pub returns-in_err-substitute_pre : goal.returns-in_err-substitute_pre
returns-in_err-substitute_pre g c =
    let p = err_from_is_err_and c.from_residual-in_err-substitute_pre.result c.from_residual-in_err-substitute_pre.ensures.1 in
    rw (p.1, p.2) (Refused-after c.in_ok-prepare.ensures (Refused-after c.in_ok-normalize.ensures
    (Refused-after c.setup_masks.ensures (Refused-before _ c.in_err-substitute_pre.ensures))))

pub returns-in_err-position : goal.returns-in_err-position
returns-in_err-position g c =
    let p = err_from_is_err_and c.from_residual-in_err-position.result c.from_residual-in_err-position.ensures.1 in
    rw (p.1, p.2) (Refused-after c.in_ok-prepare.ensures (Refused-after c.in_ok-normalize.ensures
    (Refused-after c.setup_masks.ensures (Refused-after c.in_ok-substitute_pre.ensures
    (Refused-before _ c.in_err-position.ensures)))))

pub returns : goal.returns
returns g c =
    RunOutcome-then _ _ c.finish_glyphs.result c.in_ok-prepare.ensures
    (RunOutcome-then _ _ c.finish_glyphs.result c.in_ok-normalize.ensures
    (RunOutcome-then _ _ c.finish_glyphs.result c.setup_masks.ensures
    (RunOutcome-then _ _ c.finish_glyphs.result c.in_ok-substitute_pre.ensures
    (RunOutcome-then _ _ c.finish_glyphs.result c.in_ok-position.ensures
    c.finish_glyphs.ensures))))
