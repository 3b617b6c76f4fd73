use Rattle.std.proofs.lemmas.Result.{err_from_is_err_and}
use Rattle.shape_buffer.proofs.Steps.Runs.{Ran-then, Ran-made, Refused-after, Refused-before}
use Rattle.shape_glyphs.proofs.positioning.position.Goals as goal

pub returns-in_err-position_complex : goal.returns-in_err-position_complex
returns-in_err-position_complex g c =
    let p = err_from_is_err_and c.from_residual.result c.from_residual.ensures.1 in
    rw (p.1, p.2) (Refused-after c.position_default.ensures
    (Refused-after (Ran-made c.position_default.ensures.within c.place_spaces.ensures)
    (Refused-before _ c.in_err-position_complex.ensures)))

pub returns : goal.returns
returns g c =
    Ran-then c.position_default.ensures
    (Ran-then (Ran-made c.position_default.ensures.within c.place_spaces.ensures)
    (Ran-then c.in_ok-position_complex.ensures
    (Ran-made c.in_ok-position_complex.ensures.within c.place_marks.ensures)))
