use Rattle.std.proofs.Common.{rules}
use Rattle.shape_buffer.specs.Outcome.{step}
use Rattle.script_shapers.specs.ThaiForms.{thai_text}
use Rattle.script_shapers.proofs.ReplaceLemmas.{Outcome-same_error}
use Rattle.script_shapers.proofs.ThaiFormLemmas.{thai_text-refused}
use Rattle.script_shapers.proofs.thai.shape_text.Goals as goal

pub returns-in_err-part_sara_am : goal.returns-in_err-part_sara_am
returns-in_err-part_sara_am g c =
    let face = g.F.hb_font_t.face c.args.face.now in
    let error = c.in_err-part_sara_am.field-0.0 in
    Outcome-same_error (step (thai_text c.args.due face)) c.args.buffer.now c.part_sara_am.new.buffer error c.from_residual.result
    (thai_text-refused c.args.due face c.args.buffer.now error c.in_err-part_sara_am.ensures) (search rules)
