use Rattle.std.proofs.Common.{◌≡◌, ◌<◌, ◌∙◌, sym, get_or, length, arith}
use Rattle.std.proofs.lemmas.Grind.{common_steps}
use Rattle.shape_common.specs.Positions.{zero_position}
use Rattle.shape_fallback.proofs.MarksLemmas.{marks_step, marks_end}
use Rattle.shape_fallback.proofs.ot_shape_fallback.marks.place_marks_of_base.Goals as goal

pub loop-i-preserved : goal.loop-i-preserved
loop-i-preserved g c =
    let items : c.loop-i.i < length c.loop-i.buffer.items = grind (arith, common_steps) in
    let positions : c.loop-i.i < length c.loop-i.buffer.positions = grind (arith, common_steps) in
    let item : c.index-infos-i.result ≡ get_or c.loop-i.buffer.items c.loop-i.i c.index-infos-i.result = cc in
    let position : get_or c.positions.result.now c.loop-i.i zero_position
    ≡ get_or c.loop-i.buffer.positions c.loop-i.i zero_position = cc in
    let step = marks_step (g.F.hb_font_t.face c.args.face.now) c.args.base c.loop-i.step.state c.loop-i.i c.args.to c.loop-i.buffer c.index-infos-i.result _ c.loop-i-test.true items positions item position in
    record { as_many = grind (arith, common_steps); rest = cc }

pub returns : goal.returns
returns g c =
    let end = marks_end (g.F.hb_font_t.face c.args.face.now) c.args.base c.loop-i.step.state c.loop-i.i c.args.to c.loop-i.buffer c.loop-i-test.false (omega arith) in
    sym end ∙ c.loop-i.invariant.rest
