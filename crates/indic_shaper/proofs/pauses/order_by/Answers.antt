use Rattle.std.proofs.Common.{ap}
use Rattle.syllabic.proofs.ReplaceLemmas.{Outcome-equal}
use Rattle.indic_shaper.specs.Initial.{ordered}
use Rattle.indic_shaper.specs.Pauses.{ordered_by}
use Rattle.indic_shaper.specs.declared.engine.Facts.{Facts}
use Rattle.indic_shaper.proofs.pauses.order_by.Goals as goal

pub returns : goal.returns
unfolding ordered_by
returns g c =
    let face = g.F.hb_font_t.face c.args.face.now in
    let map = g.M.hb_ot_layout_t.masks c.args.map.now in
    let layout = g.M.hb_ot_layout_t.layout c.args.face.now in
    let lookups = g.M.hb_ot_layout_t.lookups c.args.map.now c.args.face.now in
    Outcome-equal (ordered face lookups c.facts_of-facts.result) (ordered_by face layout map lookups c.args.script)
    c.args.buffer.now c.order_all.new.buffer c.order_all.result
    (ap (λ (facts : Facts). ordered face lookups facts c.args.buffer.now) c.facts_of-facts.ensures) c.order_all.ensures
