use Rattle.std.proofs.Common.{ap, sym}
use Rattle.arabic_fallback.specs.Classes.{class_by}
use Rattle.script_shapers.specs.ArabicPauses.{forms_made, made_by_pause}
use Rattle.script_shapers.proofs.ReplaceLemmas.{Outcome-equal}
use Rattle.script_shapers.proofs.arabic.pauses.pause_at.Goals as goal

pub returns-in-1 : goal.returns-in-1
returns-in-1 g c =
    let map = g.M.hb_ot_layout_t.masks c.args.map.now in
    let face = g.F.hb_font_t.face c.args.face.now in
    let layout = g.M.hb_ot_layout_t.layout c.args.face.now in
    let lookups = g.M.hb_ot_layout_t.lookups c.args.map.now c.args.face.now in
    let classes = class_by layout.has_glyph_classes lookups.substitute_start in
    let old = c.args.buffer.now in
    Outcome-equal (forms_made map face classes) (made_by_pause c.args.n map face classes) old c.make_forms.new.buffer c.make_forms.result
    (sym (ap (λ n. made_by_pause n map face classes old) c.in-1.is)) c.make_forms.ensures
