use Rattle.std.proofs.Common.{◌≡◌, rules, true, if◌then◌else◌, ap, sym, ◌∙◌}
use Rattle.arabic_fallback.specs.Classes.{class_by}
use Rattle.arabic_fallback.specs.Fallback.{fallback_shaped}
use Rattle.script_shapers.specs.ArabicPauses.{lacks_forms, masks_of, forms_made}
use Rattle.script_shapers.proofs.ReplaceLemmas.{Outcome-equal}
use Rattle.script_shapers.proofs.arabic.pauses.make_forms.Goals as goal

pub returns : goal.returns
returns g c =
    let map = g.M.hb_ot_layout_t.masks c.args.map.now in
    let face = g.F.hb_font_t.face c.args.face.now in
    let layout = g.M.hb_ot_layout_t.layout c.args.face.now in
    let lookups = g.M.hb_ot_layout_t.lookups c.args.map.now c.args.face.now in
    let classes = class_by layout.has_glyph_classes lookups.substitute_start in
    let old = c.args.buffer.now in
    let due : lacks_forms map ≡ true = search rules in
    Outcome-equal (fallback_shaped face classes c.masks_of.result) (forms_made map face classes) old c.shape_fallback.new.buffer
    c.shape_fallback.result
    (ap (λ m. fallback_shaped face classes m old) c.masks_of.ensures
    ∙ sym (ap (λ t. if t then fallback_shaped face classes (masks_of map.one_mask) old else old) due))
    c.shape_fallback.ensures.outcome
