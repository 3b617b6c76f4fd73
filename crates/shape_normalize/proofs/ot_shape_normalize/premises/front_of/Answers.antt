use Rattle.std.proofs.Common.{rules, ◌≡◌, map, None, Some, sym, ap, ◌∙◌}
use Rattle.canonical_form.specs.Chain.{full_text}
use Rattle.shape_items.specs.Items.{char_of}
use Rattle.shape_plan.specs.Rules.{rules_of, decompositions, has_glyph}
use Rattle.shape_normalize.specs.PremiseTest.{front_before}
use Rattle.shape_normalize.proofs.Form.PremiseTestLemmas.{front_before-last, front_before-last_refused, front_before-none}
use Rattle.shape_normalize.proofs.ot_shape_normalize.premises.front_of.Goals as goal

pub returns-in_err-front : goal.returns-in_err-front
returns-in_err-front g c =
    let shaper = g.T.Shaper.hb_ot_shaper_t in
    let rules_now = rules_of g.T.Unicode.hb_unicode_funcs_t.unicode shaper.constants shaper.hooks g.T.Face.hb_font_t.face c.args.plan.now c.args.face.now in
    let none : c.with_full.result ≡ None = search rules in
    let left : c.from_residual.result ≡ None = search rules in
    let refused = front_before-last_refused (decompositions rules_now) (has_glyph rules_now.face.nominal_glyph)
    c.items.left.now c.in-Some.before.now c.in-Some.info.now (Some c.items.front)
    c.in-Some.ensures.cases.0 (sym c.with_full.ensures ∙ none) in
    left ∙ sym (c.items.invariant ∙ refused)

pub items-preserved : goal.items-preserved
items-preserved g c =
    let shaper = g.T.Shaper.hb_ot_shaper_t in
    let rules_now = rules_of g.T.Unicode.hb_unicode_funcs_t.unicode shaper.constants shaper.hooks g.T.Face.hb_font_t.face c.args.plan.now c.args.face.now in
    let glyph = has_glyph rules_now.face.nominal_glyph in
    let some : c.with_full.result ≡ Some c.in_ok-front.front = search rules in
    c.items.invariant
    ∙ front_before-last (decompositions rules_now) glyph c.items.left.now c.in-Some.before.now c.in-Some.info.now
    (Some c.items.front) c.in-Some.ensures.cases.0
    ∙ ap (front_before rules_now.unicode.ccc glyph (full_text (decompositions rules_now) (map char_of c.in-Some.before.now)))
    (sym c.with_full.ensures ∙ some)

pub returns : goal.returns
returns g c =
    let shaper = g.T.Shaper.hb_ot_shaper_t in
    let rules_now = rules_of g.T.Unicode.hb_unicode_funcs_t.unicode shaper.constants shaper.hooks g.T.Face.hb_font_t.face c.args.plan.now c.args.face.now in
    let none = front_before-none (decompositions rules_now) (has_glyph rules_now.face.nominal_glyph) c.items.left.now (Some c.items.front)
    c.in_default.ensures.cases in
    sym (c.items.invariant ∙ none)
