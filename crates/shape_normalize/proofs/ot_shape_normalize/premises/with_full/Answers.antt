use Rattle.std.proofs.Common.{sym, ◌∙◌}
use Rattle.shape_plan.specs.Rules.{rules_of, decompositions, has_glyph}
use Rattle.shape_normalize.proofs.Form.PremiseTestLemmas.{front_before-kept, front_before-dropped, front_before-whole}
use Rattle.shape_normalize.proofs.Hooks.RulesLemmas.{FallsAlong-planned}
use Rattle.shape_normalize.proofs.ot_shape_normalize.premises.with_full.Goals as goal

pub chain-preserved-then-b-ne0 : goal.chain-preserved-then-b-ne0
chain-preserved-then-b-ne0 g c =
    let shaper = g.T.Shaper.hb_ot_shaper_t in
    let rules = rules_of g.T.Unicode.hb_unicode_funcs_t.unicode shaper.constants shaper.hooks g.T.Face.hb_font_t.face c.args.plan.now c.args.face.now in
    let falls = FallsAlong-planned g.met.T.Unicode.hb_unicode_funcs_t.lawful shaper.constants.has_decompose shaper.hooks
    g.met.T.Shaper.hb_ot_shaper_t.lawful_hooks c.args.plan.now c.args.face.now in
    c.chain.invariant
    ∙ front_before-kept (decompositions rules) (has_glyph rules.face.nominal_glyph) falls
    c.chain.point c.in-Some.a c.in-Some.b
    c.chain.front c.with_char-front.result (sym c.split_of.ensures ∙ c.in-Some.is) c.if-b-ne0.true c.with_char-front.ensures

pub chain-preserved : goal.chain-preserved
chain-preserved g c =
    let shaper = g.T.Shaper.hb_ot_shaper_t in
    let rules = rules_of g.T.Unicode.hb_unicode_funcs_t.unicode shaper.constants shaper.hooks g.T.Face.hb_font_t.face c.args.plan.now c.args.face.now in
    let falls = FallsAlong-planned g.met.T.Unicode.hb_unicode_funcs_t.lawful shaper.constants.has_decompose shaper.hooks
    g.met.T.Shaper.hb_ot_shaper_t.lawful_hooks c.args.plan.now c.args.face.now in
    c.chain.invariant
    ∙ front_before-dropped (decompositions rules) (has_glyph rules.face.nominal_glyph) falls
    c.chain.point c.in-Some.a c.in-Some.b
    c.chain.front (sym c.split_of.ensures ∙ c.in-Some.is) c.if-b-ne0.false

pub returns : goal.returns
returns g c =
    let shaper = g.T.Shaper.hb_ot_shaper_t in
    let rules = rules_of g.T.Unicode.hb_unicode_funcs_t.unicode shaper.constants shaper.hooks g.T.Face.hb_font_t.face c.args.plan.now c.args.face.now in
    let falls = FallsAlong-planned g.met.T.Unicode.hb_unicode_funcs_t.lawful shaper.constants.has_decompose shaper.hooks
    g.met.T.Shaper.hb_ot_shaper_t.lawful_hooks c.args.plan.now c.args.face.now in
    c.with_char.ensures
    ∙ sym (c.chain.invariant
    ∙ front_before-whole (decompositions rules) (has_glyph rules.face.nominal_glyph) falls
    c.chain.point c.chain.front (sym c.split_of.ensures ∙ c.in_default.is))
