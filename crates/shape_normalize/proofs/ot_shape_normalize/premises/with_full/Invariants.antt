use Rattle.std.proofs.Common.{◌≡◌}
use Rattle.canonical_form.specs.Chain.{full}
use Rattle.shape_plan.specs.Rules.{rules_of, decompositions, has_glyph}
use Rattle.shape_plan.specs.Plan.{hooks_of}
use Rattle.shape_plan.specs.Rules.{used_height}
use Rattle.shape_normalize.specs.PremiseTest.{front_before}
use Rattle.shape_normalize.proofs.ot_shape_normalize.premises.with_full.Given as goal

-- what Full of the point gives in front of what is known so far is what Full of the character gives
abbrev pub invariant-chain : goal.invariant-chain
invariant-chain g l =
    let shaper = g.T.Shaper.hb_ot_shaper_t in
    let rules = rules_of g.T.Unicode.hb_unicode_funcs_t.unicode shaper.constants shaper.hooks g.T.Face.hb_font_t.face l.plan l.face in
    let glyph = has_glyph rules.face.nominal_glyph in
    front_before rules.unicode.ccc glyph (full (decompositions rules) l.fn.c) l.fn.before
    ≡ front_before rules.unicode.ccc glyph (full (decompositions rules) l.point) l.front

abbrev pub decreases-chain : goal.decreases-chain
decreases-chain g l =
    let shaper = g.T.Shaper.hb_ot_shaper_t in
    used_height g.T.Unicode.hb_unicode_funcs_t.unicode shaper.constants.has_decompose (hooks_of shaper.hooks l.plan l.face) l.point
