use Rattle.std.proofs.Common.{◌≡◌, map, length, Some}
use Rattle.canonical_form.specs.Chain.{full_text}
use Rattle.shape_items.specs.Items.{char_of}
use Rattle.shape_plan.specs.Rules.{rules_of, decompositions, has_glyph}
use Rattle.shape_normalize.specs.PremiseTest.{front_before, no_front}
use Rattle.shape_normalize.proofs.ot_shape_normalize.premises.front_of.Given as goal

-- what Full of the items left gives in front of what is known so far is what Full of all gives
abbrev pub invariant-items : goal.invariant-items
invariant-items g l =
    let shaper = g.T.Shaper.hb_ot_shaper_t in
    let rules = rules_of g.T.Unicode.hb_unicode_funcs_t.unicode shaper.constants shaper.hooks g.T.Face.hb_font_t.face l.plan l.face in
    let glyph = has_glyph rules.face.nominal_glyph in
    front_before rules.unicode.ccc glyph (full_text (decompositions rules) (map char_of l.infos)) (Some no_front)
    ≡ front_before rules.unicode.ccc glyph (full_text (decompositions rules) (map char_of l.left)) (Some l.front)

abbrev pub decreases-items : goal.decreases-items
decreases-items g l = length l.left
