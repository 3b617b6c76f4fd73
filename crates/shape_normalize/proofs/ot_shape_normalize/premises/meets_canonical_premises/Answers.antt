use Rattle.std.proofs.Common.{◌≡◌, ap, ◌∙◌, sym}
use Rattle.shape_plan.specs.Rules.{rules_of}
use Rattle.shape_normalize.specs.PremiseTest.{meets_premises}
use Rattle.shape_normalize.proofs.Form.PremiseTestLemmas.{test_decides}
use Rattle.shape_normalize.proofs.ot_shape_normalize.premises.meets_canonical_premises.Goals as goal

pub returns : goal.returns
returns g c = λ lawful.
    let shaper = g.S.hb_ot_shaper_t in
    let rules = rules_of g.U.hb_unicode_funcs_t.unicode shaper.constants shaper.hooks g.F.hb_font_t.face c.args.plan.now c.args.face.now in
    let tells = test_decides rules lawful c.args.buffer.now in
    let test : c.have_premises.result ≡ meets_premises rules c.args.buffer.now.items =
    c.have_premises.ensures ∙ ap (meets_premises rules) c.infos.ensures in (
      λ met. tells.0 (sym test ∙ met),
      λ premises. test ∙ tells.1 premises,
    )
