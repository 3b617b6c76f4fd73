use Rattle.std.proofs.Common.{◌&&◌, not, rules, sym, ap, ◌∙◌, subst}
use Rattle.shape_buffer.specs.Outcome.{Made}
use Rattle.shape_buffer.specs.Walks.{items_mapped}
use Rattle.shape_prepare.specs.Rotated.{rotated, in_forms}
use Rattle.shape_prepare.specs.declared.rotation.Forms.{Forms}
use Rattle.shape_prepare.proofs.StepLemmas.{Made-same, rotated-idle}
use Rattle.shape_prepare.proofs.rotation.rotate_chars.Goals as goal

pub returns-then-is_idle : goal.returns-then-is_idle
returns-then-is_idle g c =
    let idle = sym (ap (λ (forms : Forms). not forms.mirrors && not forms.is_upright) c.of-forms.ensures) ∙ sym c.is_idle.ensures
    ∙ c.if-is_idle.true in
    Made-same (rotated g.T.Unicode.hb_unicode_funcs_t.unicode
    (g.T.Face.hb_font_t.face c.args.face.now) c.args.plan.now.decisions c.args.target) c.args.buffer.now
    (rotated-idle g.T.Unicode.hb_unicode_funcs_t.unicode
    (g.T.Face.hb_font_t.face c.args.face.now) c.args.plan.now.decisions c.args.target c.args.buffer.now idle)

pub returns : goal.returns
unfolding rotated
returns g c =
    let unicode = g.T.Unicode.hb_unicode_funcs_t.unicode in
    let face = g.T.Face.hb_font_t.face c.args.face.now in
    let forms = c.of-forms.result in
    let made = c.update_items.ensures (in_forms unicode face forms.mirrors forms.rtlm_mask forms.is_upright) (λ x y said. search rules) in
    subst (λ (forms : Forms). Made (items_mapped (in_forms unicode face forms.mirrors forms.rtlm_mask forms.is_upright)) c.args.buffer.now c.update_items.new.buffer) c.of-forms.ensures made
