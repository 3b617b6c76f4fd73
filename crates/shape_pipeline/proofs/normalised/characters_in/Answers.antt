use Rattle.std.proofs.Common.{◌≡◌, ◌∙◌, IfOk, List, ℕ, map, ap, subst}
use Rattle.shape_items.specs.Buffer.{Buffer}
use Rattle.shape_items.specs.Items.{char_of}
use Rattle.shape_normalize.specs.CanonicalForm.{text_of}
use Rattle.shape_normalize.specs.Normalized.{normalized}
use Rattle.shape_plan.specs.Rules.{rules_of}
use Rattle.shape_pipeline.proofs.normalised.characters_in.Goals as goal

pub returns-clause-characters : goal.returns-clause-characters
returns-clause-characters g c =
    let shaper = g.T.Shaper.hb_ot_shaper_t in
    let rules = rules_of g.T.Unicode.hb_unicode_funcs_t.unicode shaper.constants shaper.hooks g.T.Face.hb_font_t.face c.args.plan.now c.args.face.now in
    let list = c.in_ok-_hb_ot_shape_normalize.ensures.ok.made ∙ ap (λ (b : Buffer). normalized rules b) c.in_ok-prepare_whole.ensures.ok.made in
    let read = ap (map char_of) c.infos.ensures ∙ ap (λ (b : Buffer). text_of b) list in
    subst (λ (read : List ℕ). IfOk c.characters_of.result (λ characters. characters.items ≡ read)) read c.characters_of.ensures.characters
