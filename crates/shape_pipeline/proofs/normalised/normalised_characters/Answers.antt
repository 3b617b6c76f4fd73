use Rattle.std.proofs.Common.{◌≡◌, ◌∙◌, Err, ap, subst}
use Rattle.shape_items.specs.Buffer.{Buffer}
use Rattle.shape_buffer.specs.Guess.{guessed}
use Rattle.shape_common.specs.declared.text_types.Direction.{Direction}
use Rattle.shape_normalize.specs.CanonicalForm.{text_of}
use Rattle.shape_normalize.specs.Normalized.{normalized}
use Rattle.shape_plan.specs.Run.{run_of}
use Rattle.shape_pipeline.specs.Shaped.{text_made, NormalisingPasses}
use Rattle.shape_pipeline.proofs.CanonicalLemmas.{list_is_canonical}
use Rattle.shape_pipeline.proofs.normalised.normalised_characters.Goals as goal

pub returns-in-Ok-clause-characters : goal.returns-in-Ok-clause-characters
returns-in-Ok-clause-characters g c =
    let unicode = g.U.hb_unicode_funcs_t.unicode in
    let layout = g.M.hb_ot_layout_t in
    let shaper = g.S.hb_ot_shaper_t in
    let run = run_of unicode layout.masks layout.lookups shaper.constants shaper.hooks g.F.hb_font_t.face c.args.plan.now c.args.face.now in
    let inner = c.into_inner-inner.result in
    let begins : inner ≡ guessed unicode c.args.buffer = c.into_inner-inner.ensures ∙ c.guess_segment_properties.ensures in
    c.in-Ok.ensures.characters
    ∙ ap (λ (d : Direction). text_of (normalized run.rules (text_made run d inner))) c.direction-direction.ensures
    ∙ ap (λ (b : Buffer). text_of (normalized run.rules (text_made run b.direction b))) begins

pub returns-in-Ok-clause-canonical : goal.returns-in-Ok-clause-canonical
returns-in-Ok-clause-canonical g c =
    let layout = g.M.hb_ot_layout_t in
    let shaper = g.S.hb_ot_shaper_t in
    list_is_canonical g.U.hb_unicode_funcs_t.unicode layout.masks layout.lookups shaper.constants shaper.hooks g.F.hb_font_t.face
    c.args.plan.now c.args.face.now g.met.U.hb_unicode_funcs_t.lawful c.args.buffer

pub returns-in-Err-clause-length : goal.returns-in-Err-clause-length
returns-in-Err-clause-length g c = λ is.
    let unicode = g.U.hb_unicode_funcs_t.unicode in
    let layout = g.M.hb_ot_layout_t in
    let shaper = g.S.hb_ot_shaper_t in
    let run = run_of unicode layout.masks layout.lookups shaper.constants shaper.hooks g.F.hb_font_t.face c.args.plan.now c.args.face.now in
    let inner = c.into_inner-inner.result in
    let begins : inner ≡ guessed unicode c.args.buffer = c.into_inner-inner.ensures ∙ c.guess_segment_properties.ensures in
    subst (λ (b : Buffer). NormalisingPasses run b.direction b) begins
    (subst (λ (d : Direction). NormalisingPasses run d inner) c.direction-direction.ensures
    (c.in-Err.ensures.length (ap Err is)))
