use Rattle.std.proofs.Common.{◌≡◌, Ok, Err, false, true, inr, ap, subst, ◌∙◌}
use Rattle.shape_items.specs.Buffer.{Buffer}
use Rattle.shape_buffer.specs.Guess.{guessed}
use Rattle.shape_buffer.specs.declared.buffer.error.ShapeError.TheVariants.{Length}
use Rattle.shape_pipeline.specs.Headline.{target_of}
use Rattle.shape_pipeline.specs.Shaped.{ShapingPasses, Shapes}
use Rattle.shape_plan.specs.Run.{run_of}
use Rattle.word_cache.specs.Keys.{spelled}
use Rattle.word_cache.proofs.ShapingLemmas.{shaped_fine}
use Rattle.word_cache.proofs.shaping.shaped.Goals as goal

pub returns-in_ok-word_of-in-Ok-clause-too_long : goal.returns-in_ok-word_of-in-Ok-clause-too_long
returns-in_ok-word_of-in-Ok-clause-too_long g c = λ long.
    let unicode = g.T.Unicode.hb_unicode_funcs_t.unicode in
    let shaper = g.T.Shaper.hb_ot_shaper_t in
    let layout = g.T.Engine.hb_ot_layout_t in
    let run = run_of unicode layout.masks layout.lookups shaper.constants shaper.hooks g.T.Face.hb_font_t.face c.args.plan.now c.args.face.now in
    let counted : Shapes run (target_of run (spelled c.args.spelling.now)) (guessed unicode (spelled c.args.spelling.now)) c.in-Ok.glyphs
    = subst (λ (b : Buffer). Shapes run (target_of run b) (guessed unicode b) c.in-Ok.glyphs) c.in_ok-text.ensures.ok c.in-Ok.ensures.ok.counted in
    absurd (shaped_fine run c.args.spelling.now c.in-Ok.glyphs
    (λ bytes. absurd (let e : Ok c.in_ok-text.text ≡ Err Length = c.in_ok-text.ensures.length.1 bytes in cc)) counted long)

pub returns-in-Err-clause-length : goal.returns-in-Err-clause-length
returns-in-Err-clause-length g c = λ is.
    let unicode = g.T.Unicode.hb_unicode_funcs_t.unicode in
    let shaper = g.T.Shaper.hb_ot_shaper_t in
    let layout = g.T.Engine.hb_ot_layout_t in
    let run = run_of unicode layout.masks layout.lookups shaper.constants shaper.hooks g.T.Face.hb_font_t.face c.args.plan.now c.args.face.now in
    let made : c.in_ok-text.text ≡ spelled c.args.spelling.now = c.in_ok-text.ensures.ok in
    let cause : c.in-Err.fault.cause ≡ Length = cc in
    inr (
      λ none. absurd (let e : false ≡ true = c.in-Err.ensures.empty (ap (λ (b : Buffer). b.items) made ∙ none) in cc),
      subst (λ (b : Buffer). ShapingPasses run (target_of run b) (guessed unicode b)) made (c.in-Err.ensures.length cause),
    )
