use Rattle.std.proofs.Common.{◌≡◌, ◌∙◌, ap, sym, subst, Err}
use Rattle.shape_items.specs.Buffer.{Buffer}
use Rattle.shape_buffer.specs.Guess.{guessed}
use Rattle.shape_plan.specs.Run.{run_of}
use Rattle.shape_pipeline.specs.Shaped.{ShapingPasses}
use Rattle.shape_pipeline.proofs.shaping.shape_with_plan.Goals as goal

pub returns-in-Err-clause-length : goal.returns-in-Err-clause-length
returns-in-Err-clause-length g c = λ is.
    let unicode = g.U.hb_unicode_funcs_t.unicode in
    let run = run_of unicode g.M.hb_ot_layout_t.masks g.M.hb_ot_layout_t.lookups g.S.hb_ot_shaper_t.constants g.S.hb_ot_shaper_t.hooks g.F.hb_font_t.face c.args.plan.now c.args.face.now in
    let begins : c.guess_segment_properties.new.self ≡ guessed unicode c.args.buffer =
    c.guess_segment_properties.ensures ∙ ap (guessed unicode) c.into_inner-text.ensures in
    subst (λ (b : Buffer). ShapingPasses run b.direction b) begins
    (c.in-Err.ensures.length (ap Err (sym c.refused.ensures.cause ∙ is)))
