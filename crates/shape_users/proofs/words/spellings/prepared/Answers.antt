use Rattle.std.proofs.Common.{◌≡◌, false, true, Err, inr, ap, subst, ◌∙◌}
use Rattle.shape_items.specs.Buffer.{Buffer}
use Rattle.shape_buffer.specs.Guess.{guessed}
use Rattle.shape_common.specs.declared.text_types.Direction.{Direction}
use Rattle.shape_pipeline.specs.Shaped.{PreparingPasses}
use Rattle.shape_plan.specs.Run.{run_of}
use Rattle.shape_users.specs.Words.{spelled}
use Rattle.shape_users.proofs.WordLemmas.{refused_for}
use Rattle.shape_users.proofs.words.spellings.prepared.Goals as goal

pub returns-in_err-prepare_text-clause-length : goal.returns-in_err-prepare_text-clause-length
returns-in_err-prepare_text-clause-length g c = λ is.
    let unicode = g.T.Unicode.hb_unicode_funcs_t.unicode in
    let layout = g.T.Engine.hb_ot_layout_t in
    let shaper = g.T.Shaper.hb_ot_shaper_t in
    let run = run_of unicode layout.masks layout.lookups shaper.constants shaper.hooks g.T.Face.hb_font_t.face c.args.plan.now c.args.face.now in
    let begins : c.into_inner-buffer.result ≡ guessed unicode (spelled c.args.spelling.now) = c.into_inner-buffer.ensures
    ∙ c.guess_segment_properties.ensures
    ∙ ap (guessed unicode) c.in_ok-text.ensures.ok in
    let residual = c.from_residual-in_err-prepare_text in
    let refused = c.in_err-prepare_text in
    let cause = refused_for residual.result refused.field-0.0 residual.ensures.1 is in
    inr (
      λ none. absurd (let e : false ≡ true = refused.ensures.empty (ap (λ (b : Buffer). b.items) begins ∙ none) in cc),
      subst (λ (b : Buffer). PreparingPasses run b.direction b) begins
          (subst (λ (d : Direction). PreparingPasses run d c.into_inner-buffer.result) c.direction-target_direction.ensures
          (refused.ensures.length (ap Err cause))),
    )
