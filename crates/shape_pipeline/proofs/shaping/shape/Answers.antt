use Rattle.std.proofs.Common.{◌≡◌, ◌∙◌, ap, sym, subst, rules, Err}
use Rattle.shape_items.specs.Buffer.{Buffer}
use Rattle.shape_buffer.specs.Guess.{guessed}
use Rattle.shape_plan.proofs.PlannedLemmas.{data-planned, direction-planned}
use Rattle.shape_plan.specs.Run.{run_of}
use Rattle.shape_pipeline.specs.GlyphsOf.{AreGlyphsOf}
use Rattle.shape_pipeline.specs.Planned.{planned_for}
use Rattle.shape_pipeline.specs.Shaped.{ShapingPasses}
use Rattle.shape_pipeline.proofs.shaping.shape.Goals as goal

pub returns-clause-data : goal.returns-clause-data
returns-clause-data g c = data-planned _ _ _ _ _ _ _

pub returns-in-Ok-shape_guessed-clause-ok : goal.returns-in-Ok-shape_guessed-clause-ok
returns-in-Ok-shape_guessed-clause-ok g c =
    let unicode = g.U.hb_unicode_funcs_t.unicode in
    let begins : c.guess_segment_properties.new.self ≡ guessed unicode c.args.buffer =
    c.guess_segment_properties.ensures ∙ ap (guessed unicode) c.into_inner-text.ensures in
    let made : c.in-Ok.plan ≡ planned_for unicode (record {
      faces = g.F.hb_font_t.face;
      layouts = g.M.hb_ot_layout_t.layout;
      masks = g.M.hb_ot_layout_t.masks;
      constants = g.S.hb_ot_shaper_t.constants;
      collected = g.S.hb_ot_shaper_t.collected;
      overriding = g.S.hb_ot_shaper_t.overriding;
      made_data = g.S.hb_ot_shaper_t.made_data;
    }) c.args.face.now c.args.shaper.now c.args.features.now c.args.buffer = search rules in
    let run = run_of unicode g.M.hb_ot_layout_t.masks g.M.hb_ot_layout_t.lookups g.S.hb_ot_shaper_t.constants g.S.hb_ot_shaper_t.hooks g.F.hb_font_t.face c.in-Ok.plan c.args.face.now in
    rw (← made) (subst (λ (b : Buffer). AreGlyphsOf run c.args.buffer b) (sym c.into_glyphs.ensures)
    (c.in-Ok-shape_guessed.ensures.ok c.args.buffer begins))

pub returns-in-Ok-clause-length : goal.returns-in-Ok-clause-length
returns-in-Ok-clause-length g c =
    let unicode = g.U.hb_unicode_funcs_t.unicode in
    let begins : c.guess_segment_properties.new.self ≡ guessed unicode c.args.buffer =
    c.guess_segment_properties.ensures ∙ ap (guessed unicode) c.into_inner-text.ensures in
    let made : c.in-Ok.plan ≡ planned_for unicode (record {
      faces = g.F.hb_font_t.face;
      layouts = g.M.hb_ot_layout_t.layout;
      masks = g.M.hb_ot_layout_t.masks;
      constants = g.S.hb_ot_shaper_t.constants;
      collected = g.S.hb_ot_shaper_t.collected;
      overriding = g.S.hb_ot_shaper_t.overriding;
      made_data = g.S.hb_ot_shaper_t.made_data;
    }) c.args.face.now c.args.shaper.now c.args.features.now c.args.buffer = search rules in
    let run = run_of unicode g.M.hb_ot_layout_t.masks g.M.hb_ot_layout_t.lookups g.S.hb_ot_shaper_t.constants g.S.hb_ot_shaper_t.hooks g.F.hb_font_t.face c.in-Ok.plan c.args.face.now in
    rw (← made) (λ is. subst (λ (b : Buffer). ShapingPasses run b.direction b) begins
    (c.in-Err-shape_guessed.ensures.length (ap Err (sym c.refused.ensures.cause ∙ is))))

pub shape_guessed-requires-clause-planned : goal.shape_guessed-requires-clause-planned
shape_guessed-requires-clause-planned g c = rw c.in-Ok.ensures.plan (direction-planned _ _ _ _ _ _ _ ∙ c.direction.ensures)
