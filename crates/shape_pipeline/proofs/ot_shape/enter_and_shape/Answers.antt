use Rattle.std.proofs.Common.{subst}
use Rattle.shape_items.specs.Buffer.{Buffer}
use Rattle.shape_buffer.specs.Outcome.{RunOutcome}
use Rattle.shape_plan.specs.Run.{run_of}
use Rattle.shape_pipeline.specs.Shaped.{all_steps}
use Rattle.shape_pipeline.proofs.ot_shape.enter_and_shape.Goals as goal

pub returns : goal.returns
returns g c =
    let shaper = g.T.Shaper.hb_ot_shaper_t in
    let engine = g.T.Engine.hb_ot_layout_t in
    let run_under = run_of g.T.Unicode.hb_unicode_funcs_t.unicode engine.masks engine.lookups shaper.constants shaper.hooks in
    let run = run_under g.T.Face.hb_font_t.face c.args.plan.now c.args.face.now in
    subst (λ (b : Buffer). RunOutcome (all_steps run c.args.target) b c.shape_entered.new.buffer c.shape_entered.result) c.enter.ensures c.shape_entered.ensures
