use Rattle.shape_buffer.specs.Outcome.{Ran}
use Rattle.shape_plan.specs.Run.{run_of}
use Rattle.shape_glyphs.specs.Substitution.{stage_steps}
use Rattle.shape_glyphs.proofs.substitution.substitute_stages.Given as goal

-- the stages so far have run
abbrev pub invariant-stages : goal.invariant-stages
invariant-stages g l =
    let shaper = g.T.Shaper.hb_ot_shaper_t in
    let engine = g.T.Engine.hb_ot_layout_t in
    let run_under = run_of g.T.Unicode.hb_unicode_funcs_t.unicode engine.masks engine.lookups shaper.constants shaper.hooks in
    let run = run_under g.T.Face.hb_font_t.face l.plan l.face in
    Ran (stage_steps run l.i) l.fn.buffer l.buffer
