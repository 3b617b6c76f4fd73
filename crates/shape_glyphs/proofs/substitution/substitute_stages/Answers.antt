use Rattle.std.proofs.Common.{add-one, arith}
use Rattle.std.proofs.lemmas.Result.{err_from_is_err_and}
use Rattle.shape_buffer.proofs.Steps.Runs.{Ran-then, Ran-first, Refused-after, Refused-here, Refused-first_ran}
use Rattle.shape_plan.specs.Run.{run_of}
use Rattle.shape_glyphs.proofs.StageRuns.{Refused-stages}
use Rattle.shape_glyphs.proofs.substitution.substitute_stages.Goals as goal

pub stages-preserved : goal.stages-preserved
stages-preserved g c =
    rw add-one (Ran-then c.stages.invariant (Ran-first c.in_ok-run_lookups.ensures c.in_ok-pause_after.ensures))

pub returns-in_err-run_lookups : goal.returns-in_err-run_lookups
returns-in_err-run_lookups g c =
    let p = err_from_is_err_and c.from_residual.result c.from_residual.ensures.1 in
    let shaper = g.T.Shaper.hb_ot_shaper_t in
    let engine = g.T.Engine.hb_ot_layout_t in
    let run_under = run_of g.T.Unicode.hb_unicode_funcs_t.unicode engine.masks engine.lookups shaper.constants shaper.hooks in
    let run = run_under g.T.Face.hb_font_t.face c.args.plan.now c.args.face.now in
    rw (p.1, p.2) (Refused-stages run c.stages.i (g.T.Engine.hb_ot_layout_t.masks c.args.plan.now.ot_map).stages (omega arith)
    (Refused-after c.stages.invariant (Refused-here c.in_err-run_lookups.ensures)))

pub returns-in_err-pause_after : goal.returns-in_err-pause_after
returns-in_err-pause_after g c =
    let p = err_from_is_err_and c.from_residual-in_err-pause_after.result c.from_residual-in_err-pause_after.ensures.1 in
    let shaper = g.T.Shaper.hb_ot_shaper_t in
    let engine = g.T.Engine.hb_ot_layout_t in
    let run_under = run_of g.T.Unicode.hb_unicode_funcs_t.unicode engine.masks engine.lookups shaper.constants shaper.hooks in
    let run = run_under g.T.Face.hb_font_t.face c.args.plan.now c.args.face.now in
    rw (p.1, p.2) (Refused-stages run c.stages.i (g.T.Engine.hb_ot_layout_t.masks c.args.plan.now.ot_map).stages (omega arith)
    (Refused-after c.stages.invariant (Refused-first_ran c.in_ok-run_lookups.ensures c.in_err-pause_after.ensures)))
