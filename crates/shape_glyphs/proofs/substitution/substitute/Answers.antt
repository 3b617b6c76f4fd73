use Rattle.std.proofs.Common.{◌∙◌, arith, refl, sym}
use Rattle.std.proofs.lemmas.Result.{err_from_is_err_and}
use Rattle.shape_buffer.proofs.Steps.Runs.{Ran-then, Ran-made, Refused-before}
use Rattle.shape_plan.specs.Run.{run_of}
use Rattle.shape_glyphs.proofs.StageRuns.{substitute_steps-stages}
use Rattle.shape_glyphs.proofs.substitution.substitute.Goals as goal

pub returns-in_err-substitute_aat : goal.returns-in_err-substitute_aat
returns-in_err-substitute_aat g c =
    let p = err_from_is_err_and c.from_residual.result c.from_residual.ensures.1 in
    rw (p.1, p.2, ← c.apply_morx.ensures, c.if-apply_morx.true) (Refused-before _ c.in_err-substitute_aat.ensures)

pub returns-then-apply_gpos : goal.returns-then-apply_gpos
returns-then-apply_gpos g c =
    rw (← c.apply_morx.ensures, c.if-apply_morx.true, ← c.apply_gpos.ensures, c.if-apply_gpos.true)
    (Ran-then c.in_ok-substitute_aat.ensures (Ran-made c.in_ok-substitute_aat.ensures.within (c.aat_remove_deleted.ensures c.args.plan.now.ot_map c.args.face.now)))

pub returns-in_err-substitute_stages : goal.returns-in_err-substitute_stages
returns-in_err-substitute_stages g c =
    let p = err_from_is_err_and c.from_residual-in_err-substitute_stages.result c.from_residual-in_err-substitute_stages.ensures.1 in
    let shaper = g.T.Shaper.hb_ot_shaper_t in
    let engine = g.T.Engine.hb_ot_layout_t in
    let run_under = run_of g.T.Unicode.hb_unicode_funcs_t.unicode engine.masks engine.lookups shaper.constants shaper.hooks in
    let run = run_under g.T.Face.hb_font_t.face c.args.plan.now c.args.face.now in
    rw (p.1, p.2, substitute_steps-stages run (sym c.apply_morx.ensures ∙ c.if-apply_morx.false)) (Refused-before _ c.in_err-substitute_stages.ensures)

pub returns : goal.returns
returns g c =
    let shaper = g.T.Shaper.hb_ot_shaper_t in
    let engine = g.T.Engine.hb_ot_layout_t in
    let run_under = run_of g.T.Unicode.hb_unicode_funcs_t.unicode engine.masks engine.lookups shaper.constants shaper.hooks in
    let run = run_under g.T.Face.hb_font_t.face c.args.plan.now c.args.face.now in
    rw (substitute_steps-stages run (sym c.apply_morx.ensures ∙ c.if-apply_morx.false))
    (Ran-then c.in_ok-substitute_stages.ensures
    (Ran-made {f = λ b. b} c.in_ok-substitute_stages.ensures.within (record { made = refl; no_longer = omega arith; same_limit = refl })))
