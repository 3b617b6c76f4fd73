use Rattle.shape_plan.specs.Run.{run_of}
use Rattle.shape_pipeline.proofs.CanonicalLemmas.{left-prepared, spellings_meet-run}
use Rattle.shape_pipeline.proofs.laws.equivalent_spellings_meet.Goals as goal

pub returns-clause-prepared : goal.returns-clause-prepared
returns-clause-prepared g c = λ plan face text left.
    let shaper = g.S.hb_ot_shaper_t in
    let layout = g.M.hb_ot_layout_t in
    left-prepared (run_of g.U.hb_unicode_funcs_t.unicode layout.masks layout.lookups shaper.constants shaper.hooks g.F.hb_font_t.face plan face)
    text left

pub returns-clause-meet : goal.returns-clause-meet
returns-clause-meet g c = λ plan face.
    let shaper = g.S.hb_ot_shaper_t in
    let layout = g.M.hb_ot_layout_t in
    spellings_meet-run g.U.hb_unicode_funcs_t.unicode layout.masks layout.lookups shaper.constants shaper.hooks g.F.hb_font_t.face plan face
    g.met.U.hb_unicode_funcs_t.lawful
