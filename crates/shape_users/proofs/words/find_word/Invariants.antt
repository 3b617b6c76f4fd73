use Rattle.shape_plan.specs.Run.{run_of}
use Rattle.shape_users.specs.Words.{IsNowhere}
use Rattle.shape_users.proofs.WordLemmas.{NoneTooLong}
use Rattle.shape_users.proofs.words.find_word.Given as goal

abbrev pub invariant-loop-place : goal.invariant-loop-place
invariant-loop-place g l =
    let shaper = g.S.hb_ot_shaper_t in
    let layout = g.M.hb_ot_layout_t in
    let run = run_of g.U.hb_unicode_funcs_t.unicode layout.masks layout.lookups shaper.constants shaper.hooks g.F.hb_font_t.face l.plan l.face in
    IsNowhere run l.words l.place l.spelling × NoneTooLong run l.words l.place l.spelling
