use Rattle.indic_shaper.proofs.PauseLemmas.{pause-none, pause-flags}
use Rattle.indic_shaper.proofs.laws.pauses_preserve.Goals as goal

pub returns-clause-clusters : goal.returns-clause-clusters
returns-clause-clusters g c = λ map face script n.
    pause-none (g.F.hb_font_t.face face) (g.M.hb_ot_layout_t.layout face) (g.M.hb_ot_layout_t.masks map)
    (g.met.M.hb_ot_layout_t.lawful_masks map) (g.M.hb_ot_layout_t.lookups map face) script n

pub returns-clause-flags : goal.returns-clause-flags
returns-clause-flags g c = λ map face script n.
    pause-flags (g.F.hb_font_t.face face) (g.M.hb_ot_layout_t.layout face) (g.M.hb_ot_layout_t.masks map)
    (g.met.M.hb_ot_layout_t.lawful_masks map) (g.M.hb_ot_layout_t.lookups map face) script n
