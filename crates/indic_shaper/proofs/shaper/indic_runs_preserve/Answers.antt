use Rattle.std.proofs.Common.{refl, inl, inr}
use Rattle.shape_common.specs.Direction.{is_backward}
use Rattle.syllabic.proofs.ConstraintLemmas.{Preserved-vowels}
use Rattle.indic_shaper.proofs.PauseLemmas.{pause-none, pause-flags}
use Rattle.indic_shaper.proofs.shaper.indic_runs_preserve.Goals as goal

pub returns-clause-clusters : goal.returns-clause-clusters
returns-clause-clusters g c = λ plan face preserve.
    let layout = g.M.hb_ot_layout_t.layout face in
    let map = g.M.hb_ot_layout_t.masks plan.ot_map in
    let lawful = g.met.M.hb_ot_layout_t.lawful_masks plan.ot_map in
    let lookups = g.M.hb_ot_layout_t.lookups plan.ot_map face in
    c.ordering_hooks_preserve.ensures plan face
    (λ shaper. record {
      preprocess = inr (λ b monotone. (Preserved-vowels b).order monotone);
      pause = inr (λ lives i n within is. pause-none (g.F.hb_font_t.face face) layout map lawful lookups plan.script n);
      given = refl;
      postprocess = c.ordering_orders.ensures.orders (is_backward plan.direction);
    }) preserve (λ reorder given. cc)

pub returns-clause-flags : goal.returns-clause-flags
returns-clause-flags g c = λ plan face.
    let layout = g.M.hb_ot_layout_t.layout face in
    let map = g.M.hb_ot_layout_t.masks plan.ot_map in
    let lawful = g.met.M.hb_ot_layout_t.lawful_masks plan.ot_map in
    let lookups = g.M.hb_ot_layout_t.lookups plan.ot_map face in
    c.given_hooks_preserve.ensures.flags plan face
    (λ shaper. record {
      preprocess = inr (λ b. (Preserved-vowels b).flags);
      setup_masks = inl refl;
      postprocess = inr (c.ordering_orders.ensures.flags (is_backward plan.direction));
      pause = inr (λ lives i n within is. pause-flags (g.F.hb_font_t.face face) layout map lawful lookups plan.script n);
    })
