use Rattle.std.proofs.Common.{refl}
use Rattle.shape_common.specs.Direction.{is_backward}
use Rattle.cluster_order.specs.Ordered.{clusters_ordered}
use Rattle.syllabic.specs.Constraints.{vowels_parted}
use Rattle.indic_shaper.specs.Pauses as indic
use Rattle.font_shaping.proofs.Hooks.GivenLemmas.{unchanged}
use Rattle.font_shaping.proofs.Hooks.IndicLemmas.{same-clusters_ordered, same-indic_pause}
use Rattle.font_shaping.proofs.Hooks.SyllableLemmas.{same-vowels}
use Rattle.font_shaping.proofs.SameWorkLemmas.{never, same-less}
use Rattle.font_shaping.proofs.each_hook.indic_runs_never_raise.Goals as goal

pub returns : goal.returns
returns g c = λ plan face.
    let map = g.M.hb_ot_layout_t.masks plan.ot_map in
    let layout = g.M.hb_ot_layout_t.layout face in
    let lookups = g.M.hb_ot_layout_t.lookups plan.ot_map face in
    let meant = g.F.hb_font_t.face face in
    c.given_hooks_never_raise.ensures plan face (λ shaper. record {
      preprocess = never vowels_parted same-vowels;
      setup_masks = unchanged;
      pause = λ n. never (indic.made_by_pause n meant layout map lookups plan.script)
          (same-indic_pause meant layout map lookups plan.script n);
      postprocess = never (clusters_ordered (is_backward plan.direction)) (same-clusters_ordered (is_backward plan.direction));
      reorder = λ b start end. same-less b b refl;
    })
