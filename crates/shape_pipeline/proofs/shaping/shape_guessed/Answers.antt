use Rattle.std.proofs.Common.{◌≡◌, ◌∙◌, ap, sym, subst, refl}
use Rattle.shape_items.specs.Buffer.{Buffer}
use Rattle.shape_buffer.specs.Guess.{guessed, guessed_direction}
use Rattle.shape_common.specs.declared.text_types.Direction.{Direction}
use Rattle.shape_normalize.proofs.Hooks.RulesLemmas.{used_reorder-lawful}
use Rattle.shape_plan.specs.Run.{run_of}
use Rattle.shape_pipeline.specs.Headline.{prepared_text, IsMadeOfNormalisedList, HasFlagsByCluster}
use Rattle.shape_pipeline.specs.Order.{ClustersComeInOrder}
use Rattle.shape_pipeline.proofs.CanonicalLemmas.{list_is_canonical}
use Rattle.shape_pipeline.proofs.FlagRunLemmas.{flags-run_made}
use Rattle.shape_pipeline.proofs.ClusterRunLemmas.{clusters-run_made}
use Rattle.shape_pipeline.proofs.OrderLemmas.{target_of-known}
use Rattle.shape_pipeline.proofs.RunLemmas.{made_of_list, normal_form, direction-made}
use Rattle.shape_pipeline.specs.Shaped.{shaped, Shapes, ShapingPasses}
use Rattle.shape_pipeline.proofs.shaping.shape_guessed.Goals as goal

pub returns-in-Ok-clause-ok : goal.returns-in-Ok-clause-ok
returns-in-Ok-clause-ok g c = λ original is.
    let shaper = g.S.hb_ot_shaper_t in
    let layout = g.M.hb_ot_layout_t in
    let unicode = g.U.hb_unicode_funcs_t.unicode in
    let lawful_unicode = g.met.U.hb_unicode_funcs_t.lawful in
    let run = run_of unicode layout.masks layout.lookups shaper.constants shaper.hooks g.F.hb_font_t.face c.args.plan.now c.args.face.now in
    let lawful = used_reorder-lawful shaper.hooks g.met.S.hb_ot_shaper_t.lawful_hooks shaper.constants.has_reorder_marks c.args.plan.now c.args.face.now in
    let masks = g.met.M.hb_ot_layout_t.lawful_masks c.args.plan.now.ot_map in
    let target = guessed_direction unicode original in
    let text = guessed unicode original in
    let glyphs = c.shape_whole.new.buffer in
    let ran : Shapes run c.direction-direction.result c.args.text.now glyphs = c.in-Ok.ensures.ok in
    let direction : c.direction-direction.result ≡ target = c.direction-direction.ensures ∙ ap (λ (b : Buffer). b.direction) is in
    let counted : Shapes run target text glyphs = subst (λ (b : Buffer). Shapes run target b glyphs) is
    (subst (λ (d : Direction). Shapes run d c.args.text.now glyphs) direction ran) in
    let planned : run.direction ≡ target = c.requires.planned ∙ ap (λ (b : Buffer). b.direction) is in
    let made : glyphs ≡ shaped run original = counted.made in
    record {
      glyphs = made;
      direction = ap (λ (b : Buffer). b.direction) made ∙ direction-made run target text refl;
      made = subst (λ (b : Buffer). IsMadeOfNormalisedList run original b) (sym made) (made_of_list run original);
      form = normal_form run.rules lawful lawful_unicode (prepared_text run original);
      canonical = list_is_canonical unicode layout.masks layout.lookups shaper.constants shaper.hooks g.F.hb_font_t.face
          c.args.plan.now c.args.face.now lawful_unicode original;
      clusters = subst (λ (b : Buffer). ClustersComeInOrder run target text b) (sym made)
          (clusters-run_made run target (target_of-known run original) lawful text refl planned);
      flags = λ preserves. subst (λ (b : Buffer). HasFlagsByCluster original b) (sym made)
          (flags-run_made run target lawful masks c.masks_are_features.ensures preserves original text refl);
      within = counted.within;
      counted = counted;
    }

pub returns-in-Err-clause-length : goal.returns-in-Err-clause-length
returns-in-Err-clause-length g c = λ is.
    let run = run_of g.U.hb_unicode_funcs_t.unicode g.M.hb_ot_layout_t.masks g.M.hb_ot_layout_t.lookups g.S.hb_ot_shaper_t.constants g.S.hb_ot_shaper_t.hooks g.F.hb_font_t.face c.args.plan.now c.args.face.now in
    subst (λ (d : Direction). ShapingPasses run d c.args.text.now) c.direction-direction.ensures (c.in-Err.ensures.length is)
