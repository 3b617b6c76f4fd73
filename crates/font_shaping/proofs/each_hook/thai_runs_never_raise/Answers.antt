use Rattle.std.proofs.Common.{None, refl}
use Rattle.shape_buffer.specs.declared.interfaces.map_request.TableIndex.TheVariants.{GSUB}
use Rattle.script_shapers.specs.ThaiForms.{forms_due, thai_text}
use Rattle.font_shaping.proofs.Hooks.GivenLemmas.{unchanged}
use Rattle.font_shaping.proofs.Hooks.ScriptLemmas.{same-thai}
use Rattle.font_shaping.proofs.SameWorkLemmas.{never, same-less}
use Rattle.font_shaping.proofs.each_hook.thai_runs_never_raise.Goals as goal

pub returns : goal.returns
returns g c = λ plan face.
    let meant = g.F.hb_font_t.face face in
    let due = forms_due plan.script ((g.M.hb_ot_layout_t.layout face).chosen_script plan.script None GSUB) in
    c.given_hooks_never_raise.ensures plan face (λ shaper. record {
      preprocess = never (thai_text due meant) (same-thai meant due);
      setup_masks = unchanged;
      pause = λ n. unchanged;
      postprocess = unchanged;
      reorder = λ b start end. same-less b b refl;
    })
