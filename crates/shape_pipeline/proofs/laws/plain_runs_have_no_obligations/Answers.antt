use Rattle.std.proofs.Common.{refl}
use Rattle.shape_buffer.specs.NoLookups.{no_masks, no_lookups}
use Rattle.shape_plan.specs.Shapers.{no_hooks}
use Rattle.shape_pipeline.proofs.PremiseLemmas.{has_no_obligations, clusters-no_lookups, flags-no_lookups}
use Rattle.shape_pipeline.proofs.laws.plain_runs_have_no_obligations.Goals as goal

pub returns : goal.returns
returns g c = λ plan face.
    let unicode = g.U.hb_unicode_funcs_t.unicode in
    has_no_obligations unicode (λ _. no_masks) (λ _ _. no_lookups) _ (λ _ _ _. no_hooks unicode) g.F.hb_font_t.face plan face
    g.met.U.hb_unicode_funcs_t.lawful refl (λ s. refl) clusters-no_lookups flags-no_lookups
