use Rattle.std.proofs.Common.{refl}
use Rattle.script_shapers.proofs.HebrewLawLemmas.{composed, splits, composes, by_shaper}
use Rattle.script_shapers.proofs.lawful.hebrew_hooks_are_lawful.Goals as goal

pub returns : goal.returns
returns g c = λ sound.
    let plan = c.args.plan.now in
    let unicode = g.U.hb_unicode_funcs_t.unicode in
    let lawful = g.met.U.hb_unicode_funcs_t.lawful in
    let attaches = plan.decisions.has_gpos_mark in
    record {
      splits = splits unicode lawful sound attaches _;
      composes = λ recomposes. composes unicode lawful sound attaches _ (by_shaper _ (composed unicode attaches) (λ s. refl) plan.shaper);
    }
