use Rattle.std.proofs.Common.{refl}
use Rattle.universal_shaper.proofs.LawfulLemmas.{splits, composes}
use Rattle.universal_shaper.proofs.lawful.universal_hooks_are_lawful.Goals as goal

pub returns-clause-lawful : goal.returns-clause-lawful
returns-clause-lawful g c =
    let unicode = g.U.hb_unicode_funcs_t.unicode in
    let lawful = g.met.U.hb_unicode_funcs_t.lawful in
    record {
      splits = splits unicode lawful _;
      composes = λ recomposes. composes unicode lawful _ (λ s. refl) c.args.plan.now.shaper;
    }
