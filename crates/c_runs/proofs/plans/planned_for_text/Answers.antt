use Rattle.c_runs.proofs.PlanLemmas.{same-fits, same-runs, fits-planned}
use Rattle.c_runs.proofs.plans.planned_for_text.Goals as goal

pub returns-clause-fits : goal.returns-clause-fits
returns-clause-fits g c = λ face features text plan is.
    let unicode = g.U.hb_unicode_funcs_t.unicode in
    same-fits _ _ unicode text plan is (record {
      default = fits-planned _ face _ unicode text text.language features;
      arabic = fits-planned _ face _ unicode text text.language features;
      hangul = fits-planned _ face _ unicode text text.language features;
      hebrew = fits-planned _ face _ unicode text text.language features;
      thai = fits-planned _ face _ unicode text text.language features;
      universal = fits-planned _ face _ unicode text text.language features;
      khmer = fits-planned _ face _ unicode text text.language features;
      myanmar = fits-planned _ face _ unicode text text.language features;
      zawgyi = fits-planned _ face _ unicode text text.language features;
      indic = fits-planned _ face _ unicode text text.language features;
    })

pub returns-clause-runs : goal.returns-clause-runs
returns-clause-runs g c = λ face features text plan is. same-runs _ _ _ plan is
