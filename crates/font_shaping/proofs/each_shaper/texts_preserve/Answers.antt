use Rattle.std.proofs.Common.{◌≡◌, refl}
use Rattle.shape_pipeline.specs.Canonical.{RunPreservesEquivalence}
use Rattle.shape_pipeline.specs.Order.{RunOrdersClusters}
use Rattle.shape_plan.specs.Preservation.{RunPreservesFlags}
use Rattle.shape_plan.specs.Run.{Run}
use Rattle.shaper_choice.specs.declared.plans.ScriptPlan.TheVariants as by
use Rattle.font_shaping.proofs.ScriptLemmas.{of_category-has, of_category-preserves}
use Rattle.font_shaping.proofs.each_shaper.texts_preserve.Goals as goal

pub returns-clause-unicode : goal.returns-clause-unicode
returns-clause-unicode g c = λ face features text.
    of_category-has (λ (run : Run). run.unicode ≡ g.U.hb_unicode_funcs_t.unicode) _ _ (record {
      default = refl;
      arabic = refl;
      hangul = refl;
      hebrew = refl;
      thai = refl;
      universal = refl;
      khmer = refl;
      myanmar = refl;
      zawgyi = refl;
      indic = refl;
    })

pub returns-clause-clusters : goal.returns-clause-clusters
returns-clause-clusters g c = λ engine face features text.
    of_category-has RunOrdersClusters _ _ (record {
      default = c.text_runs_preserve.ensures.clusters (λ p f. c.plans_preserve.ensures.clusters engine (by.Default p) f)
          face (record {}) features text;
      arabic = c.text_runs_preserve-2.ensures.clusters (λ p f. c.plans_preserve.ensures.clusters engine (by.Arabic p) f)
          face (record {}) features text;
      hangul = c.text_runs_preserve-3.ensures.clusters (λ p f. c.plans_preserve.ensures.clusters engine (by.Hangul p) f)
          face (record {}) features text;
      hebrew = c.text_runs_preserve-4.ensures.clusters (λ p f. c.plans_preserve.ensures.clusters engine (by.Hebrew p) f)
          face (record {}) features text;
      thai = c.text_runs_preserve-5.ensures.clusters (λ p f. c.plans_preserve.ensures.clusters engine (by.Thai p) f)
          face (record {}) features text;
      universal = c.text_runs_preserve-6.ensures.clusters (λ p f. c.plans_preserve.ensures.clusters engine (by.Universal p) f)
          face (record {}) features text;
      khmer = c.text_runs_preserve-7.ensures.clusters (λ p f. c.plans_preserve.ensures.clusters engine (by.Khmer p) f)
          face (record {}) features text;
      myanmar = c.text_runs_preserve-8.ensures.clusters (λ p f. c.plans_preserve.ensures.clusters engine (by.Myanmar p) f)
          face (record {}) features text;
      zawgyi = c.text_runs_preserve-9.ensures.clusters (λ p f. c.plans_preserve.ensures.clusters engine (by.Zawgyi p) f)
          face (record {}) features text;
      indic = c.text_runs_preserve-10.ensures.clusters (λ p f. c.plans_preserve.ensures.clusters engine (by.Indic p) f)
          face (record {}) features text;
    })

pub returns-clause-flags : goal.returns-clause-flags
returns-clause-flags g c = λ engine face features text.
    of_category-has RunPreservesFlags _ _ (record {
      default = c.text_runs_preserve.ensures.flags (λ p f. c.plans_preserve.ensures.flags engine (by.Default p) f)
          face (record {}) features text;
      arabic = c.text_runs_preserve-2.ensures.flags (λ p f. c.plans_preserve.ensures.flags engine (by.Arabic p) f)
          face (record {}) features text;
      hangul = c.text_runs_preserve-3.ensures.flags (λ p f. c.plans_preserve.ensures.flags engine (by.Hangul p) f)
          face (record {}) features text;
      hebrew = c.text_runs_preserve-4.ensures.flags (λ p f. c.plans_preserve.ensures.flags engine (by.Hebrew p) f)
          face (record {}) features text;
      thai = c.text_runs_preserve-5.ensures.flags (λ p f. c.plans_preserve.ensures.flags engine (by.Thai p) f)
          face (record {}) features text;
      universal = c.text_runs_preserve-6.ensures.flags (λ p f. c.plans_preserve.ensures.flags engine (by.Universal p) f)
          face (record {}) features text;
      khmer = c.text_runs_preserve-7.ensures.flags (λ p f. c.plans_preserve.ensures.flags engine (by.Khmer p) f)
          face (record {}) features text;
      myanmar = c.text_runs_preserve-8.ensures.flags (λ p f. c.plans_preserve.ensures.flags engine (by.Myanmar p) f)
          face (record {}) features text;
      zawgyi = c.text_runs_preserve-9.ensures.flags (λ p f. c.plans_preserve.ensures.flags engine (by.Zawgyi p) f)
          face (record {}) features text;
      indic = c.text_runs_preserve-10.ensures.flags (λ p f. c.plans_preserve.ensures.flags engine (by.Indic p) f)
          face (record {}) features text;
    })

pub returns-clause-equivalence : goal.returns-clause-equivalence
returns-clause-equivalence g c = λ engine face features text is.
    of_category-preserves RunPreservesEquivalence _ _ is
    (c.text_runs_preserve.ensures.equivalence (λ p f.
    (c.runs_without_hooks_have_no_obligations.ensures p f refl (λ shaper. refl) (engine.clusters p.ot_map f) (engine.flags p.ot_map f)).canonical)
    face (record {}) features text)
    (c.text_runs_preserve-8.ensures.equivalence (λ p f. c.myanmar_runs_preserve.ensures.equivalence p f)
    face (record {}) features text)
    (c.text_runs_preserve-9.ensures.equivalence (λ p f. c.zawgyi_runs_preserve.ensures.equivalence p f)
    face (record {}) features text)
