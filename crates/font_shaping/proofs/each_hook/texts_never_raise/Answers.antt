use Rattle.font_shaping.proofs.ScriptLemmas.{of_category-has}
use Rattle.font_shaping.specs.RunTries.{NeverRaisesBy}
use Rattle.shaper_choice.specs.declared.plans.ScriptPlan.TheVariants as by
use Rattle.font_shaping.proofs.each_hook.texts_never_raise.Goals as goal

pub returns : goal.returns
returns g c = λ face features text.
    let plans = c.plans_never_raise.ensures in
    of_category-has (NeverRaisesBy g.M.hb_ot_layout_t.lookups face) _ _ (record {
      default = c.text_runs_never_raise.ensures (λ p f. plans (by.Default p) f) face (record {}) features text;
      arabic = c.text_runs_never_raise-2.ensures (λ p f. plans (by.Arabic p) f) face (record {}) features text;
      hangul = c.text_runs_never_raise-3.ensures (λ p f. plans (by.Hangul p) f) face (record {}) features text;
      hebrew = c.text_runs_never_raise-4.ensures (λ p f. plans (by.Hebrew p) f) face (record {}) features text;
      thai = c.text_runs_never_raise-5.ensures (λ p f. plans (by.Thai p) f) face (record {}) features text;
      universal = c.text_runs_never_raise-6.ensures (λ p f. plans (by.Universal p) f) face (record {}) features text;
      khmer = c.text_runs_never_raise-7.ensures (λ p f. plans (by.Khmer p) f) face (record {}) features text;
      myanmar = c.text_runs_never_raise-8.ensures (λ p f. plans (by.Myanmar p) f) face (record {}) features text;
      zawgyi = c.text_runs_never_raise-9.ensures (λ p f. plans (by.Zawgyi p) f) face (record {}) features text;
      indic = c.text_runs_never_raise-10.ensures (λ p f. plans (by.Indic p) f) face (record {}) features text;
    })
