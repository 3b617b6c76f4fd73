-- What each run by plans of one shaper has, a run by a plan of the shaper of a script has.
use Rattle.shape_plan.specs.Plan.{Plan}
use Rattle.shape_plan.specs.Run.{Run}
use Rattle.shape_plan.specs.declared.ot_shaper.shapers.hb_default_shaper_t.{hb_default_shaper_t}
use Rattle.indic_shaper.specs.declared.shaper.IndicShaper.{IndicShaper}
use Rattle.khmer_shaper.specs.declared.shaper.KhmerShaper.{KhmerShaper}
use Rattle.myanmar_shaper.specs.declared.shaper.MyanmarShaper.{MyanmarShaper}
use Rattle.myanmar_shaper.specs.declared.zawgyi.ZawgyiShaper.{ZawgyiShaper}
use Rattle.script_shapers.specs.declared.arabic.ArabicShaper.{ArabicShaper}
use Rattle.script_shapers.specs.declared.hangul.HangulShaper.{HangulShaper}
use Rattle.script_shapers.specs.declared.hebrew.HebrewShaper.{HebrewShaper}
use Rattle.script_shapers.specs.declared.thai.ThaiShaper.{ThaiShaper}
use Rattle.universal_shaper.specs.declared.shaper.UniversalShaper.{UniversalShaper}
use Rattle.shaper_choice.specs.ScriptPlans.{RunOfEach, run_of_plan}
use Rattle.shaper_choice.specs.declared.plans.ScriptPlan.{ScriptPlan}
use Rattle.shaper_choice.specs.declared.plans.ScriptPlan.TheVariants as by

pub record EachPlanHas {M : Type 0} (P : Run → Type 0) (runs : RunOfEach M) : Type 0 where
  pub default : (plan : Plan hb_default_shaper_t M Unit) → P (runs.default plan)
  pub arabic : (plan : Plan ArabicShaper M Unit) → P (runs.arabic plan)
  pub hangul : (plan : Plan HangulShaper M Unit) → P (runs.hangul plan)
  pub hebrew : (plan : Plan HebrewShaper M Unit) → P (runs.hebrew plan)
  pub thai : (plan : Plan ThaiShaper M Unit) → P (runs.thai plan)
  pub universal : (plan : Plan UniversalShaper M Unit) → P (runs.universal plan)
  pub khmer : (plan : Plan KhmerShaper M Unit) → P (runs.khmer plan)
  pub myanmar : (plan : Plan MyanmarShaper M Unit) → P (runs.myanmar plan)
  pub zawgyi : (plan : Plan ZawgyiShaper M Unit) → P (runs.zawgyi plan)
  pub indic : (plan : Plan IndicShaper M Unit) → P (runs.indic plan)

pub of_plan-has : {M : Type 0} (P : Run → Type 0) (runs : RunOfEach M) (plan : ScriptPlan M) → EachPlanHas P runs
    → P (run_of_plan plan runs)
of_plan-has P runs (by.Default plan) has = has.default plan
of_plan-has P runs (by.Arabic plan) has = has.arabic plan
of_plan-has P runs (by.Hangul plan) has = has.hangul plan
of_plan-has P runs (by.Hebrew plan) has = has.hebrew plan
of_plan-has P runs (by.Thai plan) has = has.thai plan
of_plan-has P runs (by.Universal plan) has = has.universal plan
of_plan-has P runs (by.Khmer plan) has = has.khmer plan
of_plan-has P runs (by.Myanmar plan) has = has.myanmar plan
of_plan-has P runs (by.Zawgyi plan) has = has.zawgyi plan
of_plan-has P runs (by.Indic plan) has = has.indic plan
