-- A plan by the shaper that a script asks for: which it is, what it runs, and which texts it fits.
use Rattle.shape_common.specs.Unicode.{UnicodeMeaning}
use Rattle.shape_items.specs.Buffer.{Buffer}
use Rattle.shape_plan.specs.Plan.{Plan, Fits}
use Rattle.shape_plan.specs.Run.{Run}
use Rattle.shape_plan.specs.declared.ot_shaper.shapers.hb_default_shaper_t.{hb_default_shaper_t}
use Rattle.indic_shaper.specs.declared.shaper.IndicShaper.{IndicShaper}
use Rattle.khmer_shaper.specs.declared.shaper.KhmerShaper.{KhmerShaper}
use Rattle.myanmar_shaper.specs.declared.shaper.MyanmarShaper.{MyanmarShaper}
use Rattle.myanmar_shaper.specs.declared.zawgyi.ZawgyiShaper.{ZawgyiShaper}
use Rattle.script_shapers.specs.declared.arabic.ArabicShaper.{ArabicShaper}
use Rattle.script_shapers.specs.declared.hangul.HangulShaper.{HangulShaper}
use Rattle.script_shapers.specs.declared.hebrew.HebrewShaper.{HebrewShaper}
use Rattle.script_shapers.specs.declared.thai.ThaiShaper.{ThaiShaper}
use Rattle.universal_shaper.specs.declared.shaper.UniversalShaper.{UniversalShaper}
use Rattle.shaper_choice.specs.declared.choice.Category.{Category}
use Rattle.shaper_choice.specs.declared.choice.Category.TheVariants as is
use Rattle.shaper_choice.specs.declared.plans.ScriptPlan.{ScriptPlan}
use Rattle.shaper_choice.specs.declared.plans.ScriptPlan.TheVariants as by
use Rattle.shaper_choice.specs.declared.plans.ScriptShapers.{ScriptShapers}

-- the shapers that plans refer to: they hold nothing
abbrev pub all_shapers : ScriptShapers
all_shapers = record {
  default = record {};
  arabic = record {};
  hangul = record {};
  hebrew = record {};
  thai = record {};
  universal = record {};
  khmer = record {};
  myanmar = record {};
  zawgyi = record {};
  indic = record {};
}

-- a plan by each shaper
pub record PlanOfEach (P : Type 0) : Type 0 where
  pub default : Plan hb_default_shaper_t P Unit
  pub arabic : Plan ArabicShaper P Unit
  pub hangul : Plan HangulShaper P Unit
  pub hebrew : Plan HebrewShaper P Unit
  pub thai : Plan ThaiShaper P Unit
  pub universal : Plan UniversalShaper P Unit
  pub khmer : Plan KhmerShaper P Unit
  pub myanmar : Plan MyanmarShaper P Unit
  pub zawgyi : Plan ZawgyiShaper P Unit
  pub indic : Plan IndicShaper P Unit

-- what plans of each shaper run
pub record RunOfEach (P : Type 0) : Type 0 where
  pub default : Plan hb_default_shaper_t P Unit → Run
  pub arabic : Plan ArabicShaper P Unit → Run
  pub hangul : Plan HangulShaper P Unit → Run
  pub hebrew : Plan HebrewShaper P Unit → Run
  pub thai : Plan ThaiShaper P Unit → Run
  pub universal : Plan UniversalShaper P Unit → Run
  pub khmer : Plan KhmerShaper P Unit → Run
  pub myanmar : Plan MyanmarShaper P Unit → Run
  pub zawgyi : Plan ZawgyiShaper P Unit → Run
  pub indic : Plan IndicShaper P Unit → Run

module _ {P : Type 0} where
  abbrev pub plan_of_category : Category → PlanOfEach P → ScriptPlan P
  plan_of_category is.Default plans = by.Default plans.default
  plan_of_category is.Arabic plans = by.Arabic plans.arabic
  plan_of_category is.Hangul plans = by.Hangul plans.hangul
  plan_of_category is.Hebrew plans = by.Hebrew plans.hebrew
  plan_of_category is.Thai plans = by.Thai plans.thai
  plan_of_category is.Universal plans = by.Universal plans.universal
  plan_of_category is.Khmer plans = by.Khmer plans.khmer
  plan_of_category is.Myanmar plans = by.Myanmar plans.myanmar
  plan_of_category is.Zawgyi plans = by.Zawgyi plans.zawgyi
  plan_of_category is.Indic plans = by.Indic plans.indic

  abbrev pub run_of_plan : ScriptPlan P → RunOfEach P → Run
  run_of_plan (by.Default plan) runs = runs.default plan
  run_of_plan (by.Arabic plan) runs = runs.arabic plan
  run_of_plan (by.Hangul plan) runs = runs.hangul plan
  run_of_plan (by.Hebrew plan) runs = runs.hebrew plan
  run_of_plan (by.Thai plan) runs = runs.thai plan
  run_of_plan (by.Universal plan) runs = runs.universal plan
  run_of_plan (by.Khmer plan) runs = runs.khmer plan
  run_of_plan (by.Myanmar plan) runs = runs.myanmar plan
  run_of_plan (by.Zawgyi plan) runs = runs.zawgyi plan
  run_of_plan (by.Indic plan) runs = runs.indic plan

  abbrev pub PlanFits : UnicodeMeaning → ScriptPlan P → Buffer → Type 0
  PlanFits unicode (by.Default plan) text = Fits unicode plan text
  PlanFits unicode (by.Arabic plan) text = Fits unicode plan text
  PlanFits unicode (by.Hangul plan) text = Fits unicode plan text
  PlanFits unicode (by.Hebrew plan) text = Fits unicode plan text
  PlanFits unicode (by.Thai plan) text = Fits unicode plan text
  PlanFits unicode (by.Universal plan) text = Fits unicode plan text
  PlanFits unicode (by.Khmer plan) text = Fits unicode plan text
  PlanFits unicode (by.Myanmar plan) text = Fits unicode plan text
  PlanFits unicode (by.Zawgyi plan) text = Fits unicode plan text
  PlanFits unicode (by.Indic plan) text = Fits unicode plan text
