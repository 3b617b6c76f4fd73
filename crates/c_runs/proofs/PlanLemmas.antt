-- Plans by the shaper of a script: which texts they fit, and what they run.
use Rattle.std.proofs.Common.{◌≡◌, ◌∙◌, ℕ, Option, List, [], ◌∷◌, ◌++◌, Result, Ok, Err, length, get_or, refl, ap, sym, subst, arith, length-append}
use Rattle.std.proofs.Math.Seq.{get_or-append_seam}
use Rattle.std.proofs.lemmas.List.Elements.{All-push}
use Rattle.std.specs.Option.{option_map}
use Rattle.std.specs.Prelude.{IfOk, OnErr, string_bytes}
use Rattle.plan_cache.specs.Keys.{IsFor, IsKeptAt, IsKeptLast}
use Rattle.plan_cache.specs.declared.keys.KeptPlan.{KeptPlan}
use Rattle.shape_buffer.specs.Guess.{guessed, guessed_direction, guessed_script}
use Rattle.shape_buffer.specs.declared.buffer.error.ShapeError.{ShapeError}
use Rattle.shape_common.specs.Unicode.{UnicodeMeaning}
use Rattle.shape_common.specs.declared.text_types.Direction.{Direction}
use Rattle.shape_common.specs.declared.text_types.Feature.{Feature}
use Rattle.shape_common.specs.declared.text_types.Script.{Script}
use Rattle.shape_items.specs.Buffer.{Buffer}
use Rattle.shape_pipeline.specs.GlyphsOf.{TextPasses}
use Rattle.shape_pipeline.specs.Headline.{target_of}
use Rattle.shape_pipeline.specs.Shaped.{ShapingPasses}
use Rattle.shape_plan.proofs.PlannedLemmas.{direction-planned, script-planned}
use Rattle.shape_plan.specs.Plan.{Fits, known_script}
use Rattle.shape_plan.specs.Planner.{Planning, planned}
use Rattle.shape_plan.specs.Run.{Run}
use Rattle.shaper_choice.specs.Choice.{OfEach, of_category}
use Rattle.shaper_choice.specs.ScriptPlans.{PlanOfEach, RunOfEach, plan_of_category, run_of_plan, PlanFits}
use Rattle.shaper_choice.specs.declared.choice.Category.{Category}
use Rattle.shaper_choice.specs.declared.choice.Category.TheVariants as is
use Rattle.shaper_choice.specs.declared.plans.ScriptPlan.{ScriptPlan}
use Rattle.c_runs.specs.Plans.{IsMadeBy, AreMadeBy}

-- each of these plans fits a text
pub record EachFits {P : Type 0} (unicode : UnicodeMeaning) (plans : PlanOfEach P) (text : Buffer) : Type 0 where
  pub default : Fits unicode plans.default text
  pub arabic : Fits unicode plans.arabic text
  pub hangul : Fits unicode plans.hangul text
  pub hebrew : Fits unicode plans.hebrew text
  pub thai : Fits unicode plans.thai text
  pub universal : Fits unicode plans.universal text
  pub khmer : Fits unicode plans.khmer text
  pub myanmar : Fits unicode plans.myanmar text
  pub zawgyi : Fits unicode plans.zawgyi text
  pub indic : Fits unicode plans.indic text

-- what each of them runs
abbrev pub runs_of : {P : Type 0} → PlanOfEach P → RunOfEach P → OfEach Run
runs_of plans runs = record {
  default = runs.default plans.default;
  arabic = runs.arabic plans.arabic;
  hangul = runs.hangul plans.hangul;
  hebrew = runs.hebrew plans.hebrew;
  thai = runs.thai plans.thai;
  universal = runs.universal plans.universal;
  khmer = runs.khmer plans.khmer;
  myanmar = runs.myanmar plans.myanmar;
  zawgyi = runs.zawgyi plans.zawgyi;
  indic = runs.indic plans.indic;
}

module _ {P : Type 0} (plans : PlanOfEach P) where
  plan-fits : (category : Category) (unicode : UnicodeMeaning) (text : Buffer)
      → EachFits unicode plans text → PlanFits unicode (plan_of_category category plans) text
  plan-fits is.Default unicode text fits = fits.default
  plan-fits is.Arabic unicode text fits = fits.arabic
  plan-fits is.Hangul unicode text fits = fits.hangul
  plan-fits is.Hebrew unicode text fits = fits.hebrew
  plan-fits is.Thai unicode text fits = fits.thai
  plan-fits is.Universal unicode text fits = fits.universal
  plan-fits is.Khmer unicode text fits = fits.khmer
  plan-fits is.Myanmar unicode text fits = fits.myanmar
  plan-fits is.Zawgyi unicode text fits = fits.zawgyi
  plan-fits is.Indic unicode text fits = fits.indic

  plan-runs : (category : Category) (runs : RunOfEach P)
      → run_of_plan (plan_of_category category plans) runs ≡ of_category category (runs_of plans runs)
  plan-runs is.Default runs = refl
  plan-runs is.Arabic runs = refl
  plan-runs is.Hangul runs = refl
  plan-runs is.Hebrew runs = refl
  plan-runs is.Thai runs = refl
  plan-runs is.Universal runs = refl
  plan-runs is.Khmer runs = refl
  plan-runs is.Myanmar runs = refl
  plan-runs is.Zawgyi runs = refl
  plan-runs is.Indic runs = refl

  pub same-fits : (category : Category) (unicode : UnicodeMeaning) (text : Buffer) (plan : ScriptPlan P)
      → plan ≡ plan_of_category category plans → EachFits unicode plans text → PlanFits unicode plan text
  same-fits category unicode text plan is fits =
      subst (λ (p : ScriptPlan P). PlanFits unicode p text) (sym is) (plan-fits category unicode text fits)

  pub same-runs : (category : Category) (runs : RunOfEach P) (plan : ScriptPlan P)
      → plan ≡ plan_of_category category plans → run_of_plan plan runs ≡ of_category category (runs_of plans runs)
  same-runs category runs plan is = ap (λ (p : ScriptPlan P). run_of_plan p runs) is ∙ plan-runs category runs

pub fits-planned : {F S P D : Type 0} (planning : Planning F S P D) (face : F) (shaper : S) (unicode : UnicodeMeaning) (text : Buffer)
    (language : Option (List ℕ)) (features : List Feature)
    → Fits unicode (planned planning face shaper (guessed_direction unicode text) (guessed_script unicode text) language features) text
fits-planned planning face shaper unicode text language features = record {
  direction = sym (direction-planned planning face shaper _ _ language features);
  script = ap known_script (sym (script-planned planning face shaper _ _ language features));
}

module _ {P : Type 0} (unicode : UnicodeMeaning) (made : Direction → Option Script → Option (List ℕ) → List Feature → P)
    (features : List Feature) (text : Buffer) where
  abbrev pub of_text : P
  of_text = made (guessed_direction unicode text) (guessed_script unicode text) text.language features

  -- what is kept for a text is planned for it
  same-plan : (kept : KeptPlan P) → IsFor unicode kept.key 0 features text
      → of_text ≡ made kept.key.direction kept.key.script (option_map (λ l. string_bytes l.0) kept.key.language) kept.key.features.items
  same-plan kept is =
      ap (λ d. made d (guessed_script unicode text) text.language features) is.direction_is
      ∙ ap (λ s. made kept.key.direction s text.language features) is.script_is
      ∙ ap (λ l. made kept.key.direction kept.key.script l features) (sym is.language_is)
      ∙ ap (made kept.key.direction kept.key.script _) (sym is.features_are)

  module _ (old new : List (KeptPlan P)) (plan : P) (is : plan ≡ of_text) (all : AreMadeBy made old) where
    kept-made : (place : ℕ) → IsKeptLast unicode old new place 0 features text plan → AreMadeBy made new
    kept-made place last =
        let kept : KeptPlan P = record { key = last.key; plan = plan } in
        subst (AreMadeBy made) (sym last.behind)
        (record { each = All-push (IsMadeBy made) old kept all.each (is ∙ same-plan kept last.key_is) })

    pub still-made : (result : Result ℕ ShapeError) → IfOk result (λ place. IsKeptLast unicode old new place 0 features text plan)
        → OnErr result (new ≡ old) → AreMadeBy made new
    still-made (Ok place) last _ = kept-made place last
    still-made (Err e) _ same = subst (AreMadeBy made) (sym same) all

  kept-at : (old new : List (KeptPlan P)) (plan : P) (place : ℕ) → IsKeptLast unicode old new place 0 features text plan
      → IsKeptAt unicode new place 0 features text
  kept-at old new plan place last =
      let kept : KeptPlan P = record { key = last.key; plan = plan } in
      let long = ap length last.behind in
      let more = length-append old (kept ∷ []) in
      let at = last.place_is in (
        omega arith,
        λ d. subst (λ (k : KeptPlan P). IsFor unicode k.key 0 features text)
            (sym (ap (λ l. get_or l place d) last.behind ∙ ap (λ n. get_or (old ++ kept ∷ []) n d) at ∙ get_or-append_seam old kept [] d))
            last.key_is,
      )

  pub still-kept : (old new : List (KeptPlan P)) (plan : P) (result : Result ℕ ShapeError)
      → IfOk result (λ place. IsKeptLast unicode old new place 0 features text plan)
      → IfOk result (λ place. IsKeptAt unicode new place 0 features text)
  still-kept old new plan (Ok place) last = kept-at old new plan place last
  still-kept old new plan (Err e) last = tt

  -- the plan at its place
  pub found-plan : (plans : List (KeptPlan P)) (place : ℕ) (kept : KeptPlan P) → AreMadeBy made plans
      → IsKeptAt unicode plans place 0 features text → kept ≡ get_or plans place kept
      → kept.plan ≡ made (guessed_direction unicode text) (guessed_script unicode text) text.language features
  found-plan plans place kept all at is =
      let key : IsFor unicode kept.key 0 features text = subst (λ (k : KeptPlan P). IsFor unicode k.key 0 features text) (sym is) (at.1 kept) in
      let it : IsMadeBy made kept = subst (IsMadeBy made) (sym is) (all.each place kept at.0) in
      it ∙ sym (same-plan kept key)

-- a text that passes the limit in a run does so in an equal one, by the Unicode functions of the run
pub passes-by : {run other : Run} {functions : UnicodeMeaning} (text : Buffer) → run.unicode ≡ functions → run ≡ other
    → TextPasses run text → ShapingPasses other (target_of other text) (guessed functions text)
passes-by {run} {other} {functions} text unicode same passes =
    subst (λ (r : Run). ShapingPasses r (target_of r text) (guessed functions text)) same
    (subst (λ (u : UnicodeMeaning). ShapingPasses run (target_of run text) (guessed u text)) unicode passes)
