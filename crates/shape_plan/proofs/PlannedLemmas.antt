-- What a plan has of what it was asked for.
use Rattle.std.proofs.Common.{◌≡◌, ℕ, List, Option, Bool, true, false, refl, sym, subst}
use Rattle.std.specs.Prelude.{IfSome}
use Rattle.shape_common.specs.declared.text_types.Direction.{Direction}
use Rattle.shape_common.specs.declared.text_types.Feature.{Feature}
use Rattle.shape_common.specs.declared.text_types.Script.{Script}
use Rattle.shape_plan.specs.Plan.{Plan}
use Rattle.shape_plan.specs.Planner.{Planning, Planner, begun_planner, collected_planner, compiled_plan, planned, own_data, used_shaper}

pub direction-planned : {F S P D : Type 0} (planning : Planning F S P D) (face : F) (shaper : S) (direction : Direction)
    (script : Option Script) (language : Option (List ℕ)) (features : List Feature)
    → (planned planning face shaper direction script language features).direction ≡ direction
unfolding begun_planner collected_planner compiled_plan planned
direction-planned planning face shaper direction script language features = refl

pub script-planned : {F S P D : Type 0} (planning : Planning F S P D) (face : F) (shaper : S) (direction : Direction)
    (script : Option Script) (language : Option (List ℕ)) (features : List Feature)
    → (planned planning face shaper direction script language features).script ≡ script
unfolding begun_planner collected_planner compiled_plan planned
script-planned planning face shaper direction script language features = refl

-- what its shaper made for it is made of the plan as it is without any
pub data-planned : {F S P D : Type 0} (planning : Planning F S P D) (face : F) (shaper : S) (direction : Direction)
    (script : Option Script) (language : Option (List ℕ)) (features : List Feature)
    → let plan = planned planning face shaper direction script language features in plan.shaper_data ≡ own_data planning plan
unfolding begun_planner collected_planner compiled_plan planned
data-planned planning face shaper direction script language features = refl

data-compiled : {F S P D : Type 0} (planning : Planning F S P D) (features : List Feature) (planner : Planner F S)
    → let plan = compiled_plan planning features planner in plan.shaper_data ≡ own_data planning plan
unfolding compiled_plan
data-compiled planning features planner = refl

pub data-made : {F S P D : Type 0} (planning : Planning F S P D) (features : List Feature) (planner : Planner F S) (plan : Plan S P D)
    → plan ≡ compiled_plan planning features planner → plan.shaper_data ≡ own_data planning plan
data-made planning features planner plan is =
    subst (λ plan. plan.shaper_data ≡ own_data planning plan) (sym is) (data-compiled planning features planner)

shaper-used : {S : Type 0} (morx is_default : Bool) (shaper : S)
    → IfSome (used_shaper morx is_default shaper) (λ used. used ≡ shaper)
shaper-used true true shaper = refl
shaper-used true false shaper = tt
shaper-used false is_default shaper = refl

-- a plan uses the shaper that was given, or none
pub shaper-made : {F S P D : Type 0} (planning : Planning F S P D) (features : List Feature) (begun collected : Planner F S)
    (face : F) (shaper : S) (direction : Direction) (script : Option Script) (language : Option (List ℕ)) (plan : Plan S P D)
    → begun ≡ begun_planner planning face shaper direction script language
    → collected ≡ collected_planner planning features begun
    → plan ≡ compiled_plan planning features collected
    → IfSome plan.shaper (λ used. used ≡ shaper)
unfolding begun_planner collected_planner compiled_plan
shaper-made {F} {S} {P} {D} planning features begun collected face shaper direction script language plan first then made =
    let is_given : Option S → Type 0 = λ s. IfSome s (λ used. used ≡ shaper) in
    subst (λ (p : Plan S P D). is_given p.shaper) (sym made)
    (subst (λ (p : Planner F S). is_given p.shaper) (sym then)
    (subst (λ (p : Planner F S). is_given p.shaper) (sym first) (shaper-used _ _ shaper)))
