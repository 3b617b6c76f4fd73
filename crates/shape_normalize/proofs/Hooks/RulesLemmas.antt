-- What the rules of normalising must provide, from what Unicode and the shaper must provide.
use Rattle.std.proofs.Common.{◌≡◌, Bool, true, false, Option, Some, None, IfSome, subst}
use Rattle.std.specs.Option.{option_map}
use Rattle.canonical_form.specs.Chain.{FallsAlong}
use Rattle.shape_common.specs.Unicode.{UnicodeMeaning, LawfulUnicode}
use Rattle.shape_plan.specs.Plan.{Plan, hooks_of}
use Rattle.shape_plan.specs.Reorder.{ReordersRanges}
use Rattle.shape_plan.specs.Rules.{used_split, used_height, used_reorder}
use Rattle.shape_plan.specs.Shaper.{HookMeaning, HookObligations}
use Rattle.shape_normalize.proofs.Hooks.ReorderLemmas.{LawfulReorder}

-- a height falls along the split in use if one falls along Unicode's and along the hook's
FallsAlong-used : {unicode : UnicodeMeaning} → LawfulUnicode unicode → (given : Bool) (hooks : Option HookMeaning) → IfSome hooks HookObligations
    → FallsAlong (used_split unicode given hooks) (used_height unicode given hooks)
FallsAlong-used lawful given None obligations = lawful.splits_fall.height_falls
FallsAlong-used lawful true (Some hooks) obligations = obligations.height_falls
FallsAlong-used lawful false (Some hooks) obligations = lawful.splits_fall.height_falls

-- the same of the split that a plan uses
pub FallsAlong-planned : {S P D F : Type 0} {unicode : UnicodeMeaning} → LawfulUnicode unicode
    → (given : Bool) (hooks : S → Plan S P D → F → HookMeaning)
    → ((shaper : S) (plan : Plan S P D) (face : F) → HookObligations (hooks shaper plan face)) →
    (plan : Plan S P D) (face : F)
    → FallsAlong (used_split unicode given (hooks_of hooks plan face)) (used_height unicode given (hooks_of hooks plan face))
FallsAlong-planned lawful given hooks obligations plan face =
    FallsAlong-used lawful given (hooks_of hooks plan face)
    (elim plan.shaper as (λ v. IfSome (option_map
    (λ shaper. hooks shaper plan face) v) HookObligations) [ None ↦ tt | Some shaper ↦ obligations shaper plan face ])

-- the reordering in use puts ranges in another order if that of each shaper does
used-reorder : (given : Bool) (hooks : Option HookMeaning) → IfSome hooks HookObligations → LawfulReorder (used_reorder given hooks)
used-reorder true (Some hooks) obligations f is = let same : hooks.reorder ≡ f = cc in subst ReordersRanges same obligations.reorders
used-reorder true None obligations f is = cc
used-reorder false hooks obligations f is = cc

pub used_reorder-lawful : {S P D F : Type 0} (hooks : S → Plan S P D → F → HookMeaning)
    → ((shaper : S) (plan : Plan S P D) (face : F) → HookObligations (hooks shaper plan face)) →
    (given : Bool) (plan : Plan S P D) (face : F) → LawfulReorder (used_reorder given (hooks_of hooks plan face))
used_reorder-lawful hooks obligations given plan face =
    used-reorder given (hooks_of hooks plan face)
    (elim plan.shaper as (λ v. IfSome (option_map
    (λ shaper. hooks shaper plan face) v) HookObligations) [ None ↦ tt | Some shaper ↦ obligations shaper plan face ])
