-- What a whole run depends on, as functions and values: one record of all that its four type parameters, its plan and
-- its face bring.
use Rattle.std.specs.Prelude.{Bool, List, Option, if◌then◌else◌}
use Rattle.std.specs.Option.{option_map_or}
use Rattle.shape_items.specs.Buffer.{Buffer}
use Rattle.shape_common.specs.Face.{FaceMeaning}
use Rattle.shape_buffer.specs.Layout.{MapMeaning, LookupMeaning}
use Rattle.shape_common.specs.Unicode.{UnicodeMeaning}
use Rattle.shape_common.specs.declared.text_types.Direction.{Direction}
use Rattle.shape_common.specs.declared.text_types.Feature.{Feature}
use Rattle.shape_common.specs.declared.text_types.Script.{Script}
use Rattle.shape_plan.specs.Plan.{Plan, hooks_of}
use Rattle.shape_plan.specs.Rules.{Rules, rules_of}
use Rattle.shape_plan.specs.Shaper.{ShaperConstants, HookMeaning}
use Rattle.shape_plan.specs.declared.decisions.Decisions.{Decisions}

pub record Run : Type 0 where
  pub unicode : UnicodeMeaning
  pub face : FaceMeaning
  pub map : MapMeaning
  pub lookups : LookupMeaning
  pub constants : ShaperConstants
  -- if the plan uses the shaper
  pub hooks : Option HookMeaning
  pub direction : Direction
  pub script : Option Script
  pub decisions : Decisions
  pub user_features : List Feature
  -- what normalising depends on
  pub rules : Rules

abbrev pub run_of : {S P D F : Type 0} → UnicodeMeaning → (P → MapMeaning) → (P → F → LookupMeaning) → ShaperConstants
    → (S → Plan S P D → F → HookMeaning) → (F → FaceMeaning) → Plan S P D → F → Run
run_of unicode masks lookups constants hooks faces plan face = record {
  unicode = unicode;
  face = faces face;
  map = masks plan.ot_map;
  lookups = lookups plan.ot_map face;
  constants = constants;
  hooks = hooks_of hooks plan face;
  direction = plan.direction;
  script = plan.script;
  decisions = plan.decisions;
  user_features = plan.user_features;
  rules = rules_of unicode constants hooks faces plan face;
}

-- a step if the test holds, else none
abbrev pub step_if : Bool → (Buffer → Buffer) → Buffer → Buffer
step_if test f = if test then f else (λ b. b)

-- a hook if it is given and the plan uses the shaper, else none
abbrev pub hook_if : Bool → Option HookMeaning → (HookMeaning → Buffer → Buffer) → Buffer → Buffer
hook_if given hooks pick = option_map_or (λ h. step_if given (pick h)) hooks (λ b. b)
