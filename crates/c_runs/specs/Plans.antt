-- The plans that a call keeps for its runs.
use Rattle.std.specs.Prelude.{◌≡◌, ℕ, List, All, Option, string_bytes}
use Rattle.std.specs.Option.{option_map}
use Rattle.plan_cache.specs.declared.keys.KeptPlan.{KeptPlan}
use Rattle.shape_common.specs.declared.text_types.Direction.{Direction}
use Rattle.shape_common.specs.declared.text_types.Feature.{Feature}
use Rattle.shape_common.specs.declared.text_types.Script.{Script}
use Rattle.shape_items.specs.Buffer.{Buffer, new_buffer}

-- a plan is the one that planning makes of what it is kept under
abbrev pub IsMadeBy : {P : Type 0} → (Direction → Option Script → Option (List ℕ) → List Feature → P) → KeptPlan P → Type 0
IsMadeBy planned kept =
    kept.plan ≡ planned kept.key.direction kept.key.script (option_map (λ l. string_bytes l.0) kept.key.language) kept.key.features.items

-- all plans are
pub record AreMadeBy {P : Type 0} (planned : Direction → Option Script → Option (List ℕ) → List Feature → P) (plans : List (KeptPlan P)) : Type 0 where
  pub each : All (IsMadeBy planned) plans

-- a buffer is as a new one
abbrev pub IsNew : Buffer → Type 0
IsNew b = b ≡ new_buffer
