-- What plans are kept for.
use Rattle.std.specs.Prelude.{◌≡◌, ◌<◌, ◌++◌, ◌∷◌, [], ℕ, List, length, slice_index_or, string_bytes}
use Rattle.std.specs.Option.{option_map}
use Rattle.shape_common.specs.Unicode.{UnicodeMeaning}
use Rattle.shape_common.specs.declared.text_types.Feature.{Feature}
use Rattle.shape_items.specs.Buffer.{Buffer}
use Rattle.shape_buffer.specs.Guess.{guessed_direction, guessed_script}
use Rattle.plan_cache.specs.declared.keys.PlanKey.{PlanKey}
use Rattle.plan_cache.specs.declared.keys.KeptPlan.{KeptPlan}

-- a plan that was made for the key serves a text over a face with features: direction and script, as guessing would set
-- them, language, features and face are those of the key
pub record IsFor (unicode : UnicodeMeaning) (key : PlanKey) (face : ℕ) (features : List Feature) (text : Buffer) : Type 0 where
  pub face_is : key.face ≡ face
  pub direction_is : guessed_direction unicode text ≡ key.direction
  pub script_is : guessed_script unicode text ≡ key.script
  pub language_is : option_map (λ l. string_bytes l.0) key.language ≡ text.language
  pub features_are : key.features.items ≡ features

-- the plan at a place does
abbrev pub IsKeptAt : {P : Type 0} → UnicodeMeaning → List (KeptPlan P) → ℕ → ℕ → List Feature → Buffer → Type 0
IsKeptAt {P} unicode plans place face features text =
    (place < length plans) × ((d : KeptPlan P) → IsFor unicode (slice_index_or plans place d).key face features text)

-- none of the first plans does
abbrev pub NoneKept : {P : Type 0} → UnicodeMeaning → List (KeptPlan P) → ℕ → ℕ → List Feature → Buffer → Type 0
NoneKept {P} unicode plans count face features text =
    (k : ℕ) (d : KeptPlan P) → k < count → IsFor unicode (slice_index_or plans k d).key face features text → ⊥

-- one plan more: after the old ones stands this plan, under a key for the text
pub record IsKeptLast {P : Type 0} (unicode : UnicodeMeaning) (old new : List (KeptPlan P)) (place face : ℕ) (features : List Feature)
    (text : Buffer) (plan : P) : Type 0 where
  pub key : PlanKey
  pub place_is : place ≡ length old
  pub behind : new ≡ old ++ record { key = key; plan = plan } ∷ []
  pub key_is : IsFor unicode key face features text
