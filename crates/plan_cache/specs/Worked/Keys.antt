-- Keys and texts that were compared by hand: a Hebrew text from right to left, and keys of which one thing differs.
use Rattle.std.specs.Prelude.{◌≡◌, ℕ, List, [], ◌∷◌, Option, Some, None, string_bytes}
use Rattle.std.specs.Option.{option_map}
use Rattle.shape_common.specs.Unicode.{UnicodeMeaning}
use Rattle.shape_common.specs.declared.text_types.Direction.{Direction}
use Rattle.shape_common.specs.declared.text_types.Direction.TheVariants.{Invalid, LeftToRight, RightToLeft}
use Rattle.shape_common.specs.declared.text_types.Feature.{Feature}
use Rattle.shape_common.specs.declared.text_types.Script.{Script}
use Rattle.shape_items.specs.Buffer.{Buffer, new_buffer}
use Rattle.shape_items.specs.Items.{new_item}
use Rattle.plan_cache.specs.Keys.{IsFor, IsKeptAt, NoneKept, IsKeptLast}
use Rattle.plan_cache.specs.declared.keys.PlanKey.{PlanKey}
use Rattle.plan_cache.specs.declared.keys.KeptPlan.{KeptPlan}

abbrev pub script_of : ℕ → Script
script_of tag = record { 0 = record { 0 = tag } }

-- Hebr, from right to left, in the language "he"
abbrev pub text : Buffer
text = record new_buffer { direction = RightToLeft; script = Some (script_of 0x48656272); language = Some (104 ∷ 101 ∷ []) }

-- a key of these parts
pub record HasParts (key : PlanKey) (face : ℕ) (direction : Direction) (script : ℕ) (language : Option (List ℕ)) (features : List Feature) : Type 0 where
  pub face_is : key.face ≡ face
  pub direction_is : key.direction ≡ direction
  pub script_is : key.script ≡ Some (script_of script)
  pub language_is : option_map (λ l. string_bytes l.0) key.language ≡ language
  pub features_are : key.features.items ≡ features

pub record KeysCompared (unicode : UnicodeMeaning) (key : PlanKey) (f : Feature) : Type 0 where
  pub same : HasParts key 3 RightToLeft 0x48656272 (Some (104 ∷ 101 ∷ [])) (f ∷ []) → IsFor unicode key 3 (f ∷ []) text
  pub other_face : key.face ≡ 4 → IsFor unicode key 3 (f ∷ []) text → ⊥
  pub other_direction : key.direction ≡ LeftToRight → IsFor unicode key 3 (f ∷ []) text → ⊥
  pub other_script : key.script ≡ None → IsFor unicode key 3 (f ∷ []) text → ⊥
  pub other_language : option_map (λ l. string_bytes l.0) key.language ≡ None → IsFor unicode key 3 (f ∷ []) text → ⊥
  pub other_features : key.features.items ≡ [] → IsFor unicode key 3 (f ∷ []) text → ⊥

pub record PlansFound (unicode : UnicodeMeaning) (a b : KeptPlan ℕ) : Type 0 where
  pub second : IsFor unicode b.key 3 [] text → IsKeptAt unicode (a ∷ b ∷ []) 1 3 [] text
  pub past_all : IsKeptAt unicode (a ∷ b ∷ []) 2 3 [] text → ⊥
  pub not_the_last : NoneKept unicode (a ∷ b ∷ []) 2 3 [] text → IsFor unicode b.key 3 [] text → ⊥

-- what a caller left open is compared as it is guessed
pub record TextsGuessed (unicode : UnicodeMeaning) (key : PlanKey) : Type 0 where
  pub without_direction : unicode.script_direction (script_of 0x48656272) ≡ Some RightToLeft
      → HasParts key 3 RightToLeft 0x48656272 (Some (104 ∷ 101 ∷ [])) [] → IsFor unicode key 3 [] (record text { direction = Invalid })
  pub by_its_character : unicode.script 0x5D0 ≡ script_of 0x48656272 → HasParts key 3 RightToLeft 0x48656272 (Some (104 ∷ 101 ∷ [])) []
      → IsFor unicode key 3 [] (record text { script = None; items = new_item 0x5D0 0 ∷ [] })
  pub nothing_known : key.direction ≡ RightToLeft → IsFor unicode key 3 [] (record text { direction = Invalid; script = None }) → ⊥

pub record PlansKept (unicode : UnicodeMeaning) (a b : KeptPlan ℕ) : Type 0 where
  pub first : IsFor unicode a.key 3 [] text → IsKeptLast unicode [] (a ∷ []) 0 3 [] text a.plan
  pub second : IsFor unicode b.key 3 [] text → IsKeptLast unicode (a ∷ []) (a ∷ b ∷ []) 1 3 [] text b.plan
  pub at_another_place : IsKeptLast unicode (a ∷ []) (a ∷ b ∷ []) 0 3 [] text b.plan → ⊥
  pub nothing_kept : IsKeptLast unicode (a ∷ []) (a ∷ []) 1 3 [] text b.plan → ⊥
  pub another_plan : IsKeptLast unicode [] (a ∷ []) 0 3 [] text b.plan → a.plan ≡ b.plan

pub record WorkedKeys : Type 0 where
  pub keys : (unicode : UnicodeMeaning) (key : PlanKey) (f : Feature) → KeysCompared unicode key f
  pub plans : (unicode : UnicodeMeaning) (a b : KeptPlan ℕ) → PlansFound unicode a b
  pub guessed : (unicode : UnicodeMeaning) (key : PlanKey) → TextsGuessed unicode key
  pub kept : (unicode : UnicodeMeaning) (a b : KeptPlan ℕ) → PlansKept unicode a b
