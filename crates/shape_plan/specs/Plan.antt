-- What a plan is to its callers.
use Rattle.std.specs.Prelude.{◌≡◌, List, Option, Some, None, unwrap_or}
use Rattle.std.specs.Option.{option_map}
use Rattle.shape_items.specs.Buffer.{Buffer}
use Rattle.shape_buffer.specs.Guess.{guessed_direction, guessed_script}
use Rattle.shape_common.specs.Unicode.{UnicodeMeaning}
use Rattle.shape_common.specs.declared.text_types.Direction.{Direction}
use Rattle.shape_common.specs.declared.text_types.Feature.{Feature}
use Rattle.shape_common.specs.declared.text_types.Script.{Script}
use Rattle.shape_plan.specs.declared.decisions.Decisions.{Decisions}
use Rattle.shape_plan.specs.declared.ot_shape_plan.ChosenShaper.{ChosenShaper}
use Rattle.shape_plan.specs.declared.ot_shape_plan.ChosenShaper.TheVariants.{Given, Dumber}

-- S is the type of shapers, P that of compiled lookups, D that of a shaper's data
pub record Plan (S P D : Type 0) : Type 0 where
  pub direction : Direction
  pub script : Option Script
  pub shaper : Option S
  pub ot_map : P
  pub decisions : Decisions
  pub user_features : List Feature
  pub shaper_data : Option D

-- the shaper that was given, if it is used
abbrev pub given_shaper : {S : Type 0} → ChosenShaper S → Option S
given_shaper (Given shaper) = Some shaper.now
given_shaper Dumber = None

-- what the hooks of the plan's shaper do over a face, if the shaper is used
abbrev pub hooks_of : {S P D F H : Type 0} → (S → Plan S P D → F → H) → Plan S P D → F → Option H
hooks_of hooks plan face = option_map (λ shaper. hooks shaper plan face) plan.shaper

-- no script counts as Unknown (Zzzz)
abbrev pub known_script : Option Script → Script
known_script script = unwrap_or script (record { 0 = record { 0 = 0x5A7A7A7A } })

-- the plan's direction and script are those of the text, as guessing would set them
pub record Fits {S P D : Type 0} (unicode : UnicodeMeaning) (plan : Plan S P D) (text : Buffer) : Type 0 where
  pub direction : guessed_direction unicode text ≡ plan.direction
  pub script : known_script (guessed_script unicode text) ≡ known_script plan.script
