-- What a plan has of what it was asked for, and that guessing twice is guessing once.
use Rattle.std.proofs.Common.{◌≡◌, ℕ, List, Option, Some, None, refl}
use Rattle.shape_common.specs.declared.text_types.Direction.{Direction}
use Rattle.shape_common.specs.declared.text_types.Feature.{Feature}
use Rattle.shape_common.specs.declared.text_types.Script.{Script}
use Rattle.shape_items.specs.Buffer.{Buffer}
use Rattle.shape_buffer.specs.Guess.{direction_or, first_script, guessed, guessed_direction, guessed_script, script_or, script_or_ltr}
use Rattle.shape_common.specs.Unicode.{UnicodeMeaning}
use Rattle.shape_common.specs.declared.text_types.Direction.TheVariants.{Invalid, LeftToRight, RightToLeft, TopToBottom, BottomToTop}
use Rattle.shape_plan.proofs.PlannedLemmas.{direction-planned, script-planned}
use Rattle.shape_plan.specs.Planner.{Planning, planned}

pub planned_direction : {F S P D : Type 0} (planning : Planning F S P D) (face : F) (shaper : S) (direction : Direction)
    (script : Option Script) (language : Option (List ℕ)) (features : List Feature)
    → (planned planning face shaper direction script language features).direction ≡ direction
planned_direction = direction-planned

pub planned_script : {F S P D : Type 0} (planning : Planning F S P D) (face : F) (shaper : S) (direction : Direction)
    (script : Option Script) (language : Option (List ℕ)) (features : List Feature)
    → (planned planning face shaper direction script language features).script ≡ script
planned_script = script-planned

script-twice : (script first : Option Script) → script_or (script_or script first) first ≡ script_or script first
script-twice (Some script) first = refl
script-twice None None = refl
script-twice None (Some first) = refl

direction-twice : (direction other : Direction) → direction_or (direction_or direction other) other ≡ direction_or direction other
direction-twice Invalid Invalid = refl
direction-twice Invalid LeftToRight = refl
direction-twice Invalid RightToLeft = refl
direction-twice Invalid TopToBottom = refl
direction-twice Invalid BottomToTop = refl
direction-twice LeftToRight other = refl
direction-twice RightToLeft other = refl
direction-twice TopToBottom other = refl
direction-twice BottomToTop other = refl

pub script_guessed_again : (unicode : UnicodeMeaning) (text : Buffer)
    → guessed_script unicode (guessed unicode text) ≡ guessed_script unicode text
script_guessed_again unicode text = script-twice text.script (first_script unicode text.items)

pub direction_guessed_again : (unicode : UnicodeMeaning) (text : Buffer)
    → guessed_direction unicode (guessed unicode text) ≡ guessed_direction unicode text
direction_guessed_again unicode text =
    let same = script_guessed_again unicode text in
    let twice = direction-twice text.direction (script_or_ltr unicode (guessed_script unicode text)) in cc
