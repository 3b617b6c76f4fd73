-- The plan that a text is shaped by if none is given, and what its shaper made for it.
use Rattle.std.specs.Prelude.{List, Option}
use Rattle.shape_items.specs.Buffer.{Buffer}
use Rattle.shape_buffer.specs.Guess.{guessed_direction, guessed_script}
use Rattle.shape_common.specs.Unicode.{UnicodeMeaning}
use Rattle.shape_common.specs.declared.text_types.Feature.{Feature}
use Rattle.shape_plan.specs.Plan.{Plan}
use Rattle.shape_plan.specs.Planner.{Planning, planned, own_data}

-- the plan for the direction and script of a text as guessing would set them, for its language, and for the user's
-- features
abbrev pub planned_for : {F S P D : Type 0} → UnicodeMeaning → Planning F S P D → F → S → List Feature → Buffer → Plan S P D
planned_for unicode planning face shaper features text =
    planned planning face shaper (guessed_direction unicode text) (guessed_script unicode text) text.language features

-- what the shaper makes of that plan as it is without such data, if it is used and gives the hook
abbrev pub data_for_text : {F S P D : Type 0} → UnicodeMeaning → Planning F S P D → F → S → List Feature → Buffer → Option D
data_for_text unicode planning face shaper features text = own_data planning (planned_for unicode planning face shaper features text)
