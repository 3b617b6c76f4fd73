-- The numbers that stand for values where C sees them.
use Rattle.std.specs.Prelude.{ℕ, Bool, ◌==◌, ◌||◌, Option, Some, None, if◌then◌else◌}
use Rattle.shape_buffer.specs.declared.buffer.error.ShapeError.{ShapeError}
use Rattle.shape_buffer.specs.declared.buffer.error.ShapeError.TheVariants as error
use Rattle.shape_common.specs.declared.text_types.BufferClusterLevel.{BufferClusterLevel}
use Rattle.shape_common.specs.declared.text_types.BufferClusterLevel.TheVariants.{MonotoneGraphemes, MonotoneCharacters, Characters}
use Rattle.shape_common.specs.declared.text_types.Direction.{Direction}
use Rattle.shape_common.specs.declared.text_types.Direction.TheVariants.{Invalid, LeftToRight, RightToLeft, TopToBottom, BottomToTop}
use Rattle.shape_common.specs.declared.text_types.Feature.{Feature}
use Rattle.shape_common.specs.declared.text_types.Script.{Script}
use Rattle.c_runs.specs.declared.plain.luthgarn_feature.{luthgarn_feature}
use Rattle.c_runs.specs.declared.refusal.Refusal.{Refusal}
use Rattle.c_runs.specs.declared.refusal.Refusal.TheVariants as why

-- a direction, as HarfBuzz numbers them; 0 for none
abbrev pub direction_number : Direction → ℕ
direction_number Invalid = 0
direction_number LeftToRight = 4
direction_number RightToLeft = 5
direction_number TopToBottom = 6
direction_number BottomToTop = 7

-- the direction of a number; none for 0
abbrev pub direction_of : ℕ → Direction
direction_of n =
    if n == 4 then LeftToRight
    else (if n == 5 then RightToLeft
    else (if n == 6 then TopToBottom
    else (if n == 7 then BottomToTop
    else Invalid)))

abbrev pub is_direction : ℕ → Bool
is_direction n = n == 0 || n == 4 || n == 5 || n == 6 || n == 7

-- a script is its tag; 0 for none
abbrev pub script_number : Option Script → ℕ
script_number None = 0
script_number (Some script) = script.0.0

abbrev pub script_of : ℕ → Option Script
script_of n = if n == 0 then None else Some (record { 0 = record { 0 = n } })

-- how far clusters are merged
abbrev pub level_of : ℕ → BufferClusterLevel
level_of n = if n == 1 then MonotoneCharacters else (if n == 2 then Characters else MonotoneGraphemes)

abbrev pub is_level : ℕ → Bool
is_level n = n == 0 || n == 1 || n == 2

-- a reason, as the header numbers them
abbrev pub code_of : Refusal → ℕ
code_of why.Memory = 1
code_of why.Length = 2
code_of why.Font = 3
code_of why.Text = 4
code_of why.Run = 5
code_of why.Room = 6

-- the feature that C writes
abbrev pub feature_of_c : luthgarn_feature → Feature
feature_of_c f = record { tag = record { 0 = f.tag }; value = f.value; start = f.start; end = f.end }

-- why a run of the library was refused
abbrev pub reason_of : ShapeError → Refusal
reason_of error.Memory = why.Memory
reason_of error.Length = why.Length
