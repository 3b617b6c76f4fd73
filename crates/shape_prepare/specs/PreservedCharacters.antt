-- When preparing leaves the characters of a text as they are.
use Rattle.std.specs.Prelude.{◌≡◌, ℕ, ◌&&◌, true, false, map, All, Some}
use Rattle.canonical_form.specs.Expanded.{begins_with_mark}
use Rattle.shape_items.specs.Buffer.{Buffer}
use Rattle.shape_common.specs.Face.{FaceMeaning}
use Rattle.shape_items.specs.Items.{char_of, new_item}
use Rattle.shape_buffer.specs.Outcome.{run_steps}
use Rattle.shape_common.specs.Unicode.{UnicodeMeaning, is_mark}
use Rattle.shape_common.specs.declared.text_types.Direction.{Direction}
use Rattle.shape_plan.specs.Run.{Run}
use Rattle.shape_plan.specs.Shaper.{HookMeaning}
use Rattle.shape_plan.specs.declared.decisions.Decisions.{Decisions}
use Rattle.shape_prepare.specs.ClusterPoint.{is_reversed}
use Rattle.shape_prepare.specs.DottedCircle.{takes_circle}
use Rattle.shape_prepare.specs.PrepareSteps.{prepare_steps}
use Rattle.shape_prepare.specs.Rotated.{rotated_item}

-- a step that leaves the characters of every buffer
abbrev pub PreservesCharacters : (Buffer → Buffer) → Type 0
PreservesCharacters f = (b : Buffer) → map char_of (f b).items ≡ map char_of b.items

-- the form of a character for a direction
abbrev pub rotated_char : UnicodeMeaning → FaceMeaning → Decisions → Direction → ℕ → ℕ
rotated_char unicode face decisions target c = char_of (rotated_item unicode face decisions target (new_item c 0))

-- no dotted circle goes in, the list isn't reversed, each character is its own form for the direction, and a given hook
-- leaves characters
pub record LeavesCharacters (run : Run) (target : Direction) (b : Buffer) : Type 0 where
  pub no_circle : (takes_circle run.face b && begins_with_mark (is_mark run.unicode) (map char_of b.items)) ≡ false
  pub not_reversed : is_reversed run b ≡ false
  pub own_forms : All (λ c. rotated_char run.unicode run.face run.decisions target c ≡ c) (map char_of b.items)
  pub preprocess : (hooks : HookMeaning) → run.hooks ≡ Some hooks → run.constants.has_preprocess_text ≡ true
      → PreservesCharacters hooks.preprocess

-- then the prepared text has the characters of the text
abbrev pub PreparingPreservesCharacters : Type 0
PreparingPreservesCharacters = (run : Run) (target : Direction) (b : Buffer) → LeavesCharacters run target b
    → map char_of (run_steps (prepare_steps run target) b).items ≡ map char_of b.items
