-- Preparing prepares: each item is then a mark exactly if its character is one, and has the ccc of its character.
use Rattle.std.specs.Prelude.{◌≡◌, true, Some}
use Rattle.shape_items.specs.Buffer.{Buffer}
use Rattle.shape_buffer.specs.Outcome.{run_steps}
use Rattle.shape_items.specs.Prepared.{IsPrepared}
use Rattle.shape_common.specs.Unicode.{UnicodeMeaning, LawfulUnicode}
use Rattle.shape_common.specs.declared.text_types.Direction.{Direction}
use Rattle.shape_plan.specs.Run.{Run}
use Rattle.shape_plan.specs.Shaper.{HookMeaning}
use Rattle.shape_prepare.specs.PrepareSteps.{prepare_steps}

-- a step that leaves a prepared text prepared
abbrev pub PreservesPrepared : UnicodeMeaning → (Buffer → Buffer) → Type 0
PreservesPrepared unicode f = (b : Buffer) → IsPrepared unicode b.items → IsPrepared unicode (f b).items

-- any text is prepared, if the shaper's hook leaves it so
abbrev pub PreparingPrepares : Type 0
PreparingPrepares = (run : Run) (target : Direction) (b : Buffer) → LawfulUnicode run.unicode
    → ((hooks : HookMeaning) → run.hooks ≡ Some hooks → run.constants.has_preprocess_text ≡ true
    → PreservesPrepared run.unicode hooks.preprocess)
    → IsPrepared run.unicode (run_steps (prepare_steps run target) b).items
