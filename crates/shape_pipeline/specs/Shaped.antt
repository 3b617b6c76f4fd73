-- A run: the list of its steps, and what it makes of a text.
use Rattle.std.specs.Prelude.{◌≡◌, ◌≢◌, ◌<◌, ◌≤◌, ◌⊎◌, List, [], ◌∷◌, ◌++◌, Some, None, length}
use Rattle.shape_items.specs.Buffer.{Buffer, limit_of, most_countable, run_limit, run_ops}
use Rattle.shape_buffer.specs.Guess.{guessed, guessed_direction}
use Rattle.shape_buffer.specs.Outcome.{Step, run_steps, EachWithin, SomePast}
use Rattle.shape_common.specs.declared.text_types.Direction.{Direction}
use Rattle.shape_normalize.specs.Normalized.{normalized}
use Rattle.shape_normalize.specs.RoundOne.{round_one}
use Rattle.shape_plan.specs.Rules.{Rules}
use Rattle.shape_plan.specs.Run.{Run}
use Rattle.shape_glyphs.specs.Steps.{substitute_pre_steps, position_steps, finish_steps}
use Rattle.shape_prepare.specs.PrepareSteps.{prepare_steps}
use Rattle.shape_prepare.specs.MaskSteps.{mask_steps}

-- normalising: its longest list is the expanded one
abbrev pub normalising : Rules → Step
normalising rules = record { makes = normalized rules; counts = λ b. length (round_one rules b).items }

-- from characters to glyphs
abbrev pub glyph_phase : Run → List Step
glyph_phase run = mask_steps run ++ substitute_pre_steps run

-- what is made of a normalised list
abbrev pub shaped_steps : Run → List Step
shaped_steps run = glyph_phase run ++ (position_steps run ++ finish_steps run)

-- a whole run, in its order
abbrev pub all_steps : Run → Direction → List Step
all_steps run target = prepare_steps run target ++ (normalising run.rules ∷ shaped_steps run)

-- the text as a run begins: no scratch flag, no ligature id given, and limits by its length, of items and of work
abbrev pub entered : Buffer → Buffer
entered b = record b {
  scratch_flags = record { 0 = 0 };
  length_limit = Some (run_limit (length b.items));
  max_ops = run_ops (length b.items);
  serial = 0;
}

-- the glyphs as they are handed out: in the direction of the text, and without limits
abbrev pub finished : Direction → Buffer → Buffer
finished target b = record b { direction = target; length_limit = None; max_ops = most_countable }

-- the text as normalising begins
abbrev pub prepared : Run → Direction → Buffer → Buffer
prepared run target b = run_steps (prepare_steps run target) b

-- the text of a buffer prepared: no step is done for an empty one
abbrev pub text_made : Run → Direction → Buffer → Buffer
text_made run target b = elim b.items [
  | [] ↦ b
  | _ ∷ _ ↦ prepared run target (entered b)
]

-- the glyphs of a text: no step is done for an empty one
abbrev pub run_made : Run → Direction → Buffer → Buffer
run_made run target b = elim b.items [
  | [] ↦ b
  | _ ∷ _ ↦ finished target (run_steps (all_steps run target) (entered b))
]

-- and with script and direction guessed first
abbrev pub shaped : Run → Buffer → Buffer
shaped run b = run_made run (guessed_direction run.unicode b) (guessed run.unicode b)

-- a list has items
abbrev pub HasItems : Buffer → Type 0
HasItems b = b.items ≢ []

-- a text was prepared: exactly this was made of it, within the run's limit, which is the buffer's now, and no step made
-- a list past it
pub record Prepares (run : Run) (target : Direction) (old new : Buffer) : Type 0 where
  pub made : new ≡ text_made run target old
  pub within : length new.items ≤ run_limit (length old.items)
  pub limit : HasItems old → limit_of new ≡ run_limit (length old.items)
  pub counted : HasItems old → EachWithin (prepare_steps run target) (entered old)

-- a text was shaped: exactly this was made of it, within the run's limit, and no step made a list past it
pub record Shapes (run : Run) (target : Direction) (old new : Buffer) : Type 0 where
  pub made : new ≡ run_made run target old
  pub within : length new.items ≤ run_limit (length old.items)
  pub counted : HasItems old → EachWithin (all_steps run target) (entered old)

-- some step would make a list past the run's limit
pub record PreparingPasses (run : Run) (target : Direction) (b : Buffer) : Type 0 where
  pub past : SomePast (prepare_steps run target) (entered b)

pub record ShapingPasses (run : Run) (target : Direction) (b : Buffer) : Type 0 where
  pub past : SomePast (all_steps run target) (entered b)

-- preparing a text would make such a list, or the expanded list of the prepared text would pass the limit
abbrev pub NormalisingPasses : Run → Direction → Buffer → Type 0
NormalisingPasses run target b =
    let text = text_made run target b in
    (HasItems b × PreparingPasses run target b) ⊎ (limit_of text < length (round_one run.rules text).items)
