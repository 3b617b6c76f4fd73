-- What is promised of a whole run, end to end.
use Rattle.std.specs.Prelude.{◌≡◌, ◌==◌, false}
use Rattle.std.specs.Int.RustNames.{bit_and}
use Rattle.shape_items.specs.Buffer.{Buffer}
use Rattle.shape_items.specs.Flags.{HasOneSetOfFlags}
use Rattle.shape_buffer.specs.Guess.{guessed, guessed_direction}
use Rattle.shape_items.specs.PreservesFlags.{some_has}
use Rattle.shape_buffer.specs.Outcome.{run_steps}
use Rattle.shape_common.specs.declared.text_types.Direction.{Direction}
use Rattle.shape_normalize.specs.Normalized.{normalized}
pub use Rattle.shape_normalize.specs.NormalForm.{NormalForm}
use Rattle.shape_plan.specs.Preservation.{RunPreservesFlags}
use Rattle.shape_plan.specs.Run.{Run}
use Rattle.shape_pipeline.specs.Shaped.{HasItems, text_made, shaped_steps, finished}
use Rattle.shape_common.specs.FlagNames.{UNSAFE_TO_CONCAT, PRODUCE_UNSAFE_TO_CONCAT}

-- the direction that a text is shaped for
abbrev pub target_of : Run → Buffer → Direction
target_of run text = guessed_direction run.unicode text

-- the text as normalising begins, with script and direction guessed; an empty one stays as it is
abbrev pub prepared_text : Run → Buffer → Buffer
prepared_text run text = text_made run (target_of run text) (guessed run.unicode text)

-- and normalised
abbrev pub normalised_list : Run → Buffer → Buffer
normalised_list run text = normalized run.rules (prepared_text run text)

-- the glyphs of a text with items are what masks, lookups, metrics and hooks make of its normalised list
abbrev pub IsMadeOfNormalisedList : Run → Buffer → Buffer → Type 0
IsMadeOfNormalisedList run text glyphs =
    HasItems text → glyphs ≡ finished (target_of run text) (run_steps (shaped_steps run) (normalised_list run text))

-- ---- flags

-- each cluster has one set of flags, and no glyph UNSAFE_TO_CONCAT (2) unless the caller asks for it (64)
pub record HasFlagsByCluster (text glyphs : Buffer) : Type 0 where
  pub one_set : HasOneSetOfFlags glyphs.items
  pub concat : (bit_and text.flags.0 PRODUCE_UNSAFE_TO_CONCAT == PRODUCE_UNSAFE_TO_CONCAT) ≡ false
      → some_has UNSAFE_TO_CONCAT glyphs.items ≡ false

-- so it is if lookups and hooks preserve flags
abbrev pub FlagsAreByCluster : Run → Buffer → Buffer → Type 0
FlagsAreByCluster run text glyphs = RunPreservesFlags run → HasFlagsByCluster text glyphs
