-- Keys of words.
use Rattle.std.specs.Prelude.{◌≡◌, ◌↔◌, ℕ, List, ◌∷◌, length, replicate}
use Rattle.std.specs.Str.{chars}
use Rattle.shape_items.specs.Buffer.{Buffer, new_buffer}
use Rattle.shape_buffer.specs.Text.{text_items}
use Rattle.shape_common.specs.Positions.{zero_position}
use Rattle.shape_normalize.specs.CanonicalForm.{AreEquivalent}
use Rattle.shape_pipeline.specs.Canonical.{prepared_characters, normalised_characters, HasCanonicalText, RunPreservesEquivalence}
use Rattle.shape_plan.specs.Run.{Run}

-- the number of the plan, and then the characters that a run by it normalises the text to
abbrev pub key_of : Run → ℕ → Buffer → List ℕ
key_of run number text = number ∷ normalised_characters run text

-- another text has the same key exactly if it is canonically equivalent
abbrev pub KeysDecide : Run → ℕ → Buffer → Type 0
KeysDecide run number text = RunPreservesEquivalence run → (other : Buffer) → HasCanonicalText run text → HasCanonicalText run other
    → (key_of run number text ≡ key_of run number other) ↔ AreEquivalent run.rules (prepared_characters run text) (prepared_characters run other)

-- the number of the plan, and then the characters of the spelling as they are
abbrev pub spelling_key : ℕ → List ℕ → List ℕ
spelling_key number spelling = number ∷ chars spelling

-- the text of a spelling, nothing else set
abbrev pub spelled : List ℕ → Buffer
spelled spelling = record new_buffer { items = text_items spelling; positions = replicate (length (text_items spelling)) zero_position }
