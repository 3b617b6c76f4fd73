-- Words shaped once, and then found.
use Rattle.std.specs.Prelude.{◌≡◌, ◌⊎◌, ℕ, ◌≤◌, ◌^◌, List, length, string_bytes}
use Rattle.std.specs.List.{AllByRecursion}
use Rattle.shape_buffer.specs.Guess.{guessed}
use Rattle.shape_pipeline.specs.Headline.{target_of}
use Rattle.shape_pipeline.specs.Shaped.{HasItems, NormalisingPasses, ShapingPasses, shaped}
use Rattle.shape_plan.specs.Run.{Run}
use Rattle.word_cache.specs.Keys.{key_of, spelled}
use Rattle.word_cache.specs.Words.{Entry, Words, entry, HasKey, Keeps}
use Rattle.word_cache.specs.declared.words.Word.{Word}

-- a word has this spelling, and the glyphs that it is shaped to
pub record IsShapedTo (run : Run) (spelling : List ℕ) (word : Word) : Type 0 where
  pub spelling_is : string_bytes word.spelling ≡ spelling
  pub glyphs_are : word.glyphs ≡ shaped run (spelled spelling)

-- a spelling was shaped and kept: its word, under its key, went first
pub record IsFresh (run : Run) (number : ℕ) (spelling : List ℕ) (old new : Words) : Type 0 where
  pub word : Word
  pub is_shaped : IsShapedTo run spelling word
  pub kept : Keeps (entry (key_of run number (spelled spelling)) word) old new

-- an entry is the word that some spelling was shaped to, under the key of this spelling, by the run of the plan of its number
pub record IsShaped (runs : ℕ → Run) (e : Entry) : Type 0 where
  pub number : ℕ
  pub spelling : List ℕ
  pub key_is : e.key ≡ key_of (runs number) number (spelled spelling)
  pub is_shaped : IsShapedTo (runs number) spelling e.word

abbrev pub HoldsShaped : (ℕ → Run) → Words → Type 0
HoldsShaped runs cache = AllByRecursion (IsShaped runs) cache.entries

-- 32 bits can't count the bytes of a spelling
abbrev pub HasTooManyBytes : List ℕ → Type 0
HasTooManyBytes spelling = 2 ^ 32 ≤ length spelling

-- the same, or a step of normalising its text would pass the run's limit
abbrev pub IsTooLongForKey : Run → List ℕ → Type 0
IsTooLongForKey run spelling =
    let text = spelled spelling in
    HasTooManyBytes spelling ⊎ NormalisingPasses run (target_of run text) (guessed run.unicode text)

-- the same of a run to its end, which an empty text has none of
abbrev pub IsTooLongToShape : Run → List ℕ → Type 0
IsTooLongToShape run spelling =
    let text = spelled spelling in
    HasTooManyBytes spelling ⊎ (HasItems text × ShapingPasses run (target_of run text) (guessed run.unicode text))

-- a spelling is too long for its key, or there is no word under its key and it is too long to shape
abbrev pub IsTooLong : Run → ℕ → List ℕ → List Entry → Type 0
IsTooLong run number spelling entries =
    IsTooLongForKey run spelling
    ⊎ ((HasKey (key_of run number (spelled spelling)) entries → ⊥) × IsTooLongToShape run spelling)
