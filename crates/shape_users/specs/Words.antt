-- Words that are found under each equivalent spelling.
use Rattle.std.specs.Prelude.{◌≡◌, ◌⊎◌, ℕ, ◌<◌, ◌≤◌, ◌^◌, SomeIndex, List, [], ◌∷◌, ◌++◌, length, replicate, slice_index_or, string_bytes}
use Rattle.shape_items.specs.Buffer.{Buffer, new_buffer, limit_of}
use Rattle.shape_buffer.specs.Guess.{guessed}
use Rattle.shape_common.specs.Positions.{zero_position}
use Rattle.shape_buffer.specs.Text.{text_items}
use Rattle.shape_normalize.specs.CanonicalForm.{text_of}
use Rattle.shape_normalize.specs.RoundOne.{round_one}
use Rattle.shape_common.specs.Unicode.{UnicodeMeaning}
use Rattle.shape_plan.specs.Plan.{Plan, Fits}
use Rattle.shape_plan.specs.Run.{Run}
use Rattle.shape_pipeline.specs.Headline.{target_of, prepared_text, normalised_list}
use Rattle.shape_pipeline.specs.Shaped.{HasItems, PreparingPasses, ShapingPasses, shaped}
use Rattle.shape_users.specs.declared.words.Word.{Word}

-- the text of a spelling, nothing else set
abbrev pub spelled : List ℕ → Buffer
spelled spelling = record new_buffer { items = text_items spelling; positions = replicate (length (text_items spelling)) zero_position }

-- 32 bits can't count the bytes of a spelling, or it has characters and a step of preparing them would pass the run's
-- limit
abbrev pub IsTooLongToPrepare : Run → List ℕ → Type 0
IsTooLongToPrepare run spelling =
    let text = spelled spelling in
    (2 ^ 32 ≤ length spelling) ⊎ (HasItems text × PreparingPasses run (target_of run text) (guessed run.unicode text))

-- the same, or the prepared text would pass its limit in normalising
abbrev pub IsTooLong : Run → List ℕ → Type 0
IsTooLong run spelling =
    let text = prepared_text run (spelled spelling) in
    IsTooLongToPrepare run spelling ⊎ (limit_of text < length (round_one run.rules text).items)

-- the same for a run to its end
abbrev pub IsTooLongToShape : Run → List ℕ → Type 0
IsTooLongToShape run spelling =
    let text = spelled spelling in
    (2 ^ 32 ≤ length spelling) ⊎ (HasItems text × ShapingPasses run (target_of run text) (guessed run.unicode text))

-- two spellings have the same normalised characters
abbrev pub AreSpelledAlike : Run → List ℕ → List ℕ → Type 0
AreSpelledAlike run first second =
    text_of (normalised_list run (spelled first)) ≡ text_of (normalised_list run (spelled second))

-- the word at a place is spelled like this
abbrev pub IsPlaceOf : Run → List Word → ℕ → List ℕ → Type 0
IsPlaceOf run words place spelling =
    (place < length words) × ((d : Word) → AreSpelledAlike run (string_bytes (slice_index_or words place d).spelling) spelling)

-- none of the first words is
abbrev pub IsNowhere : Run → List Word → ℕ → List ℕ → Type 0
IsNowhere run words count spelling =
    (k : ℕ) (d : Word) → k < count → AreSpelledAlike run (string_bytes (slice_index_or words k d).spelling) spelling → ⊥

-- a spelling is compared with one word after the other until it is found: the search comes to a word, and that or the
-- spelling is too long
abbrev pub FindsTooLong : Run → List Word → List ℕ → Type 0
FindsTooLong run words spelling =
    SomeIndex words (λ k. IsNowhere run words k spelling
    × ((d : Word) → IsTooLong run (string_bytes (slice_index_or words k d).spelling) ⊎ IsTooLong run spelling))

-- one word more: none of the old ones is spelled like this, and after them all stands a word with this spelling and its
-- glyphs
pub record IsOneWordMore (run : Run) (old new : List Word) (spelling : List ℕ) : Type 0 where
  pub nowhere : IsNowhere run old (length old) spelling
  pub word : Word
  pub behind : new ≡ old ++ word ∷ []
  pub spelling_is : string_bytes word.spelling ≡ spelling
  pub glyphs_are : word.glyphs ≡ shaped run (spelled spelling)

-- the words once one was asked for and is at a place: the old ones if the place is one of theirs, else one word more,
-- at its end
abbrev pub KeepsWords : Run → List Word → List Word → ℕ → List ℕ → Type 0
KeepsWords run old new place spelling =
    ((place < length old) × (new ≡ old)) ⊎ ((place ≡ length old) × IsOneWordMore run old new spelling)

-- keeping a word compares something too long, or the word is nowhere yet and too long to shape
abbrev pub KeepsTooLong : Run → List Word → List ℕ → Type 0
KeepsTooLong run words spelling =
    FindsTooLong run words spelling ⊎ (IsNowhere run words (length words) spelling × IsTooLongToShape run spelling)

-- the plan at a place serves a text
abbrev pub FitsAt : {S P D : Type 0} → UnicodeMeaning → List (Plan S P D) → ℕ → Buffer → Type 0
FitsAt {S} {P} {D} unicode plans place text = (place < length plans) × ((d : Plan S P D) → Fits unicode (slice_index_or plans place d) text)

-- none of the first plans does
abbrev pub NoneFits : {S P D : Type 0} → UnicodeMeaning → List (Plan S P D) → ℕ → Buffer → Type 0
NoneFits {S} {P} {D} unicode plans count text = (k : ℕ) (d : Plan S P D) → k < count → Fits unicode (slice_index_or plans k d) text → ⊥
