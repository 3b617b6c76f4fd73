-- Words under their spellings.
use Rattle.std.specs.Prelude.{◌≡◌, ℕ, List, string_bytes, Result, Ok}
use Rattle.std.specs.Str.{IsUtf8}
use Rattle.shape_items.specs.Buffer.{Buffer}
use Rattle.shape_buffer.specs.declared.buffer.error.ShapeError.{ShapeError}
use Rattle.word_cache.specs.Keys.{spelled, spelling_key}
use Rattle.word_cache.specs.Words.{Words, entry, Keeps}
use Rattle.word_cache.specs.declared.words.Word.{Word}

-- a word has this spelling, and the glyphs that were made of its text, by a call that may make
-- such
pub record IsGivenTo (gives : Buffer → Result Buffer ShapeError → Type 0) (spelling : List ℕ) (word : Word) : Type 0 where
  pub spelling_is : string_bytes word.spelling ≡ spelling
  pub glyphs_are : gives (spelled spelling) (Ok word.glyphs)

-- a spelling was shaped and kept: its word, under its key, went first
pub record IsFreshSpelling (gives : Buffer → Result Buffer ShapeError → Type 0) (number : ℕ) (spelling : List ℕ) (old new : Words) : Type 0 where
  pub word : Word
  pub is_given : IsGivenTo gives spelling word
  pub kept : Keeps (entry (spelling_key number spelling) word) old new

-- spellings with one key are the same
abbrev pub SpellingsDecide : Type 0
SpellingsDecide = (number : ℕ) (one other : List ℕ) → IsUtf8 one → IsUtf8 other
    → spelling_key number one ≡ spelling_key number other → one ≡ other
