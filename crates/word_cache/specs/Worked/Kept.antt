-- Keys, and what a cache keeps, on small cases whose results are worked out by hand: what the promise takes, and what it refuses.
use Rattle.std.specs.Prelude.{◌≡◌, ◌≢◌, ℕ, ◌<◌, ◌≤◌, ◌^◌, List, [], ◌∷◌, length, drop, slice_get, string_bytes, Some}
use Rattle.shape_items.specs.Buffer.{Buffer}
use Rattle.shape_buffer.specs.Guess.{guessed}
use Rattle.shape_buffer.specs.Text.{text_items}
use Rattle.shape_pipeline.specs.Canonical.{normalised_characters}
use Rattle.shape_pipeline.specs.Headline.{target_of}
use Rattle.shape_pipeline.specs.Shaped.{NormalisingPasses, ShapingPasses, shaped}
use Rattle.shape_plan.specs.Run.{Run}
use Rattle.word_cache.specs.Keys.{key_of, spelling_key, spelled}
use Rattle.word_cache.specs.Shaping.{IsShapedTo, HoldsShaped, IsTooLongForKey, IsTooLongToShape, IsTooLong}
use Rattle.word_cache.specs.Words.{Entry, entry, entry_bytes, made, total, HasKey, Keeps}
use Rattle.word_cache.specs.declared.words.Word.{Word}

-- plan 7 is the first number of a key, and the normalised characters stand after it
pub record WorkedKeys (run : Run) (text : Buffer) (spelling : List ℕ) : Type 0 where
  pub number : slice_get (key_of run 7 text) 0 ≡ Some 7
  pub characters : drop 1 (key_of run 7 text) ≡ normalised_characters run text
  -- `qé` in three bytes, under plan 7, is 7 and two characters
  pub as_spelled : spelling_key 7 (0x71 ∷ 0xC3 ∷ 0xA9 ∷ []) ≡ 7 ∷ 0x71 ∷ 0xE9 ∷ []
  pub items : (spelled spelling).items ≡ text_items spelling
  pub positions : length (spelled spelling).positions ≡ length (text_items spelling)

-- U+00E9, spelled in two bytes, under plan 0, U+0065 and U+0301, has two glyphs
pub record WorkedBytes (word : Word) (a b : Entry) : Type 0 where
  pub accent : string_bytes word.spelling ≡ 0xC3 ∷ 0xA9 ∷ [] → length word.glyphs.items ≡ 2 → entry_bytes (entry (0 ∷ 0x65 ∷ 0x301 ∷ []) word) ≡ 94
  pub sum : entry_bytes a ≡ 40 → entry_bytes b ≡ 60 → total (a ∷ b ∷ []) ≡ 100
  pub no_words : total [] ≡ 0

-- an entry of 60 bytes after one of 40
pub record WorkedKeeps (a b : Entry) : Type 0 where
  pub both : Keeps b (made (a ∷ []) 100) (made (b ∷ a ∷ []) 100)
  pub one_goes : Keeps b (made (a ∷ []) 99) (made (b ∷ []) 99)
  pub not_behind : Keeps b (made (a ∷ []) 100) (made (a ∷ b ∷ []) 100) → ⊥
  pub not_without_need : Keeps b (made (a ∷ []) 100) (made (b ∷ []) 100) → ⊥
  pub limit_stays : Keeps b (made [] 100) (made (b ∷ []) 99) → ⊥

-- the glyphs of a word's spelling
abbrev pub own_glyphs : Run → Word → Buffer
own_glyphs run word = shaped run (spelled (string_bytes word.spelling))

pub record WorkedShaped (run : Run) (word : Word) (spelling : List ℕ) : Type 0 where
  pub own : word.glyphs ≡ own_glyphs run word → IsShapedTo run (string_bytes word.spelling) word
  pub other_spelling : string_bytes word.spelling ≢ spelling → IsShapedTo run spelling word → ⊥
  pub other_glyphs : word.glyphs ≢ own_glyphs run word → IsShapedTo run (string_bytes word.spelling) word → ⊥

-- what is held under plan 3 was shaped by plan 3
pub record WorkedHeld (runs : ℕ → Run) (word : Word) (spelling : List ℕ) : Type 0 where
  pub by_its_plan : IsShapedTo (runs 3) spelling word → HoldsShaped runs (made (entry (key_of (runs 3) 3 (spelled spelling)) word ∷ []) 9)
  pub not_unshaped : (word.glyphs ≢ own_glyphs (runs 3) word) → (rest : List ℕ) → HoldsShaped runs (made (entry (3 ∷ rest) word ∷ []) 9) → ⊥
  pub none : HoldsShaped runs (made [] 9)

-- a spelling is too long for its key, or to be shaped
pub record WorkedTooLong (run : Run) (spelling : List ℕ) (entries : List Entry) : Type 0 where
  pub by_bytes : 2 ^ 32 ≤ length spelling → IsTooLongForKey run spelling
  pub by_bytes_to_shape : 2 ^ 32 ≤ length spelling → IsTooLongToShape run spelling
  pub by_a_step : NormalisingPasses run (target_of run (spelled spelling)) (guessed run.unicode (spelled spelling)) → IsTooLongForKey run spelling
  -- one that 32 bits count is too long by a step alone
  pub counted : length spelling < 2 ^ 32 → IsTooLongForKey run spelling
      → NormalisingPasses run (target_of run (spelled spelling)) (guessed run.unicode (spelled spelling))
  pub counted_to_shape : length spelling < 2 ^ 32 → IsTooLongToShape run spelling
      → ShapingPasses run (target_of run (spelled spelling)) (guessed run.unicode (spelled spelling))
  pub empty_to_shape : IsTooLongToShape run [] → ⊥
  pub for_its_key : IsTooLongForKey run spelling → IsTooLong run 7 spelling entries
  -- a word that is found isn't shaped
  pub found : HasKey (key_of run 7 (spelled spelling)) entries → IsTooLong run 7 spelling entries → IsTooLongForKey run spelling
  pub not_found : (HasKey (key_of run 7 (spelled spelling)) entries → ⊥) → IsTooLongToShape run spelling → IsTooLong run 7 spelling entries

pub record WorkedKept : Type 0 where
  pub keys : (run : Run) (text : Buffer) (spelling : List ℕ) → WorkedKeys run text spelling
  pub bytes : (word : Word) (a b : Entry) → WorkedBytes word a b
  pub keeps : (a b : Entry) → entry_bytes a ≡ 40 → entry_bytes b ≡ 60 → WorkedKeeps a b
  pub shaped_to : (run : Run) (word : Word) (spelling : List ℕ) → WorkedShaped run word spelling
  pub held : (runs : ℕ → Run) (word : Word) (spelling : List ℕ) → WorkedHeld runs word spelling
  pub too_long : (run : Run) (spelling : List ℕ) (entries : List Entry) → WorkedTooLong run spelling entries
