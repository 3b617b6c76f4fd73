-- What a cache keeps of its words, on lists that were worked by hand: what the promise takes, and what it refuses.
use Rattle.std.specs.Prelude.{◌≡◌, ◌≢◌, ℕ, List, [], ◌∷◌, string_bytes}
use Rattle.shape_items.specs.Buffer.{Buffer}
use Rattle.shape_pipeline.specs.Shaped.{shaped}
use Rattle.shape_plan.specs.Run.{Run}
use Rattle.shape_users.specs.Words.{spelled, AreSpelledAlike, KeepsWords}
use Rattle.shape_users.specs.declared.words.Word.{Word}

abbrev pub bytes_of : Word → List ℕ
bytes_of word = string_bytes word.spelling

-- the glyphs of a word's spelling
abbrev pub own_glyphs : Run → Word → Buffer
own_glyphs run word = shaped run (spelled (bytes_of word))

pub record WordsTaken : Type 0 where
  pub found : (run : Run) (a b : Word) (s : List ℕ) → KeepsWords run (a ∷ b ∷ []) (a ∷ b ∷ []) 1 s
  pub first : (run : Run) (a : Word) → a.glyphs ≡ own_glyphs run a → KeepsWords run [] (a ∷ []) 0 (bytes_of a)
  pub second : (run : Run) (a b : Word) → (AreSpelledAlike run (bytes_of a) (bytes_of b) → ⊥) → b.glyphs ≡ own_glyphs run b
      → KeepsWords run (a ∷ []) (a ∷ b ∷ []) 1 (bytes_of b)

pub record WordsRefused : Type 0 where
  -- another word in the place of the one that was found, or of one that was there
  pub found_changes : (run : Run) (a b : Word) (s : List ℕ) → a ≢ b → KeepsWords run (a ∷ []) (b ∷ []) 0 s → ⊥
  pub other_changes : (run : Run) (a b c : Word) (s : List ℕ) → a ≢ b → KeepsWords run (a ∷ []) (b ∷ c ∷ []) 1 s → ⊥
  -- a word that goes, and one that is put before the others
  pub lost : (run : Run) (a b : Word) (s : List ℕ) → KeepsWords run (a ∷ []) (b ∷ []) 1 s → ⊥
  pub before : (run : Run) (a b : Word) (s : List ℕ) → KeepsWords run (a ∷ []) (b ∷ a ∷ []) 0 s → ⊥
  -- one more if one was found, and two more
  pub twice : (run : Run) (a b : Word) → KeepsWords run (a ∷ []) (a ∷ b ∷ []) 1 (bytes_of a) → ⊥
  -- a place where no word is
  pub no_word : (run : Run) (s : List ℕ) → KeepsWords run [] [] 0 s → ⊥
  pub two_more : (run : Run) (a b : Word) (s : List ℕ) → KeepsWords run [] (a ∷ b ∷ []) 0 s → ⊥
  -- another spelling than was asked for, and other glyphs than its own
  pub other_spelling : (run : Run) (a : Word) (s : List ℕ) → bytes_of a ≢ s → KeepsWords run [] (a ∷ []) 0 s → ⊥
  pub other_glyphs : (run : Run) (a : Word) → a.glyphs ≢ own_glyphs run a → KeepsWords run [] (a ∷ []) 0 (bytes_of a) → ⊥

pub record WorkedWords : Type 0 where
  pub taken : WordsTaken
  pub refused : WordsRefused
