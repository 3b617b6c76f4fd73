-- Which word and which plan are found, and when a spelling is too long for that, on lists that were worked by hand.
use Rattle.std.specs.Prelude.{◌≡◌, ◌≢◌, ◌⊎◌, ◌<◌, ◌≤◌, ◌^◌, ℕ, List, [], ◌∷◌, length}
use Rattle.shape_items.specs.Buffer.{Buffer, limit_of}
use Rattle.shape_buffer.specs.Guess.{guessed}
use Rattle.shape_common.specs.Unicode.{UnicodeMeaning}
use Rattle.shape_normalize.specs.CanonicalForm.{text_of}
use Rattle.shape_normalize.specs.RoundOne.{round_one}
use Rattle.shape_plan.specs.Plan.{Plan, Fits}
use Rattle.shape_plan.specs.Run.{Run}
use Rattle.shape_pipeline.specs.Headline.{target_of, prepared_text, normalised_list}
use Rattle.shape_pipeline.specs.Shaped.{HasItems, PreparingPasses, ShapingPasses}
use Rattle.shape_users.specs.Words.{spelled, AreSpelledAlike, IsTooLongToPrepare, IsTooLong, IsTooLongToShape, IsPlaceOf, IsNowhere, FindsTooLong}
use Rattle.shape_users.specs.Words.{KeepsTooLong, FitsAt, NoneFits}
use Rattle.shape_users.specs.Worked.Words.{bytes_of}
use Rattle.shape_users.specs.declared.words.Word.{Word}

-- the spelling is a word's
abbrev pub IsLike : Run → Word → List ℕ → Type 0
IsLike run word spelling = AreSpelledAlike run (bytes_of word) spelling

-- spellings are compared by their characters once they are normalised
pub record SpellingsCompared (run : Run) (a b : List ℕ) : Type 0 where
  pub alike : text_of (normalised_list run (spelled a)) ≡ text_of (normalised_list run (spelled b)) → AreSpelledAlike run a b
  pub apart : text_of (normalised_list run (spelled a)) ≢ text_of (normalised_list run (spelled b)) → AreSpelledAlike run a b → ⊥

pub record WordsFound (run : Run) (a b : Word) (spelling : List ℕ) : Type 0 where
  pub second : IsLike run b spelling → IsPlaceOf run (a ∷ b ∷ []) 1 spelling
  pub is_like : IsPlaceOf run (a ∷ b ∷ []) 0 spelling → IsLike run a spelling
  pub past_all : IsPlaceOf run (a ∷ b ∷ []) 2 spelling → ⊥
  pub nowhere : (IsLike run a spelling → ⊥) → (IsLike run b spelling → ⊥) → IsNowhere run (a ∷ b ∷ []) 2 spelling
  pub not_the_last : IsNowhere run (a ∷ b ∷ []) 2 spelling → IsLike run b spelling → ⊥
  -- the first alone is asked
  pub first_alone : (IsLike run a spelling → ⊥) → IsNowhere run (a ∷ b ∷ []) 1 spelling

-- the prepared text passes its limit if it is expanded
abbrev pub ExpandsPastLimit : Run → List ℕ → Type 0
ExpandsPastLimit run spelling =
    let text = prepared_text run (spelled spelling) in
    limit_of text < length (round_one run.rules text).items

-- it doesn't
abbrev pub ExpandsWithinLimit : Run → List ℕ → Type 0
ExpandsWithinLimit run spelling =
    let text = prepared_text run (spelled spelling) in
    length (round_one run.rules text).items ≤ limit_of text

pub record TooLong (run : Run) (spelling : List ℕ) : Type 0 where
  pub by_bytes : 2 ^ 32 ≤ length spelling → IsTooLongToPrepare run spelling
  pub by_a_step : HasItems (spelled spelling)
      → PreparingPasses run (target_of run (spelled spelling)) (guessed run.unicode (spelled spelling)) → IsTooLongToPrepare run spelling
  pub to_prepare : IsTooLongToPrepare run spelling → IsTooLong run spelling
  pub to_expand : ExpandsPastLimit run spelling → IsTooLong run spelling
  pub to_shape : HasItems (spelled spelling)
      → ShapingPasses run (target_of run (spelled spelling)) (guessed run.unicode (spelled spelling)) → IsTooLongToShape run spelling
  pub bytes_to_shape : 2 ^ 32 ≤ length spelling → IsTooLongToShape run spelling

pub record NotTooLong (run : Run) : Type 0 where
  pub empty : IsTooLongToPrepare run [] → ⊥
  pub empty_to_shape : IsTooLongToShape run [] → ⊥
  -- a spelling that 32 bits count is too long by a step alone
  pub counted : (spelling : List ℕ) → length spelling < 2 ^ 32 → IsTooLongToPrepare run spelling
      → PreparingPasses run (target_of run (spelled spelling)) (guessed run.unicode (spelled spelling))
  pub counted_to_shape : (spelling : List ℕ) → length spelling < 2 ^ 32 → IsTooLongToShape run spelling
      → ShapingPasses run (target_of run (spelled spelling)) (guessed run.unicode (spelled spelling))
  -- one that is expanded up to the limit isn't too long
  pub up_to_the_limit : (spelling : List ℕ) → (IsTooLongToPrepare run spelling → ⊥) → ExpandsWithinLimit run spelling
      → IsTooLong run spelling → ⊥

pub record FoundTooLong (run : Run) (a b : Word) (spelling : List ℕ) : Type 0 where
  pub first : IsTooLong run (bytes_of a) → FindsTooLong run (a ∷ b ∷ []) spelling
  pub second : (IsLike run a spelling → ⊥) → IsTooLong run (bytes_of b) → FindsTooLong run (a ∷ b ∷ []) spelling
  pub the_spelling : IsTooLong run spelling → FindsTooLong run (a ∷ b ∷ []) spelling
  -- a word that is found ends the search
  pub after_the_first : IsLike run a spelling → FindsTooLong run (a ∷ b ∷ []) spelling → IsTooLong run (bytes_of a) ⊎ IsTooLong run spelling
  pub no_words : FindsTooLong run [] spelling → ⊥
  pub kept_first : IsTooLongToShape run spelling → KeepsTooLong run [] spelling
  pub not_kept : KeepsTooLong run [] spelling → IsTooLongToShape run spelling
  pub found_before : FindsTooLong run (a ∷ b ∷ []) spelling → KeepsTooLong run (a ∷ b ∷ []) spelling
  -- a word that is found isn't shaped
  pub found_first : IsLike run a spelling → KeepsTooLong run (a ∷ b ∷ []) spelling → FindsTooLong run (a ∷ b ∷ []) spelling
  pub not_found : (IsLike run a spelling → ⊥) → (IsLike run b spelling → ⊥) → IsTooLongToShape run spelling
      → KeepsTooLong run (a ∷ b ∷ []) spelling

pub record PlansFound (unicode : UnicodeMeaning) (a b : Plan ℕ ℕ ℕ) (text : Buffer) : Type 0 where
  pub second : Fits unicode b text → FitsAt unicode (a ∷ b ∷ []) 1 text
  pub fits : FitsAt unicode (a ∷ b ∷ []) 0 text → Fits unicode a text
  pub past_all : FitsAt unicode (a ∷ b ∷ []) 2 text → ⊥
  pub none : (Fits unicode a text → ⊥) → (Fits unicode b text → ⊥) → NoneFits unicode (a ∷ b ∷ []) 2 text
  pub not_the_last : NoneFits unicode (a ∷ b ∷ []) 2 text → Fits unicode b text → ⊥
  pub first_alone : (Fits unicode a text → ⊥) → NoneFits unicode (a ∷ b ∷ []) 1 text

pub record WorkedFound : Type 0 where
  pub spellings : (run : Run) (a b : List ℕ) → SpellingsCompared run a b
  pub words : (run : Run) (a b : Word) (spelling : List ℕ) → WordsFound run a b spelling
  pub too_long : (run : Run) (spelling : List ℕ) → TooLong run spelling
  pub not_too_long : (run : Run) → NotTooLong run
  pub found_too_long : (run : Run) (a b : Word) (spelling : List ℕ) → FoundTooLong run a b spelling
  pub plans : (unicode : UnicodeMeaning) (a b : Plan ℕ ℕ ℕ) (text : Buffer) → PlansFound unicode a b text
