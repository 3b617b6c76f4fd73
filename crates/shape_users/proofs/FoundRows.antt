-- The rows of words and plans that are found.
use Rattle.std.proofs.Common.{◌⊎◌, ℕ, zero, suc, ◌<◌, ◌≤◌, ◌^◌, List, [], ◌∷◌, length, inl, inr, refl, arith}
use Rattle.std.specs.Str.{chars}
use Rattle.shape_items.specs.Buffer.{Buffer}
use Rattle.shape_common.specs.Unicode.{UnicodeMeaning}
use Rattle.shape_plan.specs.Plan.{Plan, Fits}
use Rattle.shape_plan.specs.Run.{Run}
use Rattle.shape_buffer.specs.Guess.{guessed}
use Rattle.shape_pipeline.specs.Headline.{target_of}
use Rattle.shape_pipeline.specs.Shaped.{PreparingPasses, ShapingPasses}
use Rattle.shape_users.specs.Words.{spelled, IsTooLong, IsTooLongToPrepare, IsTooLongToShape, IsNowhere, FindsTooLong, KeepsTooLong, NoneFits}
use Rattle.shape_users.specs.Worked.Found.{IsLike, WordsFound, ExpandsWithinLimit, TooLong, NotTooLong, FoundTooLong, PlansFound, WorkedFound}
use Rattle.shape_users.specs.Worked.Words.{bytes_of}
use Rattle.shape_users.specs.declared.words.Word.{Word}

module _ (run : Run) (a b : Word) (spelling : List ℕ) where
  nowhere : (IsLike run a spelling → ⊥) → (IsLike run b spelling → ⊥) → IsNowhere run (a ∷ b ∷ []) 2 spelling
  nowhere first second zero d below like = first like
  nowhere first second (suc zero) d below like = second like
  nowhere first second (suc (suc k)) d below like = absurd (omega arith)

  first_alone : (IsLike run a spelling → ⊥) → IsNowhere run (a ∷ b ∷ []) 1 spelling
  first_alone first zero d below like = first like
  first_alone first (suc k) d below like = absurd (omega arith)

  words_found : WordsFound run a b spelling
  words_found = record {
    second = λ like. (omega arith, λ d. like);
    is_like = λ is. is.1 a;
    past_all = λ is. let lt : 2 < 2 = is.0 in omega (arith, lt);
    nowhere = nowhere;
    not_the_last = λ none like. none 1 a (omega arith) like;
    first_alone = first_alone;
  }

  after_the_first : IsLike run a spelling → FindsTooLong run (a ∷ b ∷ []) spelling → IsTooLong run (bytes_of a) ⊎ IsTooLong run spelling
  after_the_first like (zero, lt, (none, long)) = long a
  after_the_first like (suc k, lt, (none, long)) = absurd (none 0 a (omega arith) like)

  no_words : FindsTooLong run [] spelling → ⊥
  no_words (k, lt, (none, long)) = absurd (omega arith)

  not_kept : KeepsTooLong run [] spelling → IsTooLongToShape run spelling
  not_kept (inl finds) = absurd (no_words finds)
  not_kept (inr long) = long.1

  found_first : IsLike run a spelling → KeepsTooLong run (a ∷ b ∷ []) spelling → FindsTooLong run (a ∷ b ∷ []) spelling
  found_first like (inl finds) = finds
  found_first like (inr long) = absurd (long.0 0 a (omega arith) like)

  found_too_long : FoundTooLong run a b spelling
  found_too_long = record {
    first = λ long. (0, omega arith, (λ k d below like. absurd (omega arith), λ d. inl long));
    second = λ other long. (1, omega arith, (first_alone other, λ d. inl long));
    the_spelling = λ long. (0, omega arith, (λ k d below like. absurd (omega arith), λ d. inr long));
    after_the_first = after_the_first;
    no_words = no_words;
    kept_first = λ long. inr (λ k d below like. absurd (omega arith), long);
    not_kept = not_kept;
    found_before = λ finds. inl finds;
    found_first = found_first;
    not_found = λ first second long. inr (nowhere first second, long);
  }

too_long : (run : Run) (spelling : List ℕ) → TooLong run spelling
too_long run spelling = record {
  by_bytes = λ long. inl long;
  by_a_step = λ some passes. inr (some, passes);
  to_prepare = λ long. inl long;
  to_expand = λ long. inr long;
  to_shape = λ some passes. inr (some, passes);
  bytes_to_shape = λ long. inl long;
}

empty : (run : Run) → IsTooLongToPrepare run [] → ⊥
unfolding chars
empty run (inl long) = let le : 4294967296 ≤ 0 = long in omega (arith, le)
empty run (inr passes) = passes.0 refl

empty_to_shape : (run : Run) → IsTooLongToShape run [] → ⊥
unfolding chars
empty_to_shape run (inl long) = let le : 4294967296 ≤ 0 = long in omega (arith, le)
empty_to_shape run (inr passes) = passes.0 refl

counted : (run : Run) (spelling : List ℕ) → length spelling < 2 ^ 32 → IsTooLongToPrepare run spelling
    → PreparingPasses run (target_of run (spelled spelling)) (guessed run.unicode (spelled spelling))
counted run spelling below (inl long) = absurd (omega (arith, below, long))
counted run spelling below (inr passes) = passes.1

counted_to_shape : (run : Run) (spelling : List ℕ) → length spelling < 2 ^ 32 → IsTooLongToShape run spelling
    → ShapingPasses run (target_of run (spelled spelling)) (guessed run.unicode (spelled spelling))
counted_to_shape run spelling below (inl long) = absurd (omega (arith, below, long))
counted_to_shape run spelling below (inr passes) = passes.1

up_to_the_limit : (run : Run) (spelling : List ℕ) → (IsTooLongToPrepare run spelling → ⊥) → ExpandsWithinLimit run spelling
    → IsTooLong run spelling → ⊥
up_to_the_limit run spelling prepared within (inl long) = prepared long
up_to_the_limit run spelling prepared within (inr past) = omega (arith, within, past)

not_too_long : (run : Run) → NotTooLong run
not_too_long run = record {
  empty = empty run;
  empty_to_shape = empty_to_shape run;
  counted = counted run;
  counted_to_shape = counted_to_shape run;
  up_to_the_limit = up_to_the_limit run;
}

module _ (unicode : UnicodeMeaning) (a b : Plan ℕ ℕ ℕ) (text : Buffer) where
  no_plan : (Fits unicode a text → ⊥) → (Fits unicode b text → ⊥) → NoneFits unicode (a ∷ b ∷ []) 2 text
  no_plan first second zero d below fits = first fits
  no_plan first second (suc zero) d below fits = second fits
  no_plan first second (suc (suc k)) d below fits = absurd (omega arith)

  not_the_first : (Fits unicode a text → ⊥) → NoneFits unicode (a ∷ b ∷ []) 1 text
  not_the_first first zero d below fits = first fits
  not_the_first first (suc k) d below fits = absurd (omega arith)

  plans_found : PlansFound unicode a b text
  plans_found = record {
    second = λ fits. (omega arith, λ d. fits);
    fits = λ is. is.1 a;
    past_all = λ is. let lt : 2 < 2 = is.0 in omega (arith, lt);
    none = no_plan;
    not_the_last = λ none fits. none 1 a (omega arith) fits;
    first_alone = not_the_first;
  }

pub worked_found : WorkedFound
worked_found = record {
  spellings = λ run a b. record { alike = λ same. same; apart = λ differ alike. differ alike };
  words = words_found;
  too_long = too_long;
  not_too_long = not_too_long;
  found_too_long = found_too_long;
  plans = plans_found;
}
