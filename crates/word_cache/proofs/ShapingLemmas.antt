-- Keys of spellings, and spellings that are too long.
use Rattle.std.proofs.Common.{◌≡◌, ℕ, List, [], ◌∷◌, Result, Ok, Err, IsErrAnd, sym, ap, subst, ◌∙◌, arith, inl, inr}
use Rattle.shape_items.specs.Buffer.{Buffer}
use Rattle.shape_buffer.specs.Guess.{guessed}
use Rattle.shape_buffer.specs.Outcome.{Step, EachWithin, SomePast}
use Rattle.shape_buffer.specs.declared.buffer.error.ShapeError.{ShapeError}
use Rattle.shape_buffer.specs.declared.buffer.error.ShapeError.TheVariants.{Length}
use Rattle.shape_plan.specs.Run.{Run}
use Rattle.shape_pipeline.specs.Headline.{target_of}
use Rattle.shape_pipeline.specs.Shaped.{NormalisingPasses, Shapes, all_steps, entered}
use Rattle.word_cache.specs.Keys.{key_of, spelled}
use Rattle.word_cache.specs.Shaping.{HasTooManyBytes, IsTooLongForKey, IsTooLongToShape}

pub key_made : (run : Run) (number : ℕ) (spelling : List ℕ) (text : Buffer) (key : List ℕ) → text ≡ spelled spelling → key ≡ key_of run number text
    → key ≡ key_of run number (spelled spelling)
key_made run number spelling text key made is = is ∙ ap (key_of run number) made

-- an error that is handed on is the one that came
pub refused_for : {T : Type 0} (result : Result T ShapeError) (error : ShapeError) → IsErrAnd result (λ e. e ≡ error)
    → result ≡ Err Length → error ≡ Length
refused_for (Ok value) error gave is = cc
refused_for (Err other) error gave is =
    let same : other ≡ Length = cc in
    sym gave ∙ same

-- the text of a spelling passes a limit if one that is equal to it does
pub passes_for : (run : Run) (spelling : List ℕ) (text : Buffer) → text ≡ spelled spelling
    → NormalisingPasses run (target_of run text) (guessed run.unicode text) → IsTooLongForKey run spelling
passes_for run spelling text made passes =
    inr (subst (λ (b : Buffer). NormalisingPasses run (target_of run b) (guessed run.unicode b)) made passes)

-- a spelling whose key was made is not too long for it
pub key_fine : (run : Run) (spelling : List ℕ) (text : Buffer) → text ≡ spelled spelling → (HasTooManyBytes spelling → ⊥)
    → (NormalisingPasses run (target_of run text) (guessed run.unicode text) → ⊥) → IsTooLongForKey run spelling → ⊥
key_fine run spelling text made counts fits long = elim long [
  | inl bytes ↦ counts bytes
  | inr passes ↦ fits (subst (λ (b : Buffer). NormalisingPasses run (target_of run b) (guessed run.unicode b)) (sym made) passes)
]

-- if each step is within the limit none passes it
none_past : (steps : List Step) (b : Buffer) → EachWithin steps b → SomePast steps b → ⊥
none_past [] b within past = past
none_past (step ∷ steps) b within past = elim past [
  | inl here ↦ omega (arith, within.0, here)
  | inr later ↦ none_past steps (step.makes b) within.1 later
]

-- a spelling that was shaped is not too long for that
pub shaped_fine : (run : Run) (spelling : List ℕ) (glyphs : Buffer) → (HasTooManyBytes spelling → ⊥)
    → Shapes run (target_of run (spelled spelling)) (guessed run.unicode (spelled spelling)) glyphs
    → IsTooLongToShape run spelling → ⊥
shaped_fine run spelling glyphs counts shapes long = elim long [
  | inl bytes ↦ counts bytes
  | inr passes ↦
      let target = target_of run (spelled spelling) in
      let text = guessed run.unicode (spelled spelling) in
      none_past (all_steps run target) (entered text) (shapes.counted passes.0) passes.1.past
]
