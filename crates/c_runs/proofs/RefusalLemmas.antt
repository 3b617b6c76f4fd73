-- Why a run is refused, from why its parts are.
use Rattle.std.proofs.Common.{◌≡◌, ℕ, Result, Ok, Err, refl, sym, subst}
use Rattle.std.specs.Prelude.{IfErr}
use Rattle.std.specs.Result.{IsErrAnd}
use Rattle.shape_buffer.specs.declared.buffer.error.ShapeError.{ShapeError}
use Rattle.shape_buffer.specs.declared.buffer.error.ShapeError.TheVariants as error
use Rattle.shape_items.specs.Buffer.{Buffer}
use Rattle.shape_plan.specs.Run.{Run}
use Rattle.c_runs.specs.Numbers.{reason_of}
use Rattle.c_runs.specs.Outcomes.{IsStopped}
use Rattle.c_runs.specs.Refusals.{IsRefused, TextPasses}
use Rattle.c_runs.specs.Texts.{Units, text_of_run}
use Rattle.c_runs.specs.declared.plain.luthgarn_run.{luthgarn_run}
use Rattle.c_runs.specs.declared.refusal.Refusal.{Refusal}
use Rattle.c_runs.specs.declared.refusal.Refusal.TheVariants as why

-- what is refused before a step passes the limit
pub refused-before : (Passes : Type 0) (text : Units) (run : luthgarn_run) (e : Refusal)
    → IsRefused ⊥ text run e → IsRefused Passes text run e
refused-before Passes text run why.Memory is = tt
refused-before Passes text run why.Length is = absurd is
refused-before Passes text run why.Font is = is
refused-before Passes text run why.Text is = is
refused-before Passes text run why.Run is = is
refused-before Passes text run why.Room is = is

-- what shaping refuses
pub refused-shape : (Passes : Type 0) (text : Units) (run : luthgarn_run) (e : ShapeError)
    → (e ≡ error.Length → Passes) → IsRefused Passes text run (reason_of e)
refused-shape Passes text run error.Memory passes = tt
refused-shape Passes text run error.Length passes = passes refl

pub refused-by : {T : Type 0} (Passes : Type 0) (text : Units) (run : luthgarn_run) (cause : ShapeError) (result : Result T Refusal)
    → (cause ≡ error.Length → Passes) → IsErrAnd result (λ e. e ≡ reason_of cause) → IfErr result (IsRefused Passes text run)
refused-by Passes text run cause (Ok _) passes is = tt
refused-by Passes text run cause (Err e) passes is = subst (IsRefused Passes text run) (sym is) (refused-shape Passes text run cause passes)

-- a refused run stops the call
pub stopped-refused : (runs : Buffer → Run) (text : Units) (run : luthgarn_run) (room needed : ℕ) (e : Refusal)
    → IsRefused (TextPasses runs (text_of_run text run)) text run e → IsStopped runs text run room needed e
stopped-refused runs text run room needed why.Memory is = tt
stopped-refused runs text run room needed why.Length is = is
stopped-refused runs text run room needed why.Font is = is
stopped-refused runs text run room needed why.Text is = is
stopped-refused runs text run room needed why.Run is = is
stopped-refused runs text run room needed why.Room is = absurd is

-- the same call
pub stopped-same : (runs others : Buffer → Run) (text : Units) (run other : luthgarn_run) (room left needed : ℕ) (e : Refusal)
    → runs ≡ others → run ≡ other → room ≡ left → IsStopped runs text run room needed e → IsStopped others text other left needed e
stopped-same runs others text run other room left needed e a b c is =
    subst (λ (r : Buffer → Run). IsStopped r text other left needed e) a
    (subst (λ (r : luthgarn_run). IsStopped runs text r left needed e) b
    (subst (λ (n : ℕ). IsStopped runs text run n needed e) c is))
