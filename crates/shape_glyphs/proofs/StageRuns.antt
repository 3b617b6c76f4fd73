-- Runs of the stages of substitution.
use Rattle.std.proofs.Common.{◌≡◌, ℕ, ◌+◌, ◌-◌, ◌<◌, zero, suc, arith, subst, refl, false, [], ◌∷◌, ◌++◌}
use Rattle.shape_items.specs.Buffer.{Buffer}
use Rattle.shape_buffer.specs.Outcome.{Refused, step}
use Rattle.shape_buffer.specs.declared.buffer.error.ShapeError.{ShapeError}
use Rattle.shape_buffer.proofs.Steps.Runs.{Refused-before}
use Rattle.shape_plan.specs.Run.{Run}
use Rattle.shape_glyphs.specs.Substitution.{stage_steps, substitute_steps}

Refused-more : (run : Run) (k d : ℕ) (old : Buffer) (error : ShapeError) → Refused (stage_steps run k) old error
    → Refused (stage_steps run (k + d)) old error
Refused-more run k zero old error refused = let same : k + zero ≡ k = omega arith in rw same refused
Refused-more run k (suc d) old error refused =
    let more : k + suc d ≡ suc (k + d) = omega arith in rw more (Refused-before _ (Refused-more run k d old error refused))

-- a refusal at one stage is a refusal of the whole list of stages
pub Refused-stages : (run : Run) (i n : ℕ) {old : Buffer} {error : ShapeError} → i < n → Refused (stage_steps run (suc i)) old error
    → Refused (stage_steps run n) old error
Refused-stages run i n {old} {error} lt refused =
    let more : suc i + (n - suc i) ≡ n = omega arith in
    let P : ℕ → Type 0 = λ m. Refused (stage_steps run m) old error in
    subst P more (Refused-more run (suc i) (n - suc i) old error refused)

-- without `morx` these are the stages, and nothing is deleted
pub substitute_steps-stages : (run : Run) → run.decisions.apply_morx ≡ false
    → substitute_steps run ≡ stage_steps run run.map.stages ++ (step (λ b. b) ∷ [])
substitute_steps-stages run is = rw is refl
