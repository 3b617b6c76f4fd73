-- What is asked of a shaper's pauses: those that a run calls, and no other.
use Rattle.std.specs.Prelude.{◌≡◌, ℕ, ◌<◌, true, false, Some, None}
use Rattle.shape_items.specs.Buffer.{Buffer}
use Rattle.shape_buffer.specs.Preservation.{IsFlagPreserving}
use Rattle.shape_plan.specs.Preservation.{EachCalledPause}
use Rattle.shape_plan.specs.Run.{Run}
use Rattle.shape_plan.specs.Shaper.{HookMeaning}

-- what is asked of pauses if this holds of a run
abbrev pub AskedWhere : (Run → Type 0) → ((Buffer → Buffer) → Type 0) → HookMeaning → Type 0
AskedWhere Holds Preserves hooks = (run : Run) → Holds run → EachCalledPause Preserves run hooks

-- nothing if morx stands in the place of the stages, if there is no stage, or if no stage returns a number; if there
-- are two stages and the second answers 7, pause 7 is asked
pub record WorkedObligations (Preserves : (Buffer → Buffer) → Type 0) (hooks : HookMeaning) : Type 0 where
  pub under_morx : AskedWhere (λ run. run.decisions.apply_morx ≡ true) Preserves hooks
  pub without_stages : AskedWhere (λ run. run.map.stages ≡ 0) Preserves hooks
  pub unanswered : AskedWhere (λ run. (i : ℕ) → i < run.map.stages → run.map.pause_after i ≡ None) Preserves hooks
  pub past_stages : AskedWhere (λ run. (i : ℕ) → i < run.map.stages → (i ≡ 0) × (run.map.pause_after 0 ≡ None)) Preserves hooks
  pub answered : (run : Run) → run.decisions.apply_morx ≡ false → run.map.stages ≡ 2 → run.map.pause_after 1 ≡ Some 7
      → EachCalledPause Preserves run hooks → Preserves (hooks.pause 7)

-- so it is if they are asked to preserve flags, whatever they do
abbrev pub PausesAreAsked : Type 0
PausesAreAsked = (hooks : HookMeaning) → WorkedObligations IsFlagPreserving hooks
