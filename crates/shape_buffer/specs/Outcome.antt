-- Runs of steps, and when they are refused.
use Rattle.std.specs.Prelude.{◌≡◌, ℕ, ◌<◌, ◌≤◌, ◌⊎◌, List, [], ◌∷◌, length, Result, Ok, Err}
use Rattle.shape_items.specs.Buffer.{Buffer, limit_of}
use Rattle.shape_buffer.specs.declared.buffer.error.ShapeError.{ShapeError}
use Rattle.shape_buffer.specs.declared.buffer.error.ShapeError.TheVariants.{Memory, Length}

-- a step of a run: what it makes of a buffer, and how long the longest list is that it makes on the way
pub record Step : Type 0 where
  pub makes : Buffer → Buffer
  pub counts : Buffer → ℕ

-- a step whose longest list is the one that it leaves
abbrev pub step : (Buffer → Buffer) → Step
step f = record { makes = f; counts = λ b. length (f b).items }

abbrev pub IsWithinLimit : Buffer → Type 0
IsWithinLimit b = length b.items ≤ limit_of b

-- the steps of a list, in this order
abbrev pub run_steps : List Step → Buffer → Buffer
run_steps [] b = b
run_steps (step ∷ steps) b = run_steps steps (step.makes b)

-- no step makes a list past the limit of the buffer that it is handed
abbrev pub EachWithin : List Step → Buffer → Type 0
EachWithin [] b = Unit {0}
EachWithin (step ∷ steps) b = (step.counts b ≤ limit_of b) × EachWithin steps (step.makes b)

-- some step would
abbrev pub SomePast : List Step → Buffer → Type 0
SomePast [] b = ⊥
SomePast (step ∷ steps) b = (limit_of b < step.counts b) ⊎ SomePast steps (step.makes b)

-- a step that is never refused was made: the list is no longer than before, and the limit stays
pub record Made (f : Buffer → Buffer) (old new : Buffer) : Type 0 where
  pub made : new ≡ f old
  pub no_longer : length new.items ≤ length old.items
  pub same_limit : limit_of new ≡ limit_of old

-- all steps were made, and none made a list past the limit
pub record Ran (steps : List Step) (old new : Buffer) : Type 0 where
  pub made : new ≡ run_steps steps old
  pub each_within : EachWithin steps old
  pub within : IsWithinLimit new
  pub same_limit : limit_of new ≡ limit_of old

-- a run was refused: for its length only if some step would make a list past the limit
pub data Refused (steps : List Step) (old : Buffer) : ShapeError → Type 0 where
  for_length : SomePast steps old → Refused steps old Length
  for_memory : Refused steps old Memory

-- a run of steps of which some may be refused
abbrev pub RunOutcome : {T : Type 0} → List Step → Buffer → Buffer → Result T ShapeError → Type 0
RunOutcome steps old new (Ok _) = Ran steps old new
RunOutcome steps old new (Err error) = Refused steps old error

-- one step that may be refused
abbrev pub Outcome : {T : Type 0} → Step → Buffer → Buffer → Result T ShapeError → Type 0
Outcome step old new result = RunOutcome (step ∷ []) old new result
