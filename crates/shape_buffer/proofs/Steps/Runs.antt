-- Runs of steps one after another.
use Rattle.std.proofs.Common.{◌≡◌, ◌≤◌, List, [], ◌∷◌, ◌++◌, length, Result, Ok, Err, refl, ap, ◌∙◌, inl, inr, arith}
use Rattle.std.proofs.Common.{subst, sym}
use Rattle.shape_items.specs.Buffer.{Buffer, limit_of}
use Rattle.shape_buffer.specs.declared.buffer.error.ShapeError.{ShapeError}
use Rattle.shape_buffer.specs.Outcome.{Step, step as plain_step, IsWithinLimit, Made, run_steps, EachWithin, SomePast, Ran, Refused, for_length, for_memory, RunOutcome}

pub run_steps-append : (steps more : List Step) (b : Buffer) → run_steps (steps ++ more) b ≡ run_steps more (run_steps steps b)
run_steps-append [] more b = refl
run_steps-append (step ∷ steps) more b = run_steps-append steps more (step.makes b)

pub EachWithin-append : (steps more : List Step) (b : Buffer) → EachWithin steps b → EachWithin more (run_steps steps b)
    → EachWithin (steps ++ more) b
EachWithin-append [] more b first second = second
EachWithin-append (step ∷ steps) more b first second = (first.0, EachWithin-append steps more (step.makes b) first.1 second)

pub SomePast-append_left : (steps more : List Step) (b : Buffer) → SomePast steps b → SomePast (steps ++ more) b
SomePast-append_left [] more b past = absurd past
SomePast-append_left (step ∷ steps) more b past =
    elim past [ inl here ↦ inl here | inr later ↦ inr (SomePast-append_left steps more (step.makes b) later) ]

pub SomePast-append_right : (steps more : List Step) (b : Buffer) → SomePast more (run_steps steps b) → SomePast (steps ++ more) b
SomePast-append_right [] more b past = past
SomePast-append_right (step ∷ steps) more b past = inr (SomePast-append_right steps more (step.makes b) past)

pub Ran-then : {steps more : List Step} {old mid new : Buffer} → Ran steps old mid → Ran more mid new → Ran (steps ++ more) old new
Ran-then {steps} {more} {old} {mid} {new} first second = record {
  made = second.made ∙ ap (run_steps more) first.made ∙ sym (run_steps-append steps more old);
  each_within = EachWithin-append steps more old first.each_within
      (let P : Buffer → Type 0 = λ b. EachWithin more b in subst P first.made second.each_within);
  within = second.within;
  same_limit = second.same_limit ∙ first.same_limit;
}

pub Ran-made : {f : Buffer → Buffer} {old new : Buffer} → IsWithinLimit old → Made f old new → Ran (plain_step f ∷ []) old new
Ran-made {f} {old} {new} within made = record {
  made = made.made;
  each_within = (
    let fits : length new.items ≤ limit_of old = omega (arith, made.no_longer) in let P : Buffer
        → Type 0 = λ b. length b.items ≤ limit_of old in subst P made.made fits,
    tt,
  );
  within = omega (arith, made.no_longer, made.same_limit);
  same_limit = made.same_limit;
}

pub Refused-before : {steps : List Step} (more : List Step) {old : Buffer} {error : ShapeError} → Refused steps old error
    → Refused (steps ++ more) old error
Refused-before {steps} more {old} (for_length past) = for_length (SomePast-append_left steps more old past)
Refused-before {steps} more {old} for_memory = for_memory

pub Refused-after : {steps more : List Step} {old mid : Buffer} {error : ShapeError} → Ran steps old mid → Refused more mid error
    → Refused (steps ++ more) old error
Refused-after {steps} {more} {old} {mid} first (for_length past) =
    for_length (SomePast-append_right steps more old (let P : Buffer → Type 0 = λ b. SomePast more b in subst P first.made past))
Refused-after {steps} {more} {old} {mid} first for_memory = for_memory

pub RunOutcome-then : {T : Type 0} {steps : List Step} (more : List Step) {old mid : Buffer} (new : Buffer) (result : Result T ShapeError)
    → Ran steps old mid → RunOutcome more mid new result → RunOutcome (steps ++ more) old new result
RunOutcome-then more new (Ok _) first second = Ran-then first second
RunOutcome-then more new (Err _) first second = Refused-after first second

-- forms for `search`, a step at a time
pub Ran-first_made : {f : Buffer → Buffer} {more : List Step} {old mid new : Buffer} → Made f old mid → IsWithinLimit old → Ran more mid new
    → Ran (plain_step f ∷ more) old new
Ran-first_made made within second = Ran-then (Ran-made within made) second

pub Ran-first : {step : Step} {more : List Step} {old mid new : Buffer} → Ran (step ∷ []) old mid → Ran more mid new
    → Ran (step ∷ more) old new
Ran-first first second = Ran-then first second

pub Refused-first_made : {f : Buffer → Buffer} {more : List Step} {old mid : Buffer} {error : ShapeError} → Made f old mid
    → IsWithinLimit old → Refused more mid error → Refused (plain_step f ∷ more) old error
Refused-first_made made within second = Refused-after (Ran-made within made) second

pub Refused-first_ran : {step : Step} {more : List Step} {old mid : Buffer} {error : ShapeError} → Ran (step ∷ []) old mid
    → Refused more mid error → Refused (step ∷ more) old error
Refused-first_ran first second = Refused-after first second

pub Refused-here : {step : Step} {more : List Step} {old : Buffer} {error : ShapeError} → Refused (step ∷ []) old error
    → Refused (step ∷ more) old error
Refused-here {more = more} refused = Refused-before more refused

pub ruleset runs = (Ran-first_made, Ran-first, Ran-made, Refused-first_made, Refused-first_ran, Refused-here)
