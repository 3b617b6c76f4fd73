-- What is known of a run from its outcome, and normalising as a step.
use Rattle.std.proofs.Common.{◌≡◌, ◌≢◌, ◌≤◌, ◌&&◌, Bool, true, false, List, [], ◌∷◌, length, inl, refl, ap, sym, subst, ◌∙◌, arith, if◌then◌else◌, Result, Ok, Err}
use Rattle.std.specs.Prelude.{OnOk}
use Rattle.shape_items.specs.Buffer.{Buffer, limit_of, run_limit}
use Rattle.shape_buffer.specs.Guess.{guessed}
use Rattle.shape_items.specs.Items.{Item}
use Rattle.shape_common.specs.declared.text_types.Direction.{Direction}
use Rattle.shape_buffer.specs.Outcome.{Step, Ran, Refused, for_length, for_memory, RunOutcome, SomePast, run_steps}
use Rattle.shape_buffer.specs.declared.buffer.error.ShapeError.{ShapeError}
use Rattle.shape_buffer.specs.declared.buffer.error.ShapeError.TheVariants.{Memory, Length}
use Rattle.shape_buffer.proofs.Steps.Runs.{run_steps-append}
use Rattle.shape_normalize.specs.Normalized.{normalized, ordered}
use Rattle.shape_normalize.specs.RoundOne.{ExpandsPastLimit}
use Rattle.shape_normalize.specs.RoundThree.{round_three, absorbed_spans, recomposed_items}
use Rattle.shape_normalize.specs.RoundTwo.{has_mark_past_first}
use Rattle.shape_normalize.proofs.Hooks.ReorderLemmas.{LawfulReorder}
use Rattle.shape_normalize.proofs.RoundThree.RoundThreeLemmas.{limit-spans_merged_out}
use Rattle.shape_normalize.proofs.Normalized.SettingLemmas.{limit_of-ordered}
use Rattle.shape_plan.specs.Rules.{Rules}
use Rattle.shape_common.specs.Unicode.{LawfulUnicode}
use Rattle.shape_normalize.proofs.Normalized.PromiseLemmas.{NormalForm-normalized}
use Rattle.shape_normalize.specs.NormalForm.{Normalizes}
use Rattle.shape_pipeline.specs.Headline.{IsMadeOfNormalisedList, NormalForm, target_of}
use Rattle.shape_plan.specs.Run.{Run}
use Rattle.shape_prepare.specs.PrepareSteps.{prepare_steps}
use Rattle.shape_pipeline.specs.Shaped.{normalising, entered, finished, prepared, shaped_steps, all_steps, run_made, shaped, Prepares, Shapes}

-- a run that is refused for its length has a step that would pass the limit
pub refused-length : {steps : List Step} {b : Buffer} {error : ShapeError} → Refused steps b error → error ≡ Length → SomePast steps b
refused-length (for_length past) is = past
refused-length for_memory is = absurd (let e : Memory ≡ Length = is in cc)

limit-normalized : (rules : Rules) (lawful : LawfulReorder rules.reorder) (b : Buffer) → limit_of (normalized rules b) ≡ limit_of b
limit-normalized rules lawful b = by_test (has_mark_past_first b.items && rules.recomposes)
  where
    by_test : (test : Bool) → limit_of (if test then round_three rules (ordered rules b) else ordered rules b) ≡ limit_of b
    by_test true =
        limit-spans_merged_out (absorbed_spans (recomposed_items rules (ordered rules b).items)) (ordered rules b)
        ∙ limit_of-ordered rules lawful b
    by_test false = limit_of-ordered rules lawful b

-- what normalising promises makes it a step of a run
pub outcome-normalised : {T : Type 0} (rules : Rules) → LawfulReorder rules.reorder → (old new : Buffer) (result : Result T ShapeError)
    → OnOk result (Normalizes rules old new) → (result ≡ Err Length → ExpandsPastLimit rules old)
    → RunOutcome (normalising rules ∷ []) old new result
outcome-normalised rules lawful old new (Ok value) done past =
    let same : limit_of new ≡ limit_of old = ap limit_of done.made ∙ limit-normalized rules lawful old in
    record { made = done.made; each_within = (done.counted, tt); within = subst (λ n. length new.items ≤ n) (sym same) done.within; same_limit = same }
outcome-normalised rules lawful old new (Err Memory) done past = for_memory
outcome-normalised rules lawful old new (Err Length) done past = for_length (inl (past refl))

-- ---- what is made of a text, by whether it has items

text_from : (run : Run) (target : Direction) (b : Buffer) (items : List Item) → items ≢ []
    → prepared run target (entered b) ≡ (elim items [ [] ↦ b | _ ∷ _ ↦ prepared run target (entered b) ])
text_from run target b [] some = absurd (some refl)
text_from run target b (x ∷ xs) some = refl

run_from : (run : Run) (target : Direction) (b : Buffer) (items : List Item) → items ≢ []
    → finished target (run_steps (all_steps run target) (entered b))
    ≡ (elim items [ [] ↦ b | _ ∷ _ ↦ finished target (run_steps (all_steps run target) (entered b)) ])
run_from run target b [] some = absurd (some refl)
run_from run target b (x ∷ xs) some = refl

text_from-none : (run : Run) (target : Direction) (b : Buffer) (items : List Item) → items ≡ []
    → b ≡ (elim items [ [] ↦ b | _ ∷ _ ↦ prepared run target (entered b) ])
text_from-none run target b [] none = refl
text_from-none run target b (x ∷ xs) none = absurd (let e : x ∷ xs ≡ [] = none in cc)

run_from-none : (run : Run) (target : Direction) (b : Buffer) (items : List Item) → items ≡ []
    → b ≡ (elim items [ [] ↦ b | _ ∷ _ ↦ finished target (run_steps (all_steps run target) (entered b)) ])
run_from-none run target b [] none = refl
run_from-none run target b (x ∷ xs) none = absurd (let e : x ∷ xs ≡ [] = none in cc)

is_empty : {A : Type 0} (xs : List A) → length xs ≡ 0 → xs ≡ []
is_empty [] none = refl
is_empty (x ∷ xs) none = absurd (omega (arith, none))

has_some : {A : Type 0} (xs : List A) → ¬ (length xs ≡ 0) → xs ≢ []
has_some xs some none = some (ap length none)

-- nothing is done for an empty text
pub Prepares-none : (run : Run) (target : Direction) (b : Buffer) → length b.items ≡ 0 → Prepares run target b b
Prepares-none run target b none = record {
  made = text_from-none run target b b.items (is_empty b.items none);
  within = omega (arith, none);
  limit = λ some. absurd (some (is_empty b.items none));
  counted = λ some. absurd (some (is_empty b.items none));
}

pub Shapes-none : (run : Run) (target : Direction) (b : Buffer) → length b.items ≡ 0 → Shapes run target b b
Shapes-none run target b none = record {
  made = run_from-none run target b b.items (is_empty b.items none);
  within = omega (arith, none);
  counted = λ some. absurd (some (is_empty b.items none));
}

-- all steps are made for every other
pub Prepares-ran : (run : Run) (target : Direction) (b new : Buffer) → ¬ (length b.items ≡ 0)
    → Ran (prepare_steps run target) (entered b) new → Prepares run target b new
Prepares-ran run target b new some ran = record {
  made = ran.made ∙ text_from run target b b.items (has_some b.items some);
  within = subst (λ n. length new.items ≤ n) ran.same_limit ran.within;
  limit = λ _. ran.same_limit;
  counted = λ _. ran.each_within;
}

pub Shapes-some : (run : Run) (target : Direction) (b mid new : Buffer) → ¬ (length b.items ≡ 0)
    → Ran (all_steps run target) (entered b) mid → new ≡ finished target mid → Shapes run target b new
Shapes-some run target b mid new some ran finishes = record {
  made = finishes ∙ ap (finished target) ran.made ∙ run_from run target b b.items (has_some b.items some);
  within = subst (λ (c : Buffer). length c.items ≤ run_limit (length b.items)) (sym finishes)
      (subst (λ n. length mid.items ≤ n) ran.same_limit ran.within);
  counted = λ _. ran.each_within;
}

-- ---- what is made of the normalised list

pub prepared_text-cases : (P : Buffer → Type 0) (run : Run) (target : Direction) (b : Buffer) (items : List Item)
    → (items ≡ [] → P b) → P (prepared run target (entered b))
    → P (elim items [ [] ↦ b | _ ∷ _ ↦ prepared run target (entered b) ])
prepared_text-cases P run target b [] none some = none refl
prepared_text-cases P run target b (x ∷ xs) none some = some

-- a whole run is its preparing, normalising, and the steps after these
pub made_of_list : (run : Run) (text : Buffer) → IsMadeOfNormalisedList run text (shaped run text)
made_of_list run text some =
    let target = target_of run text in
    let begun = guessed run.unicode text in
    sym (run_from run target begun begun.items some)
    ∙ ap (finished target) (run_steps-append (prepare_steps run target) (normalising run.rules ∷ shaped_steps run) (entered begun))
    ∙ ap (λ (b : Buffer). finished target (run_steps (shaped_steps run) (normalized run.rules b)))
    (text_from run target begun begun.items some)

-- ---- what is handed out

direction_from : (run : Run) (target : Direction) (b : Buffer) → b.direction ≡ target → (items : List Item)
    → let made : Buffer =
    elim items [ [] ↦ b | _ ∷ _ ↦ finished target (run_steps (all_steps run target) (entered b)) ] in made.direction ≡ target
direction_from run target b is [] = is
direction_from run target b is (x ∷ xs) = refl

-- glyphs run in the direction of the text
pub direction-made : (run : Run) (target : Direction) (b : Buffer) → b.direction ≡ target → (run_made run target b).direction ≡ target
direction-made run target b is = direction_from run target b is b.items

-- the normalised list of any text has its form
pub normal_form : (rules : Rules) → LawfulReorder rules.reorder → LawfulUnicode rules.unicode → (b : Buffer)
    → NormalForm rules b (normalized rules b)
normal_form rules lawful unicode b = NormalForm-normalized rules lawful unicode b (normalized rules b) refl
