-- When steps pass a limit, and what is known of a run that was made or refused, worked by hand.
use Rattle.std.specs.Prelude.{◌≡◌, ◌++◌, ℕ, List, [], ◌∷◌, map, replicate, Result, Ok, Err, Some, refl}
use Rattle.shape_items.specs.Buffer.{Buffer, new_buffer}
use Rattle.shape_items.specs.Items.{new_item}
use Rattle.shape_buffer.specs.Outcome.{Step, step, run_steps, IsWithinLimit, EachWithin, SomePast, Made, Ran, Refused, RunOutcome, Outcome}
use Rattle.shape_buffer.specs.declared.buffer.error.ShapeError.{ShapeError}
use Rattle.shape_buffer.specs.declared.buffer.error.ShapeError.TheVariants.{Memory, Length}

-- so many items, of which a buffer takes three
abbrev pub of_count : ℕ → Buffer
of_count count = record new_buffer { items = replicate count (new_item 0x61 0); length_limit = Some 3 }

-- one item more, all of them twice, and one left
abbrev pub adds : Step
adds = step (λ b. record b { items = new_item 0x61 0 ∷ b.items })

abbrev pub doubles : Step
doubles = step (λ b. record b { items = b.items ++ b.items })

abbrev pub keeps_one : Step
keeps_one = step (λ b. record b { items = new_item 0x61 0 ∷ [] })

-- a step that leaves one item, and has a list of five on the way
abbrev pub narrows : Step
narrows = record keeps_one { counts = λ b. 5 }

-- a step that takes the limit away
abbrev pub frees : Step
frees = step (λ b. record b { length_limit = Some 100 })

-- a list of steps goes past no limit, or past some, from so many items
abbrev pub Within : List Step → ℕ → Type 0
Within steps count = EachWithin steps (of_count count)

abbrev pub Past : List Step → ℕ → Type 0
Past steps count = SomePast steps (of_count count)

pub record StepsInOrder : Type 0 where
  pub none : run_steps [] (of_count 2) ≡ of_count 2
  pub added_then_doubled : run_steps (adds ∷ doubles ∷ []) (of_count 1) ≡ of_count 4
  pub doubled_then_added : run_steps (doubles ∷ adds ∷ []) (of_count 1) ≡ of_count 3
  pub counted : map (λ (one : Step). one.counts (of_count 2)) (adds ∷ doubles ∷ keeps_one ∷ narrows ∷ []) ≡ 3 ∷ 4 ∷ 1 ∷ 5 ∷ []

pub steps_in_order : StepsInOrder
steps_in_order = record { none = refl; added_then_doubled = refl; doubled_then_added = refl; counted = refl }

pub record StepsWithin : Type 0 where
  pub no_steps : Within [] 9
  pub up_to_the_limit : Within (adds ∷ []) 2
  pub one_more : Within (adds ∷ []) 3 → ⊥
  pub first_of_two : Within (doubles ∷ keeps_one ∷ []) 2 → ⊥
  pub second_of_two : Within (adds ∷ adds ∷ []) 2 → ⊥
  pub after_one_left : Within (keeps_one ∷ doubles ∷ adds ∷ []) 3
  pub on_the_way : Within (narrows ∷ []) 1 → ⊥
  -- each step by the limit that it finds
  pub limit_gone : Within (frees ∷ doubles ∷ doubles ∷ []) 3
  pub limit_found : Within (doubles ∷ frees ∷ []) 3 → ⊥

pub record StepsPast : Type 0 where
  pub no_steps : Past [] 9 → ⊥
  pub up_to_the_limit : Past (adds ∷ []) 2 → ⊥
  pub one_more : Past (adds ∷ []) 3
  pub first_of_two : Past (doubles ∷ keeps_one ∷ []) 2
  pub second_of_two : Past (adds ∷ adds ∷ []) 2
  pub after_one_left : Past (keeps_one ∷ doubles ∷ adds ∷ []) 3 → ⊥
  pub on_the_way : Past (narrows ∷ []) 1
  pub limit_gone : Past (frees ∷ doubles ∷ doubles ∷ []) 3 → ⊥

pub record LengthsWithin : Type 0 where
  pub at_the_limit : IsWithinLimit (of_count 3)
  pub past_the_limit : IsWithinLimit (of_count 4) → ⊥

-- what is known of a step that is never refused
abbrev pub IsMade : Buffer → Type 0
IsMade new = Made keeps_one.makes (of_count 2) new

pub record StepsMade : Type 0 where
  pub made : IsMade (of_count 1)
  pub other_list : IsMade (of_count 2) → ⊥
  pub other_limit : IsMade (record (of_count 1) { length_limit = Some 4 }) → ⊥
  pub longer : Made doubles.makes (of_count 2) (of_count 4) → ⊥
  pub another_limit : Made frees.makes (of_count 2) (frees.makes (of_count 2)) → ⊥

-- what is known of steps that were all made
abbrev pub HasRun : List Step → ℕ → ℕ → Type 0
HasRun steps before after = Ran steps (of_count before) (of_count after)

pub record RunsMade : Type 0 where
  pub no_steps : HasRun [] 2 2
  pub two_steps : HasRun (keeps_one ∷ doubles ∷ []) 3 2
  pub other_list : HasRun (keeps_one ∷ doubles ∷ []) 3 1 → ⊥
  pub past_on_the_way : HasRun (doubles ∷ keeps_one ∷ []) 2 1 → ⊥
  pub no_steps_past_the_limit : HasRun [] 4 4 → ⊥
  pub another_limit : Ran (frees ∷ []) (of_count 2) (frees.makes (of_count 2)) → ⊥

pub record RunsRefused : Type 0 where
  pub for_memory : Refused [] (of_count 2) Memory
  pub for_length : Refused (adds ∷ []) (of_count 3) Length
  pub not_for_length : Refused (adds ∷ []) (of_count 2) Length → ⊥
  pub for_no_length : Refused [] (of_count 9) Length → ⊥

-- a result of a list of steps, or of one
abbrev pub Came : List Step → ℕ → Buffer → Result ℕ ShapeError → Type 0
Came steps before new result = RunOutcome steps (of_count before) new result

abbrev pub OneCame : Step → ℕ → Buffer → Result ℕ ShapeError → Type 0
OneCame one before new result = Outcome one (of_count before) new result

pub record ResultsOfRuns : Type 0 where
  pub made : Came (keeps_one ∷ doubles ∷ []) 3 (of_count 2) (Ok 7)
  pub not_made : Came (keeps_one ∷ doubles ∷ []) 3 (of_count 1) (Ok 7) → ⊥
  -- whatever the buffer is then
  pub refused : (new : Buffer) → Came (adds ∷ adds ∷ []) 2 new (Err Length)
  pub not_refused : (new : Buffer) → Came (adds ∷ []) 2 new (Err Length) → ⊥
  pub one_made : OneCame adds 2 (of_count 3) (Ok 7)
  pub one_not_made : OneCame adds 2 (of_count 2) (Ok 7) → ⊥
  pub one_refused : (new : Buffer) → OneCame adds 3 new (Err Length)
  pub one_not_refused : (new : Buffer) → OneCame adds 2 new (Err Length) → ⊥

pub record WorkedOutcomes : Type 0 where
  pub in_order : StepsInOrder
  pub within : StepsWithin
  pub past : StepsPast
  pub lengths : LengthsWithin
  pub made : StepsMade
  pub runs : RunsMade
  pub refused : RunsRefused
  pub results : ResultsOfRuns
