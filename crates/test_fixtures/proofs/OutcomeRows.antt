-- The rows of steps and limits.
use Rattle.std.proofs.Common.{◌≡◌, ◌≤◌, List, [], ◌∷◌, length, inl, inr, refl, ap, arith}
use Rattle.shape_items.specs.Buffer.{Buffer}
use Rattle.shape_buffer.specs.Outcome.{Step, EachWithin, SomePast, Refused}
use Rattle.shape_buffer.specs.Outcome.Refused.{for_length, for_memory}
use Rattle.shape_buffer.specs.declared.buffer.error.ShapeError.TheVariants.{Length}
use Rattle.test_fixtures.specs.Worked.Outcomes.{of_count, adds, doubles, keeps_one, frees, steps_in_order, StepsWithin, StepsPast, LengthsWithin, StepsMade, RunsMade, RunsRefused, ResultsOfRuns, WorkedOutcomes}

steps_within : StepsWithin
steps_within = record {
  no_steps = tt;
  up_to_the_limit = (omega arith, tt);
  one_more = λ within. let le : 4 ≤ 3 = within.0 in omega (arith, le);
  first_of_two = λ within. let le : 4 ≤ 3 = within.0 in omega (arith, le);
  second_of_two = λ within. let le : 4 ≤ 3 = within.1.0 in omega (arith, le);
  after_one_left = (omega arith, (omega arith, (omega arith, tt)));
  on_the_way = λ within. let le : 5 ≤ 3 = within.0 in omega (arith, le);
  limit_gone = (omega arith, (omega arith, (omega arith, tt)));
  limit_found = λ within. let le : 6 ≤ 3 = within.0 in omega (arith, le);
}

-- if each step is within its limit, none is past it
not_past : (steps : List Step) (b : Buffer) → EachWithin steps b → SomePast steps b → ⊥
not_past [] b within past = past
not_past (one ∷ steps) b within (inl past) = let le = within.0 in omega (arith, le, past)
not_past (one ∷ steps) b within (inr later) = not_past steps (one.makes b) within.1 later

steps_past : StepsPast
steps_past = record {
  no_steps = λ past. past;
  up_to_the_limit = not_past (adds ∷ []) (of_count 2) steps_within.up_to_the_limit;
  one_more = inl (omega arith);
  first_of_two = inl (omega arith);
  second_of_two = inr (inl (omega arith));
  after_one_left = not_past (keeps_one ∷ doubles ∷ adds ∷ []) (of_count 3) steps_within.after_one_left;
  on_the_way = inl (omega arith);
  limit_gone = not_past (frees ∷ doubles ∷ doubles ∷ []) (of_count 3) steps_within.limit_gone;
}

lengths_within : LengthsWithin
lengths_within = record { at_the_limit = omega arith; past_the_limit = λ within. let le : 4 ≤ 3 = within in omega (arith, le) }

steps_made : StepsMade
steps_made = record {
  made = record { made = refl; no_longer = omega arith; same_limit = refl };
  other_list = λ is. let e : 2 ≡ 1 = ap (λ (b : Buffer). length b.items) is.made in omega (arith, e);
  other_limit = λ is. let e : 4 ≡ 3 = is.same_limit in omega (arith, e);
  longer = λ is. let le : 4 ≤ 2 = is.no_longer in omega (arith, le);
  another_limit = λ is. let e : 100 ≡ 3 = is.same_limit in omega (arith, e);
}

runs_made : RunsMade
runs_made = record {
  no_steps = record { made = refl; each_within = tt; within = omega arith; same_limit = refl };
  two_steps = record { made = refl; each_within = (omega arith, (omega arith, tt)); within = omega arith; same_limit = refl };
  other_list = λ ran. let e : 1 ≡ 2 = ap (λ (b : Buffer). length b.items) ran.made in omega (arith, e);
  past_on_the_way = λ ran. let le : 4 ≤ 3 = ran.each_within.0 in omega (arith, le);
  no_steps_past_the_limit = λ ran. let le : 4 ≤ 3 = ran.within in omega (arith, le);
  another_limit = λ ran. let e : 100 ≡ 3 = ran.same_limit in omega (arith, e);
}

-- of a run that was refused for its length some step is past its limit
past_of : (steps : List Step) (b : Buffer) → Refused steps b Length → SomePast steps b
past_of steps b (for_length past) = past

runs_refused : RunsRefused
runs_refused = record {
  for_memory = for_memory;
  for_length = for_length steps_past.one_more;
  not_for_length = λ refused. steps_past.up_to_the_limit (past_of (adds ∷ []) (of_count 2) refused);
  for_no_length = λ refused. past_of [] (of_count 9) refused;
}

results_of_runs : ResultsOfRuns
results_of_runs = record {
  made = runs_made.two_steps;
  not_made = runs_made.other_list;
  refused = λ new. for_length steps_past.second_of_two;
  not_refused = λ new. runs_refused.not_for_length;
  one_made = record { made = refl; each_within = (omega arith, tt); within = omega arith; same_limit = refl };
  one_not_made = λ ran. let e : 2 ≡ 3 = ap (λ (b : Buffer). length b.items) ran.made in omega (arith, e);
  one_refused = λ new. for_length steps_past.one_more;
  one_not_refused = λ new. runs_refused.not_for_length;
}

pub worked_outcomes : WorkedOutcomes
worked_outcomes = record {
  in_order = steps_in_order;
  within = steps_within;
  past = steps_past;
  lengths = lengths_within;
  made = steps_made;
  runs = runs_made;
  refused = runs_refused;
  results = results_of_runs;
}
