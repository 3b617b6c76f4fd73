-- The rows of what a walk notes of the runs that it emits.
use Rattle.std.proofs.Common.{◌≡◌, ℕ, ◌++◌, List, [], ◌∷◌, length, get_or, refl, sym, ap, ◌∙◌, arith}
use Rattle.std.specs.List.{flat_map}
use Rattle.shape_normalize.specs.RoundTwo.{moved_spans, all_moved_spans}
use Rattle.shape_normalize.specs.OneWalk.{runs_from}
use Rattle.shape_normalize.specs.Worked.OneWalk.{falling_then_mark, expanded_marks, NotedRuns, OneWalkWorked}
use Rattle.shape_normalize.proofs.RoundTwo.RunsLemmas.{runs-walked}

-- the spans of a list are those of the runs that a walk finds
all_spans : (cccs : List ℕ) → flat_map (moved_spans cccs) (runs_from 0 0 cccs) ≡ all_moved_spans cccs
all_spans cccs = ap (flat_map (moved_spans cccs)) (sym (runs-walked cccs))

noted_runs : NotedRuns
noted_runs = record {
  runs_on = refl;
  runs_at_end = refl;
  spans_by_place = refl;
  spans_in_order = refl;
  kept_32 = refl;
  not_kept_33 = refl;
  least = refl;
  least_of_none = refl;
  greatest = refl;
  greatest_of_none = refl;
  noted = record {
    kept = refl;
    spans = λ after. all_spans (falling_then_mark ++ after);
  };
  never_noted = λ is. let counts : 0 ≡ 1 = ap length (is.spans []) in absurd (omega (arith, counts));
  noted_twice = λ is. let counts : 2 ≡ 1 = ap length (is.spans []) in absurd (omega (arith, counts));
  begun_before_starter = λ is.
      let ends : 5 ≡ 3 = ap (λ (spans : List (ℕ × ℕ)). (get_or {A = ℕ × ℕ} spans 0 (0, 0)).1) (is.spans []) in
      absurd (omega (arith, ends));
  kept_past_starter = λ is. let counts : 3 ≡ 1 = ap length is.kept in absurd (omega (arith, counts));
  last_run_open = λ runs start end run noted. record {
    ordered = omega (arith, start, end);
    within = omega (arith, end);
    goes_on = λ at. rw (start, run, noted) record { kept = refl; spans = λ after. all_spans (0 ∷ 230 ∷ 220 ∷ after) };
    ended = λ before. absurd (omega (arith, before, end));
  };
  last_run_ended = λ runs start end run noted. record {
    ordered = omega (arith, start, end);
    within = omega (arith, end);
    goes_on = λ at. absurd (omega (arith, at, end));
    ended = λ before. rw (start, end, run, noted) record { kept = refl; spans = λ after. all_spans (0 ∷ 230 ∷ 220 ∷ 0 ∷ 0 ∷ after) };
  };
  -- whatever is noted, it can't be both what the list has and what it has with a mark of ccc 10 after it
  next_run_missed = λ runs start end is.
      let spans = (is.ended (omega (arith, end))).spans in
      let counts : 1 ≡ 2 = ap length (sym (spans []) ∙ spans (10 ∷ [])) in
      absurd (omega (arith, counts));
}

pub one_walk_worked : OneWalkWorked
one_walk_worked = record { expanded = expanded_marks; noted = noted_runs }
