-- Texts whose marks come from expansions, computed on small cases whose answers are worked out by hand.
use Rattle.std.specs.Prelude.{◌≡◌, ℕ, ◌==◌, true, false, if◌then◌else◌, List, [], ◌∷◌, ◌++◌, map, flat_map, replicate, Some, refl}
use Rattle.shape_items.specs.Clusters.{merge}
use Rattle.shape_items.specs.Items.{char_of}
use Rattle.shape_plan.specs.Rules.{Rules}
use Rattle.shape_normalize.specs.Normalized.{normalized}
use Rattle.shape_normalize.specs.RoundOne.{round_one}
use Rattle.shape_normalize.specs.RoundTwo.{spans_of_run, run_settled}
use Rattle.shape_normalize.specs.OneWalk.{runs_from, least_of, greatest_of, IsFollowed, kept_spans, FollowsRuns}
use Rattle.shape_normalize.specs.declared.ot_shape_normalize.runs.FollowedRuns.{FollowedRuns}
use Rattle.shape_normalize.specs.Worked.Fixture.{fixture_split, fixture_height, rules_in, item, buffer_of}

-- what the characters of a text become in round one, and in all
abbrev pub expanded_chars : Rules → List ℕ → List ℕ
expanded_chars rules text = map char_of (round_one rules (buffer_of (map (λ c. item c 0) text))).items

abbrev pub normalized_chars : Rules → List ℕ → List ℕ
normalized_chars rules text = map char_of (normalized rules (buffer_of (map (λ c. item c 0) text))).items

-- mode DECOMPOSED, in which U+0062 splits into two marks out of order
abbrev pub falling_rules : Rules
falling_rules =
    let plain : Rules = rules_in 1 (0x61 ∷ 0x301 ∷ 0x323 ∷ []) in
    record plain {
      split = λ c. if c == 0x62 then Some (0x301, 0x323) else fixture_split c;
      height = λ c. if c == 0x62 then 1 else fixture_height c;
    }

-- so many U+0344, and what they become
abbrev pub pairs : ℕ → List ℕ
pairs n = replicate n 0x344

abbrev pub split_pairs : ℕ → List ℕ
split_pairs n = flat_map (λ c. 0x308 ∷ 0x301 ∷ []) (pairs n)

pub record ExpandedMarks : Type 0 where
  -- a mark that is the first item stands by itself, unless one follows it; any other stands with marks
  pub first_item_a_mark : expanded_chars (rules_in 2 (0x344 ∷ 0x308 ∷ 0x301 ∷ 0x61 ∷ [])) (0x344 ∷ 0x61 ∷ []) ≡ 0x344 ∷ 0x61 ∷ []
  pub first_of_two_marks : expanded_chars (rules_in 2 (0x344 ∷ 0x308 ∷ 0x301 ∷ 0x61 ∷ [])) (0x344 ∷ 0x301 ∷ [])
      ≡ 0x308 ∷ 0x301 ∷ 0x301 ∷ []
  pub later_mark : expanded_chars (rules_in 2 (0x344 ∷ 0x308 ∷ 0x301 ∷ 0x61 ∷ [])) (0x61 ∷ 0x344 ∷ 0x61 ∷ [])
      ≡ 0x61 ∷ 0x308 ∷ 0x301 ∷ 0x61 ∷ []
  -- a mark as first item that expands begins a run, which a later mark goes on
  pub first_mark_expands : normalized_chars (rules_in 1 (0x61 ∷ 0x308 ∷ 0x301 ∷ 0x323 ∷ [])) (0x344 ∷ 0x323 ∷ 0x61 ∷ [])
      ≡ 0x323 ∷ 0x308 ∷ 0x301 ∷ 0x61 ∷ []
  -- runs by what is emitted: 32 marks are put in order, and 33 stay
  pub run_of_32 : normalized_chars (rules_in 1 (0x61 ∷ 0x308 ∷ 0x301 ∷ [])) (0x61 ∷ pairs 16) ≡ 0x61 ∷ split_pairs 16
  pub run_of_33 : normalized_chars (rules_in 1 (0x61 ∷ 0x308 ∷ 0x301 ∷ 0x323 ∷ [])) (0x61 ∷ (pairs 16 ++ 0x323 ∷ []))
      ≡ 0x61 ∷ (split_pairs 16 ++ 0x323 ∷ [])
  pub run_of_31 : normalized_chars (rules_in 1 (0x61 ∷ 0x308 ∷ 0x301 ∷ 0x323 ∷ [])) (0x61 ∷ (pairs 15 ++ 0x323 ∷ []))
      ≡ 0x61 ∷ 0x323 ∷ split_pairs 15
  -- the first run is put in order if a mark stands past the first item, however late
  pub no_mark_past_first : normalized_chars falling_rules (0x62 ∷ 0x61 ∷ 0x61 ∷ []) ≡ 0x301 ∷ 0x323 ∷ 0x61 ∷ 0x61 ∷ []
  pub mark_comes_late : normalized_chars falling_rules (0x62 ∷ 0x61 ∷ 0x61 ∷ 0x301 ∷ []) ≡ 0x323 ∷ 0x301 ∷ 0x61 ∷ 0x61 ∷ 0x301 ∷ []

pub expanded_marks : ExpandedMarks
unfolding run_settled merge
expanded_marks = record {
  first_item_a_mark = refl;
  first_of_two_marks = refl;
  later_mark = refl;
  first_mark_expands = refl;
  run_of_32 = refl;
  run_of_33 = refl;
  run_of_31 = refl;
  no_mark_past_first = refl;
  mark_comes_late = refl;
}

-- two marks that fall, and a mark after the next starter
abbrev pub falling_then_mark : List ℕ
falling_then_mark = 0 ∷ 230 ∷ 220 ∷ 0 ∷ 12 ∷ []

-- what a walk notes by the ccc of what it emits
pub record NotedRuns : Type 0 where
  pub runs_on : runs_from 1 3 (220 ∷ 0 ∷ 230 ∷ []) ≡ (1, 4) ∷ (5, 6) ∷ []
  pub runs_at_end : runs_from 2 4 [] ≡ (2, 4) ∷ []
  pub spans_by_place : spans_of_run 4 (12 ∷ 10 ∷ 230 ∷ 220 ∷ 240 ∷ []) ≡ (4, 6) ∷ (6, 8) ∷ []
  pub spans_in_order : spans_of_run 4 (10 ∷ 230 ∷ 230 ∷ []) ≡ []
  pub kept_32 : kept_spans 1 33 (230 ∷ replicate 31 220) ≡ (1, 33) ∷ []
  pub not_kept_33 : kept_spans 1 34 (230 ∷ replicate 31 220) ≡ []
  pub least : least_of (230 ∷ 10 ∷ 220 ∷ []) ≡ 10
  pub least_of_none : least_of [] ≡ 255
  pub greatest : greatest_of (10 ∷ 230 ∷ 220 ∷ []) ≡ 230
  pub greatest_of_none : greatest_of [] ≡ 0
  -- the open run is the last, and the span of the one before it is noted: neither earlier nor never
  pub noted : IsFollowed falling_then_mark 4 (12 ∷ []) ((1, 3) ∷ [])
  pub never_noted : IsFollowed falling_then_mark 4 (12 ∷ []) [] → false ≡ true
  pub noted_twice : IsFollowed falling_then_mark 4 (12 ∷ []) ((1, 3) ∷ (1, 3) ∷ []) → false ≡ true
  pub begun_before_starter : IsFollowed falling_then_mark 1 (230 ∷ 220 ∷ 0 ∷ 12 ∷ []) [] → false ≡ true
  pub kept_past_starter : IsFollowed falling_then_mark 4 (230 ∷ 220 ∷ 12 ∷ []) ((1, 3) ∷ []) → false ≡ true
  -- the last run that isn't empty, open and ended
  pub last_run_open : (runs : FollowedRuns) → runs.start ≡ 1 → runs.end ≡ 3 → runs.run ≡ 230 ∷ 220 ∷ [] → runs.spans.items ≡ []
      → FollowsRuns (0 ∷ 230 ∷ 220 ∷ []) runs
  pub last_run_ended : (runs : FollowedRuns) → runs.start ≡ 1 → runs.end ≡ 3 → runs.run ≡ 230 ∷ 220 ∷ [] → runs.spans.items ≡ []
      → FollowsRuns (0 ∷ 230 ∷ 220 ∷ 0 ∷ 0 ∷ []) runs
  pub next_run_missed : (runs : FollowedRuns) → runs.start ≡ 1 → runs.end ≡ 3 → FollowsRuns falling_then_mark runs → false ≡ true

pub record OneWalkWorked : Type 0 where
  pub expanded : ExpandedMarks
  pub noted : NotedRuns
