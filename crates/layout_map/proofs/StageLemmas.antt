-- The slice of a stage is what was appended for it, whatever comes after it.
use Rattle.std.proofs.Common.{◌≡◌, ℕ, zero, suc, ◌+◌, ◌-◌, ◌<◌, ◌≤◌, false, List, [], ◌∷◌, ◌++◌, Option, Some, None, length, drop, fold, refl, ap, sym, ◌∙◌, ⊎_elim, arith, length-append}
use Rattle.std.specs.Prelude.{min, nat_eq, slice_get, slice_range, if◌then◌else◌}
use Rattle.std.specs.Option.{option_map_or}
use Rattle.std.proofs.lemmas.List.{take-append-le, drop_at, length_push}
use Rattle.std.proofs.lemmas.Slice.{between_is, between_to_end, between_from_start}
use Rattle.std.proofs.lemmas.Option.{slice_get_past}
use Rattle.std.proofs.lemmas.Bool.{cases_lt, ne_eqb}
use Rattle.layout_map.specs.Chosen.{Chosen}
use Rattle.layout_map.specs.Lookups.{gsub_lookups}
use Rattle.layout_map.specs.Stages.{Staged, no_stages, with_stage, staged, end_of, start_of, lookups_of}
use Rattle.layout_map.specs.declared.features.FeatureMap.{FeatureMap}
use Rattle.layout_map.specs.declared.lookups.LookupMap.{LookupMap}
use Rattle.layout_map.specs.declared.stages.StageMap.{StageMap}

get_before : (xs : List StageMap) (x : StageMap) (i : ℕ) → i < length xs → slice_get (xs ++ x ∷ []) i ≡ slice_get xs i
get_before [] x i less = absurd (omega (arith, less))
get_before (y ∷ xs) x zero less = refl
get_before (y ∷ xs) x (suc i) less = get_before xs x i (omega (arith, less))

get_last : (xs : List StageMap) (x : StageMap) → slice_get (xs ++ x ∷ []) (length xs) ≡ Some x
get_last [] x = refl
get_last (y ∷ xs) x = get_last xs x

range_before : (xs ys : List LookupMap) (a b : ℕ) → b ≤ length xs → slice_range (xs ++ ys) a b ≡ slice_range xs a b
range_before xs ys a b less = between_is (xs ++ ys) a b ∙ ap (drop a) (take-append-le b xs ys less) ∙ sym (between_is xs a b)

range_last : (xs ys : List LookupMap) → slice_range (xs ++ ys) (length xs) (length (xs ++ ys)) ≡ ys
range_last xs ys = between_to_end (xs ++ ys) (length xs) (length (xs ++ ys)) (omega arith) ∙ drop_at xs ys (length xs) refl

-- where the list ends that a stage was given, and where the stage before `i` ends
abbrev given_end : Staged → ℕ → ℕ
given_end s i = option_map_or (λ (stage : StageMap). stage.end) (slice_get s.stages i) 0

abbrev end_before : Staged → ℕ → ℕ
end_before s i = if nat_eq i 0 then 0 else end_of s (i - 1)

-- each stage so far has its own lookups, and the last one ends where the list does
record Own (lookups : ℕ → List LookupMap) (s : Staged) : Type 0 where
  within : (i : ℕ) → given_end s i ≤ length s.lookups
  last : end_before s (length s.stages) ≡ length s.lookups
  own : (i : ℕ) → i < length s.stages → lookups_of s i ≡ lookups i

abbrev one_more : Staged → List LookupMap → Option ℕ → Staged
one_more s new pause = record {
  lookups = s.lookups ++ new;
  stages = s.stages ++ (record { end = length (s.lookups ++ new); pause = pause }) ∷ [];
}

end_stays : (s : Staged) (new : List LookupMap) (pause : Option ℕ) (i : ℕ) → given_end s i ≤ length s.lookups → i < length s.stages
    → end_of (one_more s new pause) i ≡ end_of s i
end_stays s new pause i within less =
    let st : StageMap = record { end = length (s.lookups ++ new); pause = pause } in
    let e : given_end (one_more s new pause) i ≡ given_end s i =
    ap (λ o. option_map_or (λ (stage : StageMap). stage.end) o 0) (get_before s.stages st i less) in
    let n : length (s.lookups ++ new) ≡ length s.lookups + length new = length-append s.lookups new in
    omega (arith, e, n, within)

end_is_new : (s : Staged) (new : List LookupMap) (pause : Option ℕ)
    → end_of (one_more s new pause) (length s.stages) ≡ length (s.lookups ++ new)
end_is_new s new pause =
    let st : StageMap = record { end = length (s.lookups ++ new); pause = pause } in
    let e : given_end (one_more s new pause) (length s.stages) ≡ length (s.lookups ++ new) =
    ap (λ o. option_map_or (λ (stage : StageMap). stage.end) o 0) (get_last s.stages st) in
    omega (arith, e)

before_stays : (s : Staged) (new : List LookupMap) (pause : Option ℕ) (i : ℕ) → ((j : ℕ) → given_end s j ≤ length s.lookups)
    → i ≤ length s.stages → end_before (one_more s new pause) i ≡ end_before s i
before_stays s new pause zero within less = refl
before_stays s new pause (suc i) within less =
    let next : Staged = one_more s new pause in
    let f : nat_eq (suc i) 0 ≡ false = ne_eqb (suc i) 0 (λ e. omega (arith, e)) in
    let e : end_of next (suc i - 1) ≡ end_of s (suc i - 1) =
    end_stays s new pause (suc i - 1) (within (suc i - 1)) (omega (arith, less)) in
    ap (λ t. if t then 0 else end_of next (suc i - 1)) f ∙ e ∙ sym (ap (λ t. if t then 0 else end_of s (suc i - 1)) f)

within_more : (s : Staged) (new : List LookupMap) (pause : Option ℕ) → ((j : ℕ) → given_end s j ≤ length s.lookups)
    → (i : ℕ) → given_end (one_more s new pause) i ≤ length (s.lookups ++ new)
within_more s new pause within i =
    let st : StageMap = record { end = length (s.lookups ++ new); pause = pause } in
    let given : Option StageMap → ℕ = λ o. option_map_or (λ (stage : StageMap). stage.end) o 0 in
    let n : length (s.lookups ++ new) ≡ length s.lookups + length new = length-append s.lookups new in
    let m : length (s.stages ++ st ∷ []) ≡ length s.stages + 1 = length_push s.stages st in
    ⊎_elim
    (λ less. let e : given_end (one_more s new pause) i ≡ given_end s i = ap given (get_before s.stages st i less) in
    omega (arith, e, n, within i))
    (λ more. ⊎_elim
    (λ same. let k : i ≡ length s.stages = omega (arith, more, same) in
    let e : given_end (one_more s new pause) i ≡ length (s.lookups ++ new) =
    ap (λ j. given_end (one_more s new pause) j) k ∙ ap given (get_last s.stages st) in
    omega (arith, e))
    (λ past. let e : given_end (one_more s new pause) i ≡ 0 =
    ap given (slice_get_past (s.stages ++ st ∷ []) i (omega (arith, past, m))) in
    omega (arith, e))
    (cases_lt i (length s.stages + 1)))
    (cases_lt i (length s.stages))

own_before : (lookups : ℕ → List LookupMap) (s : Staged) (new : List LookupMap) (pause : Option ℕ) → Own lookups s
    → (i : ℕ) → i < length s.stages → lookups_of (one_more s new pause) i ≡ lookups i
own_before lookups s new pause o i less =
    let e : end_of (one_more s new pause) i ≡ end_of s i = end_stays s new pause i (o.within i) less in
    let b : end_before (one_more s new pause) i ≡ end_before s i = before_stays s new pause i o.within (omega (arith, less)) in
    let a : start_of (one_more s new pause) i ≡ start_of s i = ap (λ k. min k (end_of (one_more s new pause) i)) b
    ∙ ap (λ k. min (end_before s i) k) e in
    ap (λ k. slice_range (s.lookups ++ new) k (end_of (one_more s new pause) i)) a
    ∙ ap (λ k. slice_range (s.lookups ++ new) (start_of s i) k) e
    ∙ range_before s.lookups new (start_of s i) (end_of s i) (omega arith)
    ∙ o.own i less

own_last : (lookups : ℕ → List LookupMap) (s : Staged) (new : List LookupMap) (pause : Option ℕ) → Own lookups s
    → lookups_of (one_more s new pause) (length s.stages) ≡ new
own_last lookups s new pause o =
    let n = length s.stages in
    let e : end_of (one_more s new pause) n ≡ length (s.lookups ++ new) = end_is_new s new pause in
    let b : end_before (one_more s new pause) n ≡ length s.lookups =
    before_stays s new pause n o.within (omega arith) ∙ o.last in
    let l : length (s.lookups ++ new) ≡ length s.lookups + length new = length-append s.lookups new in
    let a : start_of (one_more s new pause) n ≡ length s.lookups = omega (arith, b, e, l) in
    ap (λ k. slice_range (s.lookups ++ new) k (end_of (one_more s new pause) n)) a
    ∙ ap (λ k. slice_range (s.lookups ++ new) (length s.lookups) k) e
    ∙ range_last s.lookups new

last_more : (s : Staged) (new : List LookupMap) (pause : Option ℕ)
    → end_before (one_more s new pause) (length s.stages + 1) ≡ length (s.lookups ++ new)
last_more s new pause =
    let n = length s.stages in
    let next : Staged = one_more s new pause in
    let f : nat_eq (n + 1) 0 ≡ false = ne_eqb (n + 1) 0 (λ e. omega (arith, e)) in
    let j : n + 1 - 1 ≡ n = omega arith in
    ap (λ t. if t then 0 else end_of next (n + 1 - 1)) f ∙ ap (λ m. end_of next m) j ∙ end_is_new s new pause

own_more : (lookups : ℕ → List LookupMap) (s : Staged) (pause : Option ℕ) → Own lookups s
    → Own lookups (one_more s (lookups (length s.stages)) pause)
own_more lookups s pause o =
    let n = length s.stages in
    let new : List LookupMap = lookups n in
    let st : StageMap = record { end = length (s.lookups ++ new); pause = pause } in
    let m : length (s.stages ++ st ∷ []) ≡ n + 1 = length_push s.stages st in
    record {
      within = within_more s new pause o.within;
      last = ap (λ k. end_before (one_more s new pause) k) m ∙ last_more s new pause;
      own = λ i less. ⊎_elim (own_before lookups s new pause o i)
          (λ more. let k : i ≡ n = omega (arith, more, less, m) in
          ap (λ j. lookups_of (one_more s new pause) j) k ∙ own_last lookups s new pause o ∙ sym (ap lookups k))
          (cases_lt i n);
    }

abbrev step_of : Chosen → List FeatureMap → ℕ → Staged → Option ℕ → Staged
step_of gsub features required_stage = with_stage gsub features required_stage

own_all : (gsub : Chosen) (features : List FeatureMap) (required_stage : ℕ) (pauses : List (Option ℕ)) (s : Staged)
    → Own (gsub_lookups gsub features required_stage) s
    → Own (gsub_lookups gsub features required_stage) (fold (step_of gsub features required_stage) s pauses)
own_all gsub features required_stage [] s o = o
own_all gsub features required_stage (pause ∷ pauses) s o =
    own_all gsub features required_stage pauses (with_stage gsub features required_stage s pause)
    (own_more (gsub_lookups gsub features required_stage) s pause o)

count_all : (gsub : Chosen) (features : List FeatureMap) (required_stage : ℕ) (pauses : List (Option ℕ)) (s : Staged)
    → length (fold (step_of gsub features required_stage) s pauses).stages ≡ length s.stages + length pauses
count_all gsub features required_stage [] s = omega arith
count_all gsub features required_stage (pause ∷ pauses) s =
    let next : Staged = with_stage gsub features required_stage s pause in
    let st : StageMap = record { end = length next.lookups; pause = pause } in
    let m : length (s.stages ++ st ∷ []) ≡ length s.stages + 1 = length_push s.stages st in
    omega (arith, count_all gsub features required_stage pauses next, m)

own_none : (lookups : ℕ → List LookupMap) → Own lookups no_stages
own_none lookups = record { within = λ i. omega arith; last = refl; own = λ i less. absurd (omega (arith, less)) }

own_staged : (gsub : Chosen) (features : List FeatureMap) (required_stage : ℕ) (pauses : List (Option ℕ))
    → Own (gsub_lookups gsub features required_stage) (staged gsub features required_stage pauses)
own_staged gsub features required_stage pauses =
    let lookups = gsub_lookups gsub features required_stage in
    own_more lookups (fold (step_of gsub features required_stage) no_stages pauses) None
    (own_all gsub features required_stage pauses no_stages (own_none lookups))

pub stages_counted : (gsub : Chosen) (features : List FeatureMap) (required_stage : ℕ) (pauses : List (Option ℕ))
    → length (staged gsub features required_stage pauses).stages ≡ length pauses + 1
stages_counted gsub features required_stage pauses =
    let s : Staged = fold (step_of gsub features required_stage) no_stages pauses in
    let st : StageMap = record { end = length (with_stage gsub features required_stage s None).lookups; pause = None } in
    omega (arith, count_all gsub features required_stage pauses no_stages, length_push s.stages st)

pub stage_is_own : (gsub : Chosen) (features : List FeatureMap) (required_stage : ℕ) (pauses : List (Option ℕ)) (i : ℕ)
    → i ≤ length pauses
    → lookups_of (staged gsub features required_stage pauses) i ≡ gsub_lookups gsub features required_stage i
stage_is_own gsub features required_stage pauses i less =
    (own_staged gsub features required_stage pauses).own i
    (omega (arith, less, stages_counted gsub features required_stage pauses))

-- past the last stage there are none
pub none_past : (s : Staged) (i : ℕ) → length s.stages ≤ i → lookups_of s i ≡ []
none_past s i past =
    let e : given_end s i ≡ 0 = ap (λ o. option_map_or (λ (stage : StageMap). stage.end) o 0) (slice_get_past s.stages i past) in
    let b : end_of s i ≡ 0 = omega (arith, e) in
    let a : start_of s i ≡ 0 = omega (arith, b) in
    ap (λ k. slice_range s.lookups k (end_of s i)) a ∙ ap (λ k. slice_range s.lookups 0 k) b ∙ between_from_start s.lookups 0
