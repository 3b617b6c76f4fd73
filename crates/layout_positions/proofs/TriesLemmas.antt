-- positioning tries no more than it is charged for
use Prim.Native.Nat.{zero}
use Rattle.std.proofs.Common.{◌≡◌, ℕ, suc, ◌<◌, ◌≤◌, ◌+◌, ◌-◌, ◌*◌, min, Bool, true, false, List, [], ◌∷◌, Option, Some, None, fold, is_some, length, nat_eq, nat_lt, refl, ap, arith, if◌then◌else◌}
use Rattle.std.specs.Option.{option_and_then, option_map, option_map_or}
use Rattle.std.proofs.lemmas.Bool.Decides.{nat_tests}
use Rattle.shape_items.specs.Buffer.{Buffer, most_countable}
use Rattle.shape_items.specs.Items.{Item}
use Rattle.layout_tables.specs.Lookups.{subtable_count_of}
use Rattle.layout_matching.specs.Found.{found_of, is_context}
use Rattle.layout_matching.specs.Loops.{times}
use Rattle.layout_matching.specs.Skipping.{nth, is_on}
use Rattle.layout_matching.specs.Sought.{sought, sought_left, place_charged, named_charged}
use Rattle.layout_matching.specs.Tries.{counted_along, rules_tried, subtables_sought, Trace, nothing_tried, all_tried}
use Rattle.layout_matching.specs.Work.{charged, subtables_charged, lookup_charged, steps_work, NESTED_WORK, nested_charged, walk_work}
use Rattle.layout_matching.specs.declared.found.Found.{Found}
use Rattle.layout_matching.specs.declared.lookup.Lookup.{Lookup}
use Rattle.layout_matching.specs.declared.rules.Rule.{Rule}
use Rattle.layout_matching.specs.declared.sought.Sought.{Sought}
use Rattle.layout_matching.proofs.ChargeLemmas.{clash, lookup_charged-lessens, subtables_charged-lessens}
use Rattle.layout_matching.proofs.TriesLemmas.{along-few, along-paid, charged-pays, sought-pays, subtables-few, steps-cover, walk-covers}
use Rattle.layout_positions.specs.Edits.{broken}
use Rattle.layout_positions.specs.Nested.{LEVELS, Nest, skipped, spent, record_within, record_at_place, record_for, named_index, named_lookup}
use Rattle.layout_positions.specs.Nested.{named_place, seek_charged, record_step, rule_placed, origin_at, tried_concat_marked, first_rule_placed}
use Rattle.layout_positions.specs.Nested.{level_placed, nested_placed}
use Rattle.layout_positions.specs.Subtables.{Placing, unplaced, Trial, trial_step, lookup_placed}
use Rattle.layout_positions.specs.Tries.{trial_tries, subtables_tried, tries_within, tries_there, tries_for, record_tries, rule_tries, named_tries}
use Rattle.layout_positions.specs.Tries.{others_tried, nested_tries, tried_with, step_tries, walk_tries, lookup_tries, lookups_tries, position_tries}
use Rattle.layout_positions.specs.Walk.{Budgeted, Walk, tried_within, tried, lookup_step, first_walk, gone_over, walk_charged, lookup_applied, budgeted, positioned}
use Rattle.layout_positions.specs.declared.bases.BaseSeen.{BaseSeen}
use Rattle.layout_positions.proofs.LeftLemmas.{NextLess, level-less, nested-less}

-- ---- at a place

one-trial : (s : Trial) → trial_tries s ≤ 1
one-trial s = by_next (is_some s.next)
  where
    by_next : (t : Bool) → (if t then 0 else 1) ≤ 1
    by_next true = omega arith
    by_next false = omega arith

subtables-few-at : (l : Lookup) (i left : ℕ) (seen : BaseSeen) (b : Buffer) → subtables_tried l i left seen b ≤ subtable_count_of l.table.now l.place
subtables-few-at l i left seen b = by_kind (is_context l)
  where
    start : Trial
    start = record { buffer = b; next = None; seen = seen; left = left; subtable = 0 }

    by_kind : (t : Bool)
        → (if t then subtables_sought l b.items (origin_at i)
        else counted_along trial_tries (trial_step l i) (subtable_count_of l.table.now l.place) start) ≤ subtable_count_of l.table.now l.place
    by_kind true = subtables-few l b.items (origin_at i)
    by_kind false =
        let few = along-few trial_tries (trial_step l i) 1 one-trial (subtable_count_of l.table.now l.place) start in
        omega (arith, few)

-- what a lookup tries, and what is left after it: the rules of one of context are paid as they are sought
record Paid (l : Lookup) (i left : ℕ) (b : Buffer) (t : Trace) (rest : ℕ) : Type 0 where
  subtables : t.subtables ≤ subtable_count_of l.table.now l.place
  plain : is_context l ≡ false → t.others + rest ≤ left
  seeks : is_context l ≡ true → (before : ℕ) (s : Sought) → sought l b.items (origin_at i) before ≡ Some s → s.left ≡ left
      → t.others + rest ≤ before

-- by what is charged for while the rule is sought
seeking-paid : (l : Lookup) (i left before : ℕ) (b : Buffer) (t : Trace) (rest : ℕ) → Paid l i left b t rest → is_context l ≡ true
    → sought_left l b.items (origin_at i) before ≡ Some left → t.others + rest ≤ before
seeking-paid l i left before b t rest made context is = by_sought (sought l b.items (origin_at i) before) refl is
  where
    by_sought : (o : Option Sought) → sought l b.items (origin_at i) before ≡ o → option_map (λ (s : Sought). s.left) o ≡ Some left
        → t.others + rest ≤ before
    by_sought None there e = clash left e
    by_sought (Some s) there e = made.seeks context before s there (ap (λ (o : Option ℕ). option_map_or (λ n. n) o 0) e)

-- where it isn't named
placed-paid : (l : Lookup) (i left before : ℕ) (b : Buffer) (t : Trace) (rest : ℕ) → Paid l i left b t rest
    → place_charged l b.items (origin_at i) before ≡ Some left → t.others + rest ≤ before
placed-paid l i left before b t rest made is = by_kind (is_context l) refl is
  where
    by_kind : (u : Bool) → is_context l ≡ u
        → (if u then sought_left l b.items (origin_at i) before else lookup_charged l b.items i before) ≡ Some left
        → t.others + rest ≤ before
    by_kind true context e = seeking-paid l i left before b t rest made context e
    by_kind false plain e =
        let free = made.plain plain in
        let less = lookup_charged-lessens l b.items i before left e in
        omega (arith, free, less)

-- and where it is: what is charged for first pays for the subtables
named-all : (l : Lookup) (i left before : ℕ) (b : Buffer) (t : Trace) (rest : ℕ) → Paid l i left b t rest
    → named_charged l b.items (origin_at i) before ≡ Some left → all_tried t + rest ≤ before
named-all l i left before b t rest made is = by_kind (is_context l) refl is
  where
    work : ℕ
    work = steps_work l + NESTED_WORK

    by_others : (mid : ℕ) → work + mid ≤ before → t.others + rest ≤ mid → all_tried t + rest ≤ before
    by_others mid first others =
        let few = made.subtables in
        let cover = steps-cover l in
        omega (arith, first, others, few, cover)

    by_seeking : is_context l ≡ true → (o : Option ℕ) → ((mid : ℕ) → o ≡ Some mid → work + mid ≤ before)
        → option_and_then (sought_left l b.items (origin_at i)) o ≡ Some left → all_tried t + rest ≤ before
    by_seeking context None first e = clash left e
    by_seeking context (Some mid) first e = by_others mid (first mid refl) (seeking-paid l i left mid b t rest made context e)

    by_rules : is_context l ≡ false → (o : Option ℕ) → ((mid : ℕ) → o ≡ Some mid → work + mid ≤ before)
        → option_and_then (subtables_charged l b.items i) o ≡ Some left → all_tried t + rest ≤ before
    by_rules plain None first e = clash left e
    by_rules plain (Some mid) first e =
        let free = made.plain plain in
        let less = subtables_charged-lessens l b.items i mid left e in
        by_others mid (first mid refl) (omega (arith, free, less))

    by_kind : (u : Bool) → is_context l ≡ u
        → (if u then option_and_then (sought_left l b.items (origin_at i)) (charged work before) else nested_charged l b.items i before)
        ≡ Some left → all_tried t + rest ≤ before
    by_kind true context e = by_seeking context (charged work before) (λ mid. charged-pays work before mid) e
    by_kind false plain e = by_rules plain (charged work before) (λ mid. charged-pays work before mid) e

abbrev NextPaid : (Lookup → ℕ → ℕ → BaseSeen → Buffer → Placing) → (Lookup → ℕ → ℕ → BaseSeen → Buffer → Trace) → Type 0
NextPaid next deeper = (l : Lookup) (i left : ℕ) (seen : BaseSeen) (b : Buffer)
    → Paid l i left b (deeper l i left seen b) (next l i left seen b).left

-- ---- lookups that are named

module _ (next : Lookup → ℕ → ℕ → BaseSeen → Buffer → Placing) (deeper : Lookup → ℕ → ℕ → BaseSeen → Buffer → Trace)
    (below : NextPaid next deeper) where
  record-paid : (l : Lookup) (at : ℕ) (rule : Rule) (s : Nest)
      → record_tries deeper l at rule s + (record_step next l at rule s).left ≤ s.left
  record-paid l at rule s = by_left (nat_eq s.left 0)
    where
      here : Nest
      here = seek_charged l rule s

      by_charge : (other : Lookup) (place : ℕ) (o : Option ℕ) → named_charged other s.buffer.items (origin_at place) here.left ≡ o
          → option_map_or (tries_within deeper here other place) o 0
          + (option_map_or (record_within next here other place) o (spent here)).left ≤ s.left
      by_charge other place None is = omega arith
      by_charge other place (Some rest) is =
          let made = named-all other place rest here.left s.buffer (deeper other place rest s.seen s.buffer)
          (next other place rest s.seen s.buffer).left (below other place rest s.seen s.buffer) is in
          omega (arith, made)

      by_place : (other : Lookup) (o : Option ℕ)
          → option_map_or (tries_there deeper here other) o 0 + (option_map_or (record_at_place next here other) o (skipped s)).left ≤ s.left
      by_place other None = omega arith
      by_place other (Some place) = by_charge other place (named_charged other s.buffer.items (origin_at place) here.left) refl

      by_lookup : (o : Option Lookup)
          → option_map_or (tries_for deeper l at rule s) o 0 + (option_map_or (record_for next l at rule s) o (skipped s)).left ≤ s.left
      by_lookup None = omega arith
      by_lookup (Some other) = by_place other (named_place l s.buffer.items at rule s.r)

      by_left : (t : Bool)
          → (if t then 0 else option_map_or (tries_for deeper l at rule s) (named_lookup l rule s.r) 0)
          + (if t then skipped s else option_map_or (record_for next l at rule s) (named_lookup l rule s.r) (skipped s)).left ≤ s.left
      by_left true = omega arith
      by_left false = by_lookup (named_lookup l rule s.r)

  named-paid : (l : Lookup) (i left : ℕ) (seen : BaseSeen) (b : Buffer)
      → named_tries next deeper l i left seen b + (first_rule_placed next l i left seen b).left ≤ left
  named-paid l i left seen b = by_found (found_of l b.items (origin_at i))
    where
      by_found : (o : Option Found)
          → option_map_or (rule_tries next deeper l i left seen b) o 0
          + (option_map_or (rule_placed next l i left seen b) o (unplaced left seen b)).left ≤ left
      by_found None = omega arith
      by_found (Some found) =
          along-paid (λ (t : Nest). t.left) (record_tries deeper l i found.rule) (record_step next l i found.rule)
          (record-paid l i found.rule) found.rule.count
          (record { buffer = broken found.span.start found.span.end b; seen = seen; left = left; r = 0 })

  level-paid : (less : NextLess next) (l : Lookup) (i left : ℕ) (seen : BaseSeen) (b : Buffer)
      → Paid l i left b (record { subtables = subtables_tried l i left seen b; others = others_tried next deeper l i left seen b })
      (level_placed next l i left seen b).left
  level-paid less l i left seen b = record {
    subtables = subtables-few-at l i left seen b;
    plain = by_plain (is_context l) (level-less next less l i left seen b);
    seeks = λ context before s is same. by_seeks before s is same (is_context l) context;
  }
    where
      marked : Buffer
      marked = tried_concat_marked l i b

      by_plain : (t : Bool)
          → (if t then first_rule_placed next l i left seen marked else lookup_placed l i left seen b).left ≤ left → t ≡ false
          → (if t then rules_tried l b.items (origin_at i) + named_tries next deeper l i left seen marked else 0)
          + (if t then first_rule_placed next l i left seen marked else lookup_placed l i left seen b).left ≤ left
      by_plain true made never = absurd (let bad : true ≡ false = never in cc)
      by_plain false made never = omega (arith, made)

      by_seeks : (before : ℕ) (s : Sought) → sought l b.items (origin_at i) before ≡ Some s → s.left ≡ left → (t : Bool) → t ≡ true
          → (if t then rules_tried l b.items (origin_at i) + named_tries next deeper l i left seen marked else 0)
          + (if t then first_rule_placed next l i left seen marked else lookup_placed l i left seen b).left ≤ before
      by_seeks before s is same true context =
          let rules = sought-pays l b.items (origin_at i) before s is in
          let named = named-paid l i left seen marked in
          omega (arith, rules, named, same)
      by_seeks before s is same false never = absurd (let bad : false ≡ true = never in cc)

nothing-paid : (l : Lookup) (i left : ℕ) (b : Buffer) → Paid l i left b nothing_tried left
nothing-paid l i left b = record {
  subtables = omega arith;
  plain = λ not. omega arith;
  seeks = λ context before s is same. let less = sought-pays l b.items (origin_at i) before s is in omega (arith, less, same);
}

nested-paid : (level : ℕ) → NextPaid (nested_placed level) (nested_tries level)
nested-paid zero l i left seen b = nothing-paid l i left b
nested-paid (suc level) l i left seen b =
    by_inside (level-paid (nested_placed level) (nested_tries level) (nested-paid level) (nested-less level) l i left seen b) (nat_lt i (length b.items))
  where
    there : Trace
    there = record { subtables = subtables_tried l i left seen b; others = others_tried (nested_placed level) (nested_tries level) l i left seen b }

    by_inside : Paid l i left b there (level_placed (nested_placed level) l i left seen b).left → (t : Bool)
        → Paid l i left b (if t then there else nothing_tried)
        (if t then level_placed (nested_placed level) l i left seen b else unplaced left seen b).left
    by_inside made true = made
    by_inside made false = nothing-paid l i left b

-- ---- over a line

-- at each step of a walk
step-few : (l : Lookup) (s : Walk) → (step_tries l s).subtables ≤ subtable_count_of l.table.now l.place
step-few l s = by_inside (nat_lt s.at (length s.buffer.items))
  where
    by_charge : (o : Option ℕ) → (option_map_or (tried_with l s) o nothing_tried).subtables ≤ subtable_count_of l.table.now l.place
    by_charge None = omega arith
    by_charge (Some left) = (nested-paid LEVELS l s.at left s.seen s.buffer).subtables

    by_on : (t : Bool)
        → (if t then option_map_or (tried_with l s) (place_charged l s.buffer.items (origin_at s.at) s.left) nothing_tried else nothing_tried).subtables
        ≤ subtable_count_of l.table.now l.place
    by_on true = by_charge (place_charged l s.buffer.items (origin_at s.at) s.left)
    by_on false = omega arith

    by_inside : (t : Bool)
        → (if t then (if is_on l (nth s.buffer.items s.at)
        then option_map_or (tried_with l s) (place_charged l s.buffer.items (origin_at s.at) s.left) nothing_tried else nothing_tried)
        else nothing_tried).subtables ≤ subtable_count_of l.table.now l.place
    by_inside true = by_on (is_on l (nth s.buffer.items s.at))
    by_inside false = omega arith

step-paid : (l : Lookup) (s : Walk) → (step_tries l s).others + (lookup_step l s).left ≤ s.left
step-paid l s = by_inside (nat_lt s.at (length s.buffer.items))
  where
    by_charge : (o : Option ℕ) → place_charged l s.buffer.items (origin_at s.at) s.left ≡ o
        → (option_map_or (tried_with l s) o nothing_tried).others
        + (option_map_or (tried_within l s) o (record s { at = s.at + 1; left = 0 })).left ≤ s.left
    by_charge None is = omega arith
    by_charge (Some left) is =
        placed-paid l s.at left s.left s.buffer (nested_tries LEVELS l s.at left s.seen s.buffer)
        (nested_placed LEVELS l s.at left s.seen s.buffer).left (nested-paid LEVELS l s.at left s.seen s.buffer) is

    by_on : (t : Bool)
        → (if t then option_map_or (tried_with l s) (place_charged l s.buffer.items (origin_at s.at) s.left) nothing_tried else nothing_tried).others
        + (if t then tried l s else record s { at = s.at + 1 }).left ≤ s.left
    by_on true = by_charge (place_charged l s.buffer.items (origin_at s.at) s.left) refl
    by_on false = omega arith

    by_inside : (t : Bool)
        → (if t then (if is_on l (nth s.buffer.items s.at)
        then option_map_or (tried_with l s) (place_charged l s.buffer.items (origin_at s.at) s.left) nothing_tried else nothing_tried)
        else nothing_tried).others
        + (if t then (if is_on l (nth s.buffer.items s.at) then tried l s else record s { at = s.at + 1 }) else s).left ≤ s.left
    by_inside true = by_on (is_on l (nth s.buffer.items s.at))
    by_inside false = omega arith

lookup-paid : (l : Lookup) (s : Budgeted) → lookup_tries s l + (lookup_applied s l).left ≤ s.left
lookup-paid l s = by_work (nat_lt s.left work) refl
  where
    count : ℕ
    count = length s.buffer.items

    work : ℕ
    work = walk_work l count

    walk : Walk
    walk = first_walk (walk_charged s l)

    subtables : ℕ
    subtables = counted_along (λ (w : Walk). (step_tries l w).subtables) (lookup_step l) count walk

    by_work : (t : Bool) → nat_lt s.left work ≡ t
        → (if t then 0 else walk_tries l (walk_charged s l)) + (if t then walk_charged s l else gone_over (walk_charged s l) l).left ≤ s.left
    by_work true is = omega arith
    by_work false is =
        let enough : work ≤ s.left = grind (arith, nat_tests, is) in
        let few : subtables ≤ count * subtable_count_of l.table.now l.place =
        along-few (λ (w : Walk). (step_tries l w).subtables) (lookup_step l) (subtable_count_of l.table.now l.place) (step-few l) count walk in
        let covered = walk-covers l count subtables few in
        let others = along-paid (λ (w : Walk). w.left) (λ (w : Walk). (step_tries l w).others) (lookup_step l) (step-paid l) count walk in
        omega (arith, enough, covered, others)

-- ---- a stage

lookups-paid : (lookups : List Lookup) (s : Budgeted) → lookups_tries lookups s + (fold lookup_applied s lookups).left ≤ s.left
lookups-paid [] s = omega arith
lookups-paid (l ∷ lookups) s =
    let first = lookup-paid l s in
    let later = lookups-paid lookups (lookup_applied s l) in
    omega (arith, first, later)

pub tries-paid : (lookups : List Lookup) (b : Buffer) → position_tries lookups b + (positioned lookups b).max_ops ≤ b.max_ops
tries-paid lookups b = lookups-paid lookups (budgeted b)
