-- What positioning tries, as a count over the steps of its definitions.
use Prim.Native.Nat.{zero}
use Rattle.std.specs.Prelude.{ℕ, suc, List, [], ◌∷◌, None, ◌+◌, min, length, is_some, nat_eq, nat_lt, if◌then◌else◌}
use Rattle.std.specs.Option.{option_map_or}
use Rattle.shape_items.specs.Buffer.{Buffer, most_countable}
use Rattle.layout_tables.specs.Lookups.{subtable_count_of}
use Rattle.layout_matching.specs.Found.{found_of, is_context}
use Rattle.layout_matching.specs.Skipping.{nth, is_on}
use Rattle.layout_matching.specs.Sought.{place_charged, named_charged}
use Rattle.layout_matching.specs.Tries.{counted_along, subtables_sought, rules_tried, Trace, nothing_tried, all_tried}
use Rattle.layout_matching.specs.Work.{walk_work}
use Rattle.layout_matching.specs.declared.found.Found.{Found}
use Rattle.layout_matching.specs.declared.lookup.Lookup.{Lookup}
use Rattle.layout_matching.specs.declared.rules.Rule.{Rule}
use Rattle.layout_positions.specs.Edits.{broken}
use Rattle.layout_positions.specs.Nested.{LEVELS, Nest, named_lookup, named_place, seek_charged, record_step, origin_at, tried_concat_marked, nested_placed}
use Rattle.layout_positions.specs.Subtables.{Placing, Trial, trial_step}
use Rattle.layout_positions.specs.Walk.{Budgeted, Walk, lookup_step, first_walk, walk_charged, lookup_applied, budgeted}
use Rattle.layout_positions.specs.declared.bases.BaseSeen.{BaseSeen}

-- ---- at a place

-- subtables, up to the first that applies
abbrev pub trial_tries : Trial → ℕ
trial_tries s = if is_some s.next then 0 else 1

abbrev pub subtables_tried : Lookup → ℕ → ℕ → BaseSeen → Buffer → ℕ
subtables_tried l i left seen b = if is_context l then subtables_sought l b.items (origin_at i)
    else counted_along trial_tries (trial_step l i) (subtable_count_of l.table.now l.place)
    (record { buffer = b; next = None; seen = seen; left = left; subtable = 0 })

-- what a lookup tries that a record of a rule names, if what is left suffices for it
abbrev pub tries_within : (Lookup → ℕ → ℕ → BaseSeen → Buffer → Trace) → Nest → Lookup → ℕ → ℕ → ℕ
tries_within deeper s other place left = all_tried (deeper other place left s.seen s.buffer)

abbrev pub tries_there : (Lookup → ℕ → ℕ → BaseSeen → Buffer → Trace) → Nest → Lookup → ℕ → ℕ
tries_there deeper s other place =
    option_map_or (tries_within deeper s other place) (named_charged other s.buffer.items (origin_at place) s.left) 0

abbrev pub tries_for : (Lookup → ℕ → ℕ → BaseSeen → Buffer → Trace) → Lookup → ℕ → Rule → Nest → Lookup → ℕ
tries_for deeper l at rule s other =
    option_map_or (tries_there deeper (seek_charged l rule s) other) (named_place l s.buffer.items at rule s.r) 0

abbrev pub record_tries : (Lookup → ℕ → ℕ → BaseSeen → Buffer → Trace) → Lookup → ℕ → Rule → Nest → ℕ
record_tries deeper l at rule s = if nat_eq s.left 0 then 0
    else option_map_or (tries_for deeper l at rule s) (named_lookup l rule s.r) 0

-- what the records of the rule that matches try, one after the other
abbrev pub rule_tries : (Lookup → ℕ → ℕ → BaseSeen → Buffer → Placing) → (Lookup → ℕ → ℕ → BaseSeen → Buffer → Trace)
    → Lookup → ℕ → ℕ → BaseSeen → Buffer → Found → ℕ
rule_tries next deeper l i left seen b found =
    counted_along (record_tries deeper l i found.rule) (record_step next l i found.rule) found.rule.count
    (record { buffer = broken found.span.start found.span.end b; seen = seen; left = left; r = 0 })

abbrev pub named_tries : (Lookup → ℕ → ℕ → BaseSeen → Buffer → Placing) → (Lookup → ℕ → ℕ → BaseSeen → Buffer → Trace)
    → Lookup → ℕ → ℕ → BaseSeen → Buffer → ℕ
named_tries next deeper l i left seen b =
    option_map_or (rule_tries next deeper l i left seen b) (found_of l b.items (origin_at i)) 0

abbrev pub others_tried : (Lookup → ℕ → ℕ → BaseSeen → Buffer → Placing) → (Lookup → ℕ → ℕ → BaseSeen → Buffer → Trace)
    → Lookup → ℕ → ℕ → BaseSeen → Buffer → ℕ
others_tried next deeper l i left seen b = if is_context l
    then rules_tried l b.items (origin_at i) + named_tries next deeper l i left seen (tried_concat_marked l i b) else 0

-- by the levels of lookups that are left
abbrev pub nested_tries : ℕ → Lookup → ℕ → ℕ → BaseSeen → Buffer → Trace
nested_tries zero l i left seen b = nothing_tried
nested_tries (suc level) l i left seen b = if nat_lt i (length b.items)
    then record {
      subtables = subtables_tried l i left seen b;
      others = others_tried (nested_placed level) (nested_tries level) l i left seen b;
    }
    else nothing_tried

-- ---- over a line

abbrev pub tried_with : Lookup → Walk → ℕ → Trace
tried_with l s left = nested_tries LEVELS l s.at left s.seen s.buffer

abbrev pub step_tries : Lookup → Walk → Trace
step_tries l s = if nat_lt s.at (length s.buffer.items)
    then (if is_on l (nth s.buffer.items s.at) then option_map_or (tried_with l s) (place_charged l s.buffer.items (origin_at s.at) s.left) nothing_tried
    else nothing_tried)
    else nothing_tried

-- subtables are counted as the walk is charged for: up to the greatest number that can be counted
abbrev pub walk_tries : Lookup → Budgeted → ℕ
walk_tries l s =
    min (counted_along (λ (w : Walk). (step_tries l w).subtables) (lookup_step l) (length s.buffer.items) (first_walk s)) most_countable
    + counted_along (λ (w : Walk). (step_tries l w).others) (lookup_step l) (length s.buffer.items) (first_walk s)

abbrev pub lookup_tries : Budgeted → Lookup → ℕ
lookup_tries s l = if nat_lt s.left (walk_work l (length s.buffer.items)) then 0 else walk_tries l (walk_charged s l)

abbrev pub lookups_tries : List Lookup → Budgeted → ℕ
lookups_tries [] s = 0
lookups_tries (l ∷ lookups) s = lookup_tries s l + lookups_tries lookups (lookup_applied s l)

-- of the lookups of `GPOS`, one after the other
abbrev pub position_tries : List Lookup → Buffer → ℕ
position_tries lookups b = lookups_tries lookups (budgeted b)
