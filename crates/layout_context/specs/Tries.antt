-- What a stage of substitution tries, as a count over the steps of its definition.
use Prim.Native.Nat.{zero}
use Rattle.std.specs.Prelude.{◌≡◌, ℕ, suc, false, List, [], ◌∷◌, Option, ◌+◌, ◌-◌, not, min, length, nat_eq, nat_lt, if◌then◌else◌}
use Rattle.std.specs.Option.{option_map_or}
use Rattle.shape_items.specs.Buffer.{Buffer, most_countable}
use Rattle.shape_items.specs.Items.{Item}
use Rattle.layout_tables.specs.Lookups.{subtable_count_of}
use Rattle.layout_matching.specs.Found.{is_context, found_of}
use Rattle.layout_matching.specs.Nesting.{target_of}
use Rattle.layout_matching.specs.Skipping.{is_on}
use Rattle.layout_matching.specs.Tries.{counted_along, counted_to_first, each_one, subtables_sought, rules_tried, Trace, nothing_tried, all_tried}
use Rattle.layout_matching.specs.Work.{lookup_charged, walk_work}
use Rattle.layout_matching.specs.declared.found.Found.{Found}
use Rattle.layout_matching.specs.declared.lookup.Lookup.{Lookup}
use Rattle.layout_matching.specs.declared.nesting.Target.{Target}
use Rattle.layout_substitution.specs.Applied.{Applied}
use Rattle.layout_substitution.specs.Edits.{item_at, is_inside, is_past, concat_marked}
use Rattle.layout_substitution.specs.Tries.{subtables_asked, ligatures_tried}
use Rattle.layout_substitution.specs.declared.apply.Spot.{Spot}
use Rattle.layout_context.specs.Nested.{origin_of, place_charged, Nest, nested_spot, target_charged, record_step, first_nest, tried_marked, nested_applied}
use Rattle.layout_context.specs.Reverse.{Backwards, is_reverse, reversal_in, reversal_reach, reverse_step}
use Rattle.layout_context.specs.Stages.{Walk, with_left, lookup_step, first_walk, walk_charged, looked_up, stage_begun, most_levels}
use Rattle.layout_context.specs.declared.nested.LookupRule.{LookupRule}

-- ---- at a place

-- subtables, up to the first that applies
abbrev pub subtables_tried : Lookup → Spot → Buffer → ℕ
subtables_tried l spot b = if is_context l then subtables_sought l b.items (origin_of spot b) else subtables_asked l spot b

-- what a lookup tries that a record of a rule names, if what is left suffices for it
abbrev pub tries_within : (Lookup → Spot → Buffer → Trace) → Nest → Target → ℕ → ℕ
tries_within deeper s t left = all_tried (deeper t.lookup (nested_spot s.progress.spot t.place left) s.buffer)

abbrev pub target_tries : (Lookup → Spot → Buffer → Trace) → Nest → Target → ℕ
target_tries deeper s t =
    if not (is_inside t.place s.buffer) then 0 else option_map_or (tries_within deeper s t) (target_charged s t) 0

abbrev pub record_tries : (Lookup → Spot → Buffer → Trace) → LookupRule → Nest → ℕ
record_tries deeper named s = if s.progress.stopped then 0
    else option_map_or (target_tries deeper s) (target_of named.lookup named.rule s.places s.progress.r) 0

-- what the records of the rule that matches try, one after the other
abbrev pub rule_tries : (Lookup → Spot → Buffer → Applied) → (Lookup → Spot → Buffer → Trace) → Lookup → Spot → Buffer → Found → ℕ
rule_tries next deeper l spot b found =
    counted_along (record_tries deeper (record { lookup = l; rule = found.rule }))
    (record_step next (record { lookup = l; rule = found.rule })) found.rule.count (first_nest l spot b found)

abbrev pub named_tries : (Lookup → Spot → Buffer → Applied) → (Lookup → Spot → Buffer → Trace) → Lookup → Spot → Buffer → ℕ
named_tries next deeper l spot b = option_map_or (rule_tries next deeper l spot b) (found_of l b.items (origin_of spot b)) 0

abbrev pub others_tried : (Lookup → Spot → Buffer → Applied) → (Lookup → Spot → Buffer → Trace) → Lookup → Spot → Buffer → ℕ
others_tried next deeper l spot b = if is_context l
    then rules_tried l b.items (origin_of spot b) + named_tries next deeper l spot (tried_marked l spot b)
    else ligatures_tried l spot b

-- by the levels of lookups that are left
abbrev pub nested_tries : ℕ → Lookup → Spot → Buffer → Trace
nested_tries zero l spot b = nothing_tried
nested_tries (suc level) l spot b =
    if is_past b then nothing_tried
    else (if is_inside spot.at b then record {
      subtables = subtables_tried l spot b;
      others = others_tried (nested_applied level) (nested_tries level) l spot b;
    } else nothing_tried)

-- ---- over a buffer

abbrev pub tried_with : ℕ → Lookup → Walk → ℕ → Trace
tried_with levels l s left = nested_tries levels l (with_left left s).spot s.buffer

abbrev pub step_tries : ℕ → Lookup → Walk → Trace
step_tries levels l s =
    if is_past s.buffer then nothing_tried
    else (if is_inside s.spot.at s.buffer then
    (if is_on l (item_at s.buffer s.spot.at)
    then option_map_or (tried_with levels l s) (place_charged l s.buffer.items (origin_of s.spot s.buffer) s.spot.left) nothing_tried
    else nothing_tried)
    else nothing_tried)

-- subtables are counted as the walk is charged for: up to the greatest number that can be counted
abbrev pub walk_tries : ℕ → Lookup → Walk → ℕ
walk_tries levels l s =
    min (counted_along (λ (w : Walk). (step_tries levels l w).subtables) (lookup_step (nested_applied levels l) l)
    (length s.buffer.items) (first_walk s)) most_countable
    + counted_along (λ (w : Walk). (step_tries levels l w).others) (lookup_step (nested_applied levels l) l)
    (length s.buffer.items) (first_walk s)

-- a subtable of reverse chaining is one rule
abbrev pub reversals_tried : Lookup → Buffer → ℕ → ℕ
reversals_tried l b at =
    if is_on l (item_at b at)
    then counted_to_first each_one (reversal_in l (concat_marked (reversal_reach l b.items at) b).items at)
    (subtable_count_of l.table.now l.place) 0
    else 0

abbrev pub reverse_tries : Lookup → Backwards → ℕ
reverse_tries l s = if nat_eq s.at 0 then 0
    else option_map_or (λ left. reversals_tried l s.buffer (s.at - 1)) (lookup_charged l s.buffer.items (s.at - 1) s.left) 0

abbrev pub reversed_tries : Lookup → ℕ → Buffer → ℕ
reversed_tries l left b =
    min (counted_along (reverse_tries l) (reverse_step l) (length b.items) (record { buffer = b; at = length b.items; left = left }))
    most_countable

abbrev pub over_tries : ℕ → Lookup → Walk → ℕ
over_tries levels l s = if is_reverse l then reversed_tries l s.spot.left s.buffer else walk_tries levels l s

abbrev pub lookup_tries : ℕ → Lookup → Walk → ℕ
lookup_tries levels l s = if nat_lt s.spot.left (walk_work l (length s.buffer.items)) then 0 else over_tries levels l (walk_charged l s)

abbrev pub lookups_tries : ℕ → List Lookup → Walk → ℕ
lookups_tries levels [] s = 0
lookups_tries levels (l ∷ ls) s = lookup_tries levels l s + lookups_tries levels ls (looked_up levels l s)

-- of a stage of `GSUB`, one lookup after the other
abbrev pub substitute_tries : List Lookup → Buffer → ℕ
substitute_tries ls b = lookups_tries most_levels ls (stage_begun b)

-- the lookup is one of `GSUB`
abbrev pub Substitutes : Lookup → Type 0
Substitutes l = l.positioning ≡ false
