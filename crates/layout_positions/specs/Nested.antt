-- Lookups of context, which apply others where a rule matches (OpenType, `GPOS`, lookup types 7 and 8).
use Prim.Native.Nat.{zero}
use Rattle.std.specs.Prelude.{ℕ, suc, true, List, Option, Some, None, ◌+◌, ◌-◌, ◌*◌, length, nat_eq, nat_lt, if◌then◌else◌}
use Rattle.std.specs.Option.{option_map, option_map_or}
use Rattle.shape_font.specs.Bytes.{u16_of}
use Rattle.shape_items.specs.Buffer.{Buffer}
use Rattle.shape_items.specs.Items.{Item}
use Rattle.layout_tables.specs.Lookups.{lookup_of}
use Rattle.layout_matching.specs.Found.{found_of, is_context}
use Rattle.layout_matching.specs.Input.{seek_input}
use Rattle.layout_matching.specs.Loops.{times}
use Rattle.layout_matching.specs.Nesting.{lookup_with, record_at}
use Rattle.layout_matching.specs.Seeking.{last_after}
use Rattle.layout_matching.specs.Skipping.{nth}
use Rattle.layout_matching.specs.Sought.{sought_left, place_charged, named_charged}
use Rattle.layout_matching.specs.Tried.{reach_of}
use Rattle.layout_matching.specs.declared.found.Found.{Found}
use Rattle.layout_matching.specs.declared.lookup.Lookup.{Lookup}
use Rattle.layout_matching.specs.declared.rules.Rule.{Rule}
use Rattle.layout_matching.specs.declared.spans.Origin.{Origin}
use Rattle.layout_positions.specs.Edits.{broken, concat_marked}
use Rattle.layout_positions.specs.Subtables.{Placing, unplaced, lookup_placed}
use Rattle.layout_positions.specs.declared.bases.BaseSeen.{BaseSeen}

-- ---- what a record of a rule names

-- where glyph number `index` of those that the rule matches stands, the first one at `at`
abbrev pub matched_place : Lookup → List Item → ℕ → Rule → ℕ → Option ℕ
matched_place l items at rule index =
    if nat_lt index rule.input.count then last_after l (seek_input l (nth items at) rule.input) items index at else None

-- the number of the glyph that record `r` names
abbrev pub named_index : Lookup → Rule → ℕ → ℕ
named_index l rule r = u16_of l.table.now (record_at rule r)

abbrev pub named_place : Lookup → List Item → ℕ → Rule → ℕ → Option ℕ
named_place l items at rule r = matched_place l items at rule (named_index l rule r)

abbrev pub named_lookup : Lookup → Rule → ℕ → Option Lookup
named_lookup l rule r = option_map (lookup_with l) (lookup_of l.table.now (u16_of l.table.now (record_at rule r + 2)))

-- ---- the records of a rule, one after the other

-- a buffer, the base that was seen last, and what is left for lookups that are named
pub record Nest : Type 0 where
  pub buffer : Buffer
  pub seen : BaseSeen
  pub left : ℕ
  pub r : ℕ

abbrev pub skipped : Nest → Nest
skipped s = record s { r = s.r + 1 }

abbrev pub nest_of : Nest → Placing → Nest
nest_of s made = record { buffer = made.buffer; seen = made.seen; left = made.left; r = s.r + 1 }

-- once what is left doesn't suffice, nothing is left
abbrev pub spent : Nest → Nest
spent s = record s { left = 0; r = s.r + 1 }

abbrev pub origin_at : ℕ → Origin
origin_at i = record { at = i; is_steady = true }

abbrev pub record_within : (Lookup → ℕ → ℕ → BaseSeen → Buffer → Placing) → Nest → Lookup → ℕ → ℕ → Nest
record_within next s other place left = nest_of s (next other place left s.seen s.buffer)

-- a lookup is charged for, whether it applies or not
abbrev pub record_at_place : (Lookup → ℕ → ℕ → BaseSeen → Buffer → Placing) → Nest → Lookup → ℕ → Nest
record_at_place next s other place =
    option_map_or (record_within next s other place) (named_charged other s.buffer.items (origin_at place) s.left) (spent s)

-- each record looks for its glyph from the first one of the rule on; each glyph on the way is compared, and searched for in a list
abbrev pub PLACE_WORK : ℕ
PLACE_WORK = 8

abbrev pub seek_charged : Lookup → Rule → Nest → Nest
seek_charged l rule s = record s { left = s.left - named_index l rule s.r * PLACE_WORK }

abbrev pub record_for : (Lookup → ℕ → ℕ → BaseSeen → Buffer → Placing) → Lookup → ℕ → Rule → Nest → Lookup → Nest
record_for next l at rule s other =
    option_map_or (record_at_place next (seek_charged l rule s) other) (named_place l s.buffer.items at rule s.r) (skipped s)

-- nothing is done once nothing is left
abbrev pub record_step : (Lookup → ℕ → ℕ → BaseSeen → Buffer → Placing) → Lookup → ℕ → Rule → Nest → Nest
record_step next l at rule s = if nat_eq s.left 0 then skipped s
    else option_map_or (record_for next l at rule s) (named_lookup l rule s.r) (skipped s)

-- what the rule matches is unsafe to break with what is around it; it goes on after the last glyph that it matches
abbrev pub rule_placed : (Lookup → ℕ → ℕ → BaseSeen → Buffer → Placing) → Lookup → ℕ → ℕ → BaseSeen → Buffer → Found → Placing
rule_placed next l i left seen b found =
    let s = times (record_step next l i found.rule) found.rule.count
    (record { buffer = broken found.span.start found.span.end b; seen = seen; left = left; r = 0 }) in
    record { buffer = s.buffer; next = Some (found.span.last + 1); seen = s.seen; left = s.left }

-- what rules looked at in vain, up to the first that matches, is unsafe to concat
abbrev pub tried_concat_marked : Lookup → ℕ → Buffer → Buffer
tried_concat_marked l i b = let reach = reach_of l b.items (origin_at i) in
    (if nat_lt reach.from reach.to then concat_marked reach.from reach.to b else b)

abbrev pub first_rule_placed : (Lookup → ℕ → ℕ → BaseSeen → Buffer → Placing) → Lookup → ℕ → ℕ → BaseSeen → Buffer → Placing
first_rule_placed next l i left seen b =
    option_map_or (rule_placed next l i left seen b) (found_of l b.items (origin_at i)) (unplaced left seen b)

abbrev pub level_placed : (Lookup → ℕ → ℕ → BaseSeen → Buffer → Placing) → Lookup → ℕ → ℕ → BaseSeen → Buffer → Placing
level_placed next l i left seen b = if is_context l then first_rule_placed next l i left seen (tried_concat_marked l i b)
    else lookup_placed l i left seen b

-- so many levels of lookups, each named by the one above
abbrev pub nested_placed : ℕ → Lookup → ℕ → ℕ → BaseSeen → Buffer → Placing
nested_placed zero l i left seen b = unplaced left seen b
nested_placed (suc level) l i left seen b =
    if nat_lt i (length b.items) then level_placed (nested_placed level) l i left seen b else unplaced left seen b

-- 64 levels below a lookup of the plan
abbrev pub LEVELS : ℕ
LEVELS = 65

-- ---- lookups that are charged for at a place

-- where what is left doesn't suffice, nothing is done, and nothing is left
abbrev pub placed_by_charge : ℕ → Lookup → ℕ → BaseSeen → Buffer → Option ℕ → Placing
placed_by_charge level l i seen b charge = option_map_or (λ left. nested_placed level l i left seen b) charge (unplaced 0 seen b)

abbrev pub sought_placed : ℕ → Lookup → ℕ → ℕ → BaseSeen → Buffer → Placing
sought_placed level l i left seen b = placed_by_charge level l i seen b (sought_left l b.items (origin_at i) left)

-- at a place of a walk, and where a rule names the lookup
abbrev pub walk_placed : ℕ → Lookup → ℕ → ℕ → BaseSeen → Buffer → Placing
walk_placed level l i left seen b = placed_by_charge level l i seen b (place_charged l b.items (origin_at i) left)

abbrev pub named_placed : ℕ → Lookup → ℕ → ℕ → BaseSeen → Buffer → Placing
named_placed level l i left seen b = placed_by_charge level l i seen b (named_charged l b.items (origin_at i) left)
