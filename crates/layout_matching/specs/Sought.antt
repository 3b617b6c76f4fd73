-- The rule of a lookup of context that applies at a place, and what looking for it costs: what is looked at is charged for before,
-- and nothing after the rule that applies. So what any lookup costs at a place.
use Rattle.std.specs.Prelude.{ℕ, List, Bool, Option, Some, None, ◌+◌, ◌||◌, not, nat_eq, nat_le, is_some, length, if◌then◌else◌}
use Rattle.std.specs.Option.{option_and_then, option_map, option_map_or}
use Rattle.shape_font.specs.Bytes.{u16_of, fitting}
use Rattle.shape_items.specs.Items.{Item}
use Rattle.layout_tables.specs.Lookups.{subtable_count_of}
use Rattle.layout_tables.specs.declared.lookups.LookupSubtable.{LookupSubtable}
use Rattle.layout_matching.specs.Found.{is_chained, is_context_subtable, is_context, whole_rule, is_first, set_for, number_of, subtable_at, found_if, found_at}
use Rattle.layout_matching.specs.Glance.{glances_in, is_refused}
use Rattle.layout_matching.specs.Loops.{steps}
use Rattle.layout_matching.specs.Rules.{rule_place}
use Rattle.layout_matching.specs.Skipping.{nth}
use Rattle.layout_matching.specs.Work.{charged, uncounted, beside, counted, counts_at, passed_charged, has_classes, rule_charged, SUBTABLE_WORK}
use Rattle.layout_matching.specs.Work.{lookup_charged, nested_charged, steps_work, NESTED_WORK}
use Rattle.layout_matching.specs.declared.lookup.Lookup.{Lookup}
use Rattle.layout_matching.specs.declared.sought.Sought.{Sought}
use Rattle.layout_matching.specs.declared.spans.Origin.{Origin}

abbrev pub unfound : ℕ → Sought
unfound left = record { left = left; found = None }

-- one step more, unless something is found already
abbrev pub unless_found : (ℕ → ℕ → Option Sought) → ℕ → Sought → Option Sought
unless_found f k s = if is_some s.found then Some s else f k s.left

-- ---- the rules of a set

-- a rule that begins past the end of the table, or that the glyphs beside the place refuse
abbrev pub is_idle : Lookup → List Item → Origin → LookupSubtable → ℕ → Bool
is_idle l items origin subtable place = not (nat_le (place + 4) (length l.table.now))
    || is_refused l.table.now (glances_in l items origin subtable) (is_chained l subtable) place

-- any other one costs each of its glyphs and lookups, 1, and what it passes over, once and once more for each of its lookups
abbrev pub rule_paid : Lookup → List Item → ℕ → LookupSubtable → ℕ → ℕ → Option ℕ
rule_paid l items at subtable left place = option_and_then (passed_charged l (has_classes l subtable) items at)
    (counted (counts_at l.table.now (is_chained l subtable) place) (uncounted left))

-- one that is looked at
abbrev pub tried_sought : Lookup → List Item → Origin → LookupSubtable → ℕ → ℕ → Option Sought
tried_sought l items origin subtable left place =
    option_map (λ rest. record { left = rest; found = found_at l items origin subtable place })
    (rule_paid l items origin.at subtable left place)

abbrev pub place_sought : Lookup → List Item → Origin → LookupSubtable → ℕ → ℕ → Option Sought
place_sought l items origin subtable left place = if is_idle l items origin subtable place then Some (unfound left)
    else tried_sought l items origin subtable left place

abbrev pub rule_sought : Lookup → List Item → Origin → LookupSubtable → ℕ → ℕ → ℕ → Option Sought
rule_sought l items origin subtable set r left =
    option_map_or (place_sought l items origin subtable left) (rule_place l.table.now set r) (Some (unfound left))

abbrev pub rules_in : Lookup → ℕ → ℕ
rules_in l set = fitting l.table.now (u16_of l.table.now set) (set + 2) 2

-- a set costs one for each of its rules, and what is passed over to the glyph before the place and to the one after
abbrev pub set_paid : Lookup → List Item → ℕ → LookupSubtable → ℕ → ℕ → Option ℕ
set_paid l items at subtable left set =
    option_and_then (λ rest. passed_charged l (has_classes l subtable) items at (beside rest)) (charged (rules_in l set) left)

abbrev pub rules_sought : Lookup → List Item → Origin → LookupSubtable → ℕ → ℕ → Option Sought
rules_sought l items origin subtable set left =
    steps (unless_found (rule_sought l items origin subtable set)) (rules_in l set) 0 (unfound left)

abbrev pub set_sought : Lookup → List Item → Origin → LookupSubtable → ℕ → ℕ → Option Sought
set_sought l items origin subtable left set =
    option_and_then (rules_sought l items origin subtable set) (set_paid l items origin.at subtable left set)

-- ---- subtables

abbrev pub numbered_sought : Lookup → List Item → Origin → LookupSubtable → ℕ → ℕ → Option Sought
numbered_sought l items origin subtable number left = option_map_or (set_sought l items origin subtable left)
    (set_for l.table.now (is_chained l subtable) subtable.start (nth items origin.at).glyph_id number) (Some (unfound left))

-- formats 1 and 2
abbrev pub sets_sought : Lookup → List Item → Origin → LookupSubtable → ℕ → Option Sought
sets_sought l items origin subtable left =
    option_map_or (λ number. option_and_then (numbered_sought l items origin subtable number) (charged SUBTABLE_WORK left))
    (number_of l.table.now subtable.start (nth items origin.at).glyph_id) (Some (unfound left))

-- format 3
abbrev pub first_sought : Lookup → List Item → Origin → LookupSubtable → ℕ → Option Sought
first_sought l items origin subtable left = let rule = whole_rule l.table.now (is_chained l subtable) subtable.start in
    option_map (λ rest. record { left = rest; found = found_if l items origin rule }) (rule_charged l items origin.at rule left)

abbrev pub whole_sought : Lookup → List Item → Origin → LookupSubtable → ℕ → Option Sought
whole_sought l items origin subtable left =
    if is_first l.table.now subtable.start (whole_rule l.table.now (is_chained l subtable) subtable.start) (nth items origin.at).glyph_id
    then option_and_then (first_sought l items origin subtable) (charged SUBTABLE_WORK left) else Some (unfound left)

-- one that doesn't begin with the glyph is free
abbrev pub subtable_sought : Lookup → List Item → Origin → ℕ → LookupSubtable → Option Sought
subtable_sought l items origin left subtable = if is_context_subtable l subtable
    then (if nat_eq (u16_of l.table.now subtable.start) 3 then whole_sought l items origin subtable left
    else sets_sought l items origin subtable left)
    else Some (unfound left)

abbrev pub sought_at_subtable : Lookup → List Item → Origin → ℕ → ℕ → Option Sought
sought_at_subtable l items origin i left = option_map_or (subtable_sought l items origin left) (subtable_at l i) (Some (unfound left))

-- one that begins with the glyph, if it has one rule
abbrev pub begun_sought : Lookup → List Item → Origin → ℕ → LookupSubtable → Option Sought
begun_sought l items origin left subtable = if nat_eq (u16_of l.table.now subtable.start) 3
    then option_and_then (first_sought l items origin subtable) (charged SUBTABLE_WORK left)
    else sets_sought l items origin subtable left

-- ---- lookups

-- up to the first rule that applies; none if what is left doesn't suffice
abbrev pub sought : Lookup → List Item → Origin → ℕ → Option Sought
sought l items origin left =
    steps (unless_found (sought_at_subtable l items origin)) (subtable_count_of l.table.now l.place) 0 (unfound left)

-- ---- what a lookup costs at a place

abbrev pub sought_left : Lookup → List Item → Origin → ℕ → Option ℕ
sought_left l items origin left = option_map (λ (s : Sought). s.left) (sought l items origin left)

-- one of context is charged for as its rule is sought, any other one before it is tried
abbrev pub place_charged : Lookup → List Item → Origin → ℕ → Option ℕ
place_charged l items origin left = if is_context l then sought_left l items origin left else lookup_charged l items origin.at left

-- one that a rule names costs more
abbrev pub named_charged : Lookup → List Item → Origin → ℕ → Option ℕ
named_charged l items origin left = if is_context l
    then option_and_then (sought_left l items origin) (charged (steps_work l + NESTED_WORK) left)
    else nested_charged l items origin.at left
