-- What a lookup is charged for at a place before it is tried there: one for each glyph that it may have to look at, so that time is
-- in step with what was charged.
use Rattle.std.specs.Prelude.{◌≡◌, ℕ, List, Bool, true, false, Option, Some, None, ◌+◌, ◌-◌, ◌*◌, ◌/◌, ◌&&◌, ◌||◌, not, max, min, length, nat_eq, nat_lt}
use Rattle.std.specs.Prelude.{fold, if◌then◌else◌}
use Rattle.std.specs.Option.{option_and_then, option_map, option_map_or}
use Rattle.shape_font.specs.Bytes.{u16_of, fitting}
use Rattle.shape_items.specs.Buffer.{most_countable}
use Rattle.shape_items.specs.Items.{Item}
use Rattle.layout_tables.specs.Lookups.{lookup_type_of, subtable_count_of}
use Rattle.layout_tables.specs.declared.lookups.LookupSubtable.{LookupSubtable}
use Rattle.layout_matching.specs.Found.{is_chained, is_context, is_context_subtable, whole_rule, is_first, set_for, rule_of, number_of, subtable_at}
use Rattle.layout_matching.specs.Glance.{glances_in, is_refused}
use Rattle.layout_matching.specs.Input.{marks_passed}
use Rattle.layout_matching.specs.Loops.{steps, along}
use Rattle.layout_matching.specs.Rules.{rules_at, row, rule_place}
use Rattle.layout_matching.specs.Skipping.{nth, shares, is_skipped, is_transparent}
use Rattle.layout_matching.specs.declared.glance.Glances.{Glances}
use Rattle.layout_matching.specs.declared.lookup.Lookup.{Lookup}
use Rattle.layout_matching.specs.declared.passing.Passing.{Passing}
use Rattle.layout_matching.specs.declared.rules.Rule.{Rule}
use Rattle.layout_matching.specs.declared.rules.Test.TheVariants.{Glyph, Coverage}
use Rattle.layout_matching.specs.declared.remembered.Beside.{Beside}
use Rattle.layout_matching.specs.declared.tally.Counts.{Counts}
use Rattle.layout_matching.specs.declared.tally.Tally.{Tally}
use Rattle.layout_matching.specs.declared.tally.Tries.{Tries}

-- what is left after so much, if it suffices
abbrev pub charged : ℕ → ℕ → Option ℕ
charged work left = if nat_lt left work then None else Some (left - work)

-- ---- glyphs that are passed over beside a place

abbrev pub is_passed : Lookup → Item → Bool
is_passed l item = is_skipped l item || is_transparent l false item

-- a look at a glyph, which is compared with another one
abbrev pub COMPARED : ℕ
COMPARED = 1

-- a search for it in a list
abbrev pub SEARCH_WORK : ℕ
SEARCH_WORK = 7

abbrev pub one_if : Bool → ℕ
one_if t = if t then 1 else 0

-- the lists that a glyph is searched for in that is passed over: a mark in the set of marks of the lookup, and a default ignorable,
-- which may be the glyph that is looked for, in the list that a rule names it by (`listed`), or in its classes
abbrev pub searches : Lookup → Bool → Item → ℕ
searches l listed item =
    one_if (shares l.flags 16 && shares item.properties.glyph_class.0 8) + one_if (listed && not (is_skipped l item))

abbrev pub passing_work : Lookup → Bool → Item → ℕ
passing_work l listed item = COMPARED + searches l listed item * SEARCH_WORK

abbrev pub passing_step : Lookup → Bool → Item → Passing → Passing
passing_step l listed item s = if nat_eq s.stops 0 then s
    else (if is_passed l item then record s { total = min (s.total + passing_work l listed item) most_countable }
    else record s { stops = s.stops - 1 })

abbrev pub to_stops : ℕ → Passing
to_stops n = record { stops = n; total = 0 }

-- what is passed over on the way to glyph number `n` that isn't; up to the end of the list if there are fewer
abbrev pub passed_after : Lookup → Bool → List Item → ℕ → ℕ → ℕ
passed_after l listed items at n =
    (along (λ j. passing_step l listed (nth items j)) (length items - (at + 1)) (at + 1) (to_stops n)).total

abbrev pub passed_before : Lookup → Bool → List Item → ℕ → ℕ → ℕ
passed_before l listed items at n = (along (λ d. passing_step l listed (nth items (at - 1 - d))) at 0 (to_stops n)).total

-- ---- rules and ligatures

-- before the first rule
abbrev pub uncounted : ℕ → Tally
uncounted left = record { left = left; before = 0; after = 0; tries = 0 }

-- how many glyphs a rule has before its place, from there on and behind these, and how many lookups it names
abbrev pub counts_of : Rule → Counts
counts_of rule =
    record { before = rule.before.count; input = rule.input.count; after = rule.after.count; lookups = rule.count }

-- each of its glyphs, each of its lookups, and the rule
abbrev pub counts_work : Counts → ℕ
counts_work c = c.before + c.input + c.after + c.lookups + 1

abbrev pub counts_tallied : Counts → Tally → ℕ → Tally
counts_tallied c s left = record {
  left = left;
  before = max s.before c.before;
  after = max s.after (c.input - 1 + c.after);
  tries = min (s.tries + (c.lookups + 1)) most_countable;
}

abbrev pub counted : Counts → Tally → Option Tally
counted c s = option_map (counts_tallied c s) (charged (counts_work c) s.left)

abbrev pub rule_counted : Rule → Tally → Option Tally
rule_counted rule s = counted (counts_of rule) s

abbrev pub passed_beside : Lookup → Bool → List Item → ℕ → Tally → ℕ
passed_beside l listed items at s =
    min (passed_after l listed items at s.after + passed_before l listed items at s.before) most_countable

-- what is passed over, and one for every four marks that are looked at for the ligature that a mark stands on
abbrev pub passed : Lookup → Bool → List Item → ℕ → Tally → ℕ
passed l listed items at s = min (passed_beside l listed items at s + marks_passed l items at / 4) most_countable

-- what rules that look so far pass over at a place
abbrev pub IsBeside : Lookup → Bool → List Item → ℕ → Beside → Type 0
IsBeside l listed items at s =
    s.passed ≡ passed l listed items at (record { left = 0; before = s.before; after = s.after; tries = 0 })

-- each time that is looked at too
abbrev pub passed_charged : Lookup → Bool → List Item → ℕ → Tally → Option ℕ
passed_charged l listed items at s = charged (min (s.tries * passed l listed items at s) most_countable) s.left

-- a rule of format 3 or kind 8 searches a list for each of its glyphs
abbrev pub lists_charged : Rule → ℕ → Option ℕ
lists_charged rule left = charged ((rule.before.count + rule.input.count + rule.after.count) * SEARCH_WORK) left

abbrev pub counted_charged : Lookup → List Item → ℕ → Rule → ℕ → Option ℕ
counted_charged l items at rule left = option_and_then (passed_charged l true items at) (rule_counted rule (uncounted left))

abbrev pub rule_charged : Lookup → List Item → ℕ → Rule → ℕ → Option ℕ
rule_charged l items at rule left = option_and_then (counted_charged l items at rule) (lists_charged rule left)

-- a ligature as a rule, whose components are counted after its glyph
abbrev pub ligature_rule : List ℕ → ℕ → Rule
ligature_rule t place = let none = row Glyph 0 0 0 in
    record { before = none; input = row Glyph 0 (u16_of t (place + 2)) 0; after = none; lookups = 0; count = 0 }

-- ---- rules by their counts alone

-- those of a rule of format 1 or 2 at a place; in a chained one the rows follow one after the other
abbrev pub counts_behind : List ℕ → ℕ → ℕ → ℕ → Counts
counts_behind t before input values = let follows = values + 2 * (input - 1) in
    let after = u16_of t follows in
    record { before = before; input = input; after = after; lookups = u16_of t (follows + 2 + 2 * after) }

abbrev pub chain_counts : List ℕ → ℕ → Counts
chain_counts t at = let before = u16_of t at in
    let middle = at + 2 + 2 * before in
    counts_behind t before (u16_of t middle) (middle + 2)

abbrev pub counts_at : List ℕ → Bool → ℕ → Counts
counts_at t is_chain at = if is_chain then chain_counts t at
    else record { before = 0; input = u16_of t at; after = 0; lookups = u16_of t (at + 2) }

abbrev pub ligature_counts : List ℕ → ℕ → Counts
ligature_counts t place = record { before = 0; input = u16_of t (place + 2); after = 0; lookups = 0 }

abbrev pub part_counts : Lookup → LookupSubtable → ℕ → Counts
part_counts l subtable place = if is_context_subtable l subtable then counts_at l.table.now (is_chained l subtable) place
    else ligature_counts l.table.now place

-- ---- sets

abbrev pub part_rule : Lookup → LookupSubtable → ℕ → Rule
part_rule l subtable place = if is_context_subtable l subtable then rule_of l.table.now (is_chained l subtable) subtable.start place
    else ligature_rule l.table.now place

-- number `r` of those at `set`; a NULL offset is read
abbrev pub null_counted : Tally → Option Tally
null_counted s = option_map (λ left. record s { left = left }) (charged 1 s.left)

abbrev pub part_counted : Lookup → LookupSubtable → ℕ → ℕ → Tally → Option Tally
part_counted l subtable set r s =
    option_map_or (λ place. rule_counted (part_rule l subtable place) s) (rule_place l.table.now set r) (null_counted s)

-- a set, and a subtable that has none, looks for the glyph before and the one after
abbrev pub beside : ℕ → Tally
beside left = record { left = left; before = 1; after = 1; tries = 1 }

-- all of a set, whether they are tried or not
abbrev pub set_counted : Lookup → LookupSubtable → ℕ → ℕ → Option Tally
set_counted l subtable left set =
    steps (part_counted l subtable set) (fitting l.table.now (u16_of l.table.now set) (set + 2) 2) 0 (beside left)

-- a rule that the glyph beside the place refuses looks at no other one
abbrev pub is_vain : Lookup → LookupSubtable → Glances → ℕ → Bool
is_vain l subtable around place = is_context_subtable l subtable && is_refused l.table.now around (is_chained l subtable) place

abbrev pub rule_tried : Lookup → LookupSubtable → Glances → ℕ → Tries → Tries
rule_tried l subtable around place s = if is_vain l subtable around place then s else record {
  rules = min (s.rules + 1) most_countable;
  lookups = max s.lookups (part_counts l subtable place).lookups;
}

abbrev pub tries_step : Lookup → LookupSubtable → Glances → ℕ → ℕ → Tries → Tries
tries_step l subtable around set r s =
    option_map_or (λ place. rule_tried l subtable around place s) (rule_place l.table.now set r) s

-- in any syllable, where fewer are refused
abbrev pub glances_at : Lookup → List Item → ℕ → LookupSubtable → Glances
glances_at l items at subtable = glances_in l items (record { at = at; is_steady = false }) subtable

abbrev pub set_tries : Lookup → List Item → ℕ → LookupSubtable → ℕ → Tries
set_tries l items at subtable set = along (tries_step l subtable (glances_at l items at subtable) set)
    (fitting l.table.now (u16_of l.table.now set) (set + 2) 2) 0 (record { rules = 0; lookups = 0 })

-- the set looks beside the place once, each of its rules once, and the one that applies once more for each lookup that it names
abbrev pub tries_made : Tries → ℕ
tries_made s = min (1 + s.rules + s.lookups) most_countable

-- format 2 names glyphs by classes
abbrev pub has_classes : Lookup → LookupSubtable → Bool
has_classes l subtable = is_context_subtable l subtable && nat_eq (u16_of l.table.now subtable.start) 2

abbrev pub set_passed : Lookup → List Item → ℕ → LookupSubtable → ℕ → Tally → Option ℕ
set_passed l items at subtable set s = passed_charged l (has_classes l subtable) items at
    (record s { tries = tries_made (set_tries l items at subtable set) })

abbrev pub set_charged : Lookup → List Item → ℕ → LookupSubtable → ℕ → ℕ → Option ℕ
set_charged l items at subtable left set = option_and_then (set_passed l items at subtable set) (set_counted l subtable left set)

-- ---- subtables

abbrev pub SUBTABLE_WORK : ℕ
SUBTABLE_WORK = 8

-- kind 4 of `GSUB`
abbrev pub is_ligature : Lookup → LookupSubtable → Bool
is_ligature l subtable = not l.positioning && nat_eq subtable.kind 4

-- kind 8 of `GSUB`: the glyphs before it, and those after it
abbrev pub backward_rule : List ℕ → ℕ → Rule
backward_rule t start = let before = u16_of t (start + 4) in record {
  before = row Coverage 0 before 0;
  input = row Coverage 0 1 0;
  after = row Coverage 0 (u16_of t (start + 6 + 2 * before)) 0;
  lookups = 0;
  count = 0;
}

abbrev pub is_backward : Lookup → LookupSubtable → Bool
is_backward l subtable = not l.positioning && nat_eq subtable.kind 8

-- the rules, or the ligatures, for a glyph with this number
abbrev pub parts_for : Lookup → LookupSubtable → ℕ → ℕ → Option ℕ
parts_for l subtable glyph number = if is_context_subtable l subtable
    then set_for l.table.now (is_chained l subtable) subtable.start glyph number
    else (if is_ligature l subtable then rules_at l.table.now subtable.start 4 number else None)

-- an alternate at random marks the whole list
abbrev pub whole_list : Lookup → List Item → LookupSubtable → ℕ
whole_list l items subtable = if not l.positioning && nat_eq subtable.kind 3 && l.random then length items else 0

abbrev pub begun_charged : Lookup → List Item → LookupSubtable → ℕ → Option ℕ
begun_charged l items subtable left = option_and_then (charged SUBTABLE_WORK) (charged (whole_list l items subtable) left)

abbrev pub parts_charged : Lookup → List Item → ℕ → LookupSubtable → ℕ → ℕ → Option ℕ
parts_charged l items at subtable number left = if is_backward l subtable
    then rule_charged l items at (backward_rule l.table.now subtable.start) left
    else option_map_or (set_charged l items at subtable left)
    (parts_for l subtable (nth items at).glyph_id number) (passed_charged l false items at (beside left))

abbrev pub numbered_charged : Lookup → List Item → ℕ → LookupSubtable → ℕ → ℕ → Option ℕ
numbered_charged l items at subtable left number =
    option_and_then (parts_charged l items at subtable number) (begun_charged l items subtable left)

-- format 3 of context
abbrev pub whole_charged : Lookup → List Item → ℕ → LookupSubtable → ℕ → Option ℕ
whole_charged l items at subtable left = let rule = whole_rule l.table.now (is_chained l subtable) subtable.start in
    (if is_first l.table.now subtable.start rule (nth items at).glyph_id
    then option_and_then (rule_charged l items at rule) (begun_charged l items subtable left)
    else Some left)

abbrev pub is_whole : Lookup → LookupSubtable → Bool
is_whole l subtable = is_context_subtable l subtable && nat_eq (u16_of l.table.now subtable.start) 3

-- a subtable that doesn't begin with the glyph is free
abbrev pub subtable_charged : Lookup → List Item → ℕ → ℕ → LookupSubtable → Option ℕ
subtable_charged l items at left subtable = if is_whole l subtable then whole_charged l items at subtable left
    else option_map_or (numbered_charged l items at subtable left)
    (number_of l.table.now subtable.start (nth items at).glyph_id) (Some left)

abbrev pub charged_at_subtable : Lookup → List Item → ℕ → ℕ → ℕ → Option ℕ
charged_at_subtable l items at i left = option_map_or (subtable_charged l items at left) (subtable_at l i) (Some left)

-- ---- lookups

-- whether no subtable has rules or ligatures, or marks a whole list, by the type of the lookup: in `GPOS` all but context, in
-- `GSUB` kinds 1 and 2, and 3 if it isn't at random
abbrev pub is_plain : Lookup → Bool
is_plain l = let type = lookup_type_of l.table.now l.place in
    (if l.positioning then not (is_context l) else nat_eq type 1 || nat_eq type 2 || (nat_eq type 3 && not l.random))

-- the subtables that begin with the glyph at a place; none if what is left doesn't suffice for all of them
abbrev pub subtables_charged : Lookup → List Item → ℕ → ℕ → Option ℕ
subtables_charged l items at left = steps (charged_at_subtable l items at) (subtable_count_of l.table.now l.place) 0 left

-- A plain lookup is paid by the walk over a list, or where a rule names it: a glyph that isn't passed over ends the searches of
-- the glyphs beside it, so that all of them together look at each glyph twice. One that is passed over, but where the lookup
-- may begin, ends none.
abbrev pub is_paid : Lookup → Item → Bool
is_paid l item = is_plain l && not (is_transparent l false item)

abbrev pub lookup_charged : Lookup → List Item → ℕ → ℕ → Option ℕ
lookup_charged l items at left = if is_paid l (nth items at) then Some left else subtables_charged l items at left

-- what each of the subtables costs at each item of a list, whether it begins there or not
abbrev pub STEP_WORK : ℕ
STEP_WORK = 8

abbrev pub PLAIN_WORK : ℕ
PLAIN_WORK = 16

-- at the coordinates of a variable font, devices of values and anchors add what sets of deltas say
abbrev pub devices_work : Lookup → ℕ
devices_work l = if l.positioning then l.device_work else 0

abbrev pub step_work : Lookup → ℕ
step_work l = if is_plain l then PLAIN_WORK + devices_work l else STEP_WORK

-- for all of them; a lookup without subtables costs as much as one with one, since its walk looks at the list too
abbrev pub steps_work : Lookup → ℕ
steps_work l = max (subtable_count_of l.table.now l.place) 1 * step_work l

abbrev pub NESTED_WORK : ℕ
NESTED_WORK = 32

-- a lookup that a rule names is charged for all of its subtables, and for what it may look at beside the place, since many may be
-- named at one
abbrev pub nested_charged : Lookup → List Item → ℕ → ℕ → Option ℕ
nested_charged l items at left =
    option_and_then (subtables_charged l items at) (charged (steps_work l + NESTED_WORK) left)

-- one that goes over a list, for each of its subtables at each item
abbrev pub walk_work : Lookup → ℕ → ℕ
walk_work l count = min (count * steps_work l) most_countable

-- what is left after each of these lookups was charged for its walk over so many items, and none was made
abbrev pub walks_charged : List Lookup → ℕ → ℕ → ℕ
walks_charged ls count left = fold (λ rest l. rest - walk_work l count) left ls
