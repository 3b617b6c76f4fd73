-- How far rules look that are tried at a place, up to the first that matches: what they looked at in vain is unsafe to concat.
use Prim.Native.Nat.{zero}
use Rattle.std.specs.Prelude.{ℕ, suc, Bool, true, false, List, Option, Some, None, is_some, ◌+◌, ◌-◌, ◌&&◌, ◌||◌, not, min, max, length}
use Rattle.std.specs.Prelude.{⊤, ◌<◌, nat_eq, nat_lt, nat_le, if◌then◌else◌}
use Rattle.std.specs.Option.{IfSome, option_and_then, option_map_or}
use Rattle.shape_font.specs.Bytes.{u16_of}
use Rattle.shape_font.specs.Search.{first_at}
use Rattle.shape_items.specs.Items.{Item}
use Rattle.layout_tables.specs.Lookups.{subtable_count_of}
use Rattle.layout_tables.specs.declared.lookups.LookupSubtable.{LookupSubtable}
use Rattle.layout_matching.specs.Found.{is_chained, is_context_subtable, whole_rule, is_first, set_for, rule_of, number_of, subtable_at}
use Rattle.layout_matching.specs.Input.{input_step, seek_input, input_matched}
use Rattle.layout_matching.specs.Loops.{stopped}
use Rattle.layout_matching.specs.Rules.{is_inside, rule_place, row, fits_row}
use Rattle.layout_matching.specs.Seeking.{is_between, next_place, prev_place, distance_back, last_after, last_before}
use Rattle.layout_matching.specs.Skipping.{nth, is_transparent}
use Rattle.layout_matching.specs.Sought.{rules_in}
use Rattle.layout_matching.specs.Spans.{seek_around}
use Rattle.layout_matching.specs.declared.input.Matched.{Matched}
use Rattle.layout_matching.specs.declared.lookup.Lookup.{Lookup}
use Rattle.layout_matching.specs.declared.rules.Row.{Row}
use Rattle.layout_matching.specs.declared.rules.Rule.{Rule}
use Rattle.layout_matching.specs.declared.rules.Test.TheVariants.{Any}
use Rattle.layout_matching.specs.declared.seeking.Seek.{Seek}
use Rattle.layout_matching.specs.declared.spans.Origin.{Origin}
use Rattle.layout_matching.specs.declared.foreseen.Ahead.{Ahead}
use Rattle.layout_matching.specs.declared.foreseen.Way.{Way}
use Rattle.layout_matching.specs.declared.foreseen.Way.TheVariants.{Each, Lone, Marked, Unmarked}
use Rattle.layout_matching.specs.declared.tried.Reach.{Reach}

-- ---- spans

-- nothing was looked at yet
abbrev pub untried : ℕ → Reach
untried at = record { from = at; to = at; matched = false }

-- a match, which looked at nothing in vain
abbrev pub match_at : ℕ → Reach
match_at at = record { from = at; to = at; matched = true }

-- in vain from a place on, up to another one, and at the first glyph
abbrev pub vain : ℕ → ℕ → ℕ → Reach
vain at from to = record { from = min at from; to = max at to; matched = false }

abbrev pub joined_reach : Reach → Reach → Reach
joined_reach s r = record { from = min s.from r.from; to = max s.to r.to; matched = s.matched || r.matched }

-- one after the other, until one matches
abbrev pub until_matched : (ℕ → Reach) → ℕ → ℕ → Reach → Reach
until_matched f zero i s = s
until_matched f (suc n) i s = if s.matched then s else until_matched f n (suc i) (joined_reach s (f i))

-- ---- searches

-- a search after place `i` ended after the glyph that may not stand between, or at the end of the list
abbrev pub stop_after : Lookup → Seek → List Item → ℕ → ℕ → ℕ
stop_after l seek items k i = option_map_or (λ j. j + 1)
    (first_at (λ j. not (is_between l seek k (nth items j))) (length items - (i + 1)) (i + 1)) (length items)

-- one before place `i` ended a glyph before that glyph, or at the start of the list
abbrev pub stop_before : Lookup → Seek → List Item → ℕ → ℕ → ℕ
stop_before l seek items k i = option_map_or (λ d. i - 1 - d - 1) (distance_back l seek items k i) 0

-- a glyph that fits, and belongs to another ligature, counts for nothing
abbrev pub input_stop : Lookup → Seek → List Item → ℕ → Matched → ℕ
input_stop l seek items k m = if is_some (next_place l seek items k m.last) then 0 else stop_after l seek items k m.last

-- where the glyphs of a row stopped that aren't all there
abbrev pub input_end : Lookup → List Item → ℕ → Row → ℕ
input_end l items at row = let seek = seek_input l (nth items at) row in
    (if nat_lt 64 row.count then 0
    else stopped (input_step l seek items at) (input_stop l seek items) (row.count - 1) 0 (record { last = at; all_marks = true }))

abbrev pub after_end : Lookup → Seek → List Item → ℕ → ℕ → ℕ
after_end l seek items n i = stopped (next_place l seek items) (stop_after l seek items) n 0 i

abbrev pub before_start : Lookup → Seek → List Item → ℕ → ℕ → ℕ
before_start l seek items n i = stopped (prev_place l seek items) (stop_before l seek items) n 0 i

-- ---- rules

-- what stands before is looked for last
abbrev pub before_reach : Lookup → List Item → Origin → Rule → ℕ → Reach
before_reach l items origin rule end =
    let seek = seek_around l (nth items origin.at) origin.is_steady rule.before in
    option_map_or (λ start. match_at origin.at) (last_before l seek items rule.before.count origin.at)
    (vain origin.at (before_start l seek items rule.before.count origin.at) end)

abbrev pub after_reach : Lookup → List Item → Origin → Rule → ℕ → Reach
after_reach l items origin rule last =
    let seek = seek_around l (nth items origin.at) (nat_eq last origin.at) rule.after in
    option_map_or (λ far. before_reach l items origin rule (far + 1)) (last_after l seek items rule.after.count last)
    (vain origin.at origin.at (after_end l seek items rule.after.count last))

-- where the glyphs of a chained rule aren't all there, HarfBuzz marks nothing
abbrev pub input_reach : Lookup → List Item → ℕ → Bool → Rule → Reach
input_reach l items at is_chain rule = if is_chain then untried at else vain at at (input_end l items at rule.input)

abbrev pub rule_reach : Lookup → List Item → Origin → Bool → Rule → Reach
rule_reach l items origin is_chain rule = if is_inside l.table.now rule
    then option_map_or (λ m. after_reach l items origin rule m.last) (input_matched l items origin.at rule.input)
    (input_reach l items origin.at is_chain rule)
    else untried origin.at

-- ---- subtables of a lookup

abbrev pub whole_reach : Lookup → List Item → Origin → LookupSubtable → Reach
whole_reach l items origin subtable = let rule = whole_rule l.table.now (is_chained l subtable) subtable.start in
    (if is_first l.table.now subtable.start rule (nth items origin.at).glyph_id then rule_reach l items origin (is_chained l subtable) rule
    else untried origin.at)

-- ---- sets of rules

-- the next glyph of what is matched, whatever it is
abbrev pub seen_after : Lookup → List Item → ℕ → ℕ → Option ℕ
seen_after l items at i = next_place l (seek_input l (nth items at) (row Any 0 1 0)) items 0 i

-- unless it may be passed over
abbrev pub surely : Lookup → List Item → ℕ → Option ℕ
surely l items j = if is_transparent l true (nth items j) then None else Some j

-- what a rule looks for right after its first glyph, and after that: a glyph of its own, or one behind those
abbrev pub lets_next : List ℕ → Rule → ℕ → Bool
lets_next t rule glyph = if nat_lt 1 rule.input.count then fits_row t rule.input 0 glyph
    else nat_eq rule.after.count 0 || fits_row t rule.after 0 glyph

abbrev pub lets_second : List ℕ → Rule → ℕ → Bool
lets_second t rule glyph = let k = 2 - max 1 rule.input.count in
    (if nat_lt 2 rule.input.count then fits_row t rule.input 1 glyph else nat_le rule.after.count k || fits_row t rule.after k glyph)

-- where a rule ends that doesn't let one of the two glyphs stand there
abbrev pub foreseen : Lookup → List Item → Ahead → Rule → Option ℕ
foreseen l items ahead rule = if lets_next l.table.now rule (nth items ahead.next).glyph_id
    then option_and_then (λ j. if lets_second l.table.now rule (nth items j).glyph_id then None else Some (j + 1)) ahead.second
    else Some (ahead.next + 1)

-- the glyphs ahead stand in a list of so many
abbrev pub IsAhead : ℕ → Way → Type 0
IsAhead count Each = ⊤
IsAhead count Lone = ⊤
IsAhead count (Marked ahead) = (ahead.next < count) × IfSome ahead.second (λ j. j < count)
IsAhead count (Unmarked ahead) = (ahead.next < count) × IfSome ahead.second (λ j. j < count)

-- a rule is tried; or it is if it looks for no glyph after its first one; or if the glyphs after that don't refuse it, with or
-- without a mark on what was asked
abbrev pub way_reach : Lookup → List Item → Origin → Bool → Way → Rule → Reach
way_reach l items origin is_chain Each rule = rule_reach l items origin is_chain rule
way_reach l items origin is_chain Lone rule = if nat_le rule.input.count 1 && nat_eq rule.after.count 0
    then rule_reach l items origin is_chain rule else untried origin.at
way_reach l items origin is_chain (Marked ahead) rule =
    option_map_or (vain origin.at origin.at) (foreseen l items ahead rule) (rule_reach l items origin is_chain rule)
way_reach l items origin is_chain (Unmarked ahead) rule =
    option_map_or (λ end. untried origin.at) (foreseen l items ahead rule) (rule_reach l items origin is_chain rule)

abbrev pub rule_reach_in : Lookup → List Item → Origin → LookupSubtable → Way → ℕ → ℕ → Reach
rule_reach_in l items origin subtable way set r = option_map_or (λ place. way_reach l items origin (is_chained l subtable) way
    (rule_of l.table.now (is_chained l subtable) subtable.start place)) (rule_place l.table.now set r) (untried origin.at)

abbrev pub rules_reach : Lookup → List Item → Origin → LookupSubtable → ℕ → Way → Reach → Reach
rules_reach l items origin subtable set way start = until_matched (rule_reach_in l items origin subtable way set) (rules_in l set) 0 start

-- of a set of more than four rules HarfBuzz asks first whether they let the two glyphs after the place stand there. Plain rules
-- are asked for the next one in any case. Where a rule matches it marks other glyphs; here what was asked isn't marked then
abbrev pub asked : ℕ → Bool → ℕ → Reach
asked at is_chain next = if is_chain then untried at else vain at at (next + 1)

abbrev pub ahead_of : Lookup → List Item → ℕ → ℕ → Ahead
ahead_of l items at next = record { next = next; second = option_and_then (surely l items) (seen_after l items at next) }

abbrev pub large_reach : Lookup → List Item → Origin → LookupSubtable → ℕ → ℕ → Reach
large_reach l items origin subtable set next = let ahead = ahead_of l items origin.at next in
    let all = rules_reach l items origin subtable set (Marked ahead) (asked origin.at (is_chained l subtable) next) in
    (if all.matched then rules_reach l items origin subtable set (Unmarked ahead) (untried origin.at) else all)

-- of chained rules only where joiners are passed over by themselves
abbrev pub is_large : Lookup → LookupSubtable → ℕ → Bool
is_large l subtable set = nat_lt 4 (rules_in l set) && (not (is_chained l subtable) || (l.auto_zwnj && l.auto_zwj))

-- at the end of what is matched, where the next glyph may be passed over, and elsewhere
abbrev pub set_reach : Lookup → List Item → Origin → LookupSubtable → ℕ → Reach
set_reach l items origin subtable set = let each = rules_reach l items origin subtable set Each (untried origin.at) in
    (if is_large l subtable set
    then option_map_or (λ next. option_map_or (large_reach l items origin subtable set) (surely l items next) each)
    (seen_after l items origin.at origin.at) (rules_reach l items origin subtable set Lone (untried origin.at))
    else each)

abbrev pub number_reach : Lookup → List Item → Origin → LookupSubtable → ℕ → Reach
number_reach l items origin subtable number = option_map_or (set_reach l items origin subtable)
    (set_for l.table.now (is_chained l subtable) subtable.start (nth items origin.at).glyph_id number) (untried origin.at)

abbrev pub sets_reach : Lookup → List Item → Origin → LookupSubtable → Reach
sets_reach l items origin subtable = option_map_or (number_reach l items origin subtable)
    (number_of l.table.now subtable.start (nth items origin.at).glyph_id) (untried origin.at)

abbrev pub subtable_reach : Lookup → List Item → Origin → LookupSubtable → Reach
subtable_reach l items origin subtable = if is_context_subtable l subtable
    then (if nat_eq (u16_of l.table.now subtable.start) 3 then whole_reach l items origin subtable else sets_reach l items origin subtable)
    else untried origin.at

abbrev pub reach_at_subtable : Lookup → List Item → Origin → ℕ → Reach
reach_at_subtable l items origin i = option_map_or (subtable_reach l items origin) (subtable_at l i) (untried origin.at)

abbrev pub reach_of : Lookup → List Item → Origin → Reach
reach_of l items origin =
    until_matched (reach_at_subtable l items origin) (subtable_count_of l.table.now l.place) 0 (untried origin.at)
