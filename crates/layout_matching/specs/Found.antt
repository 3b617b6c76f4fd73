-- The rule of a lookup that matches at a place (OpenType, "Common table formats", sequence context 1 to 3, chained 1 to 3).
use Rattle.std.specs.Prelude.{ℕ, List, Bool, false, Option, None, ◌+◌, ◌-◌, ◌||◌, min, nat_eq, if◌then◌else◌}
use Rattle.std.specs.Option.{option_and_then, option_map, option_map_or, unwrap_or}
use Rattle.shape_font.specs.Bytes.{u16_of, fitting}
use Rattle.shape_items.specs.Items.{Item}
use Rattle.layout_tables.specs.Coverage.{coverage_index, covers}
use Rattle.layout_tables.specs.Offsets.{offset16_of}
use Rattle.layout_tables.specs.Classes.{class_of}
use Rattle.layout_tables.specs.Lookups.{subtable_count_of, subtable_of}
use Rattle.layout_tables.specs.declared.lookups.LookupSubtable.{LookupSubtable}
use Rattle.layout_matching.specs.Loops.{first_some}
use Rattle.layout_matching.specs.Rules.{FAR, is_inside, rules_at, plain_rule, chained, rule_place}
use Rattle.layout_matching.specs.Skipping.{nth}
use Rattle.layout_matching.specs.Spans.{span_of}
use Rattle.layout_matching.specs.declared.found.Found.{Found}
use Rattle.layout_matching.specs.declared.lookup.Lookup.{Lookup}
use Rattle.layout_matching.specs.declared.rules.Rule.{Rule}
use Rattle.layout_matching.specs.declared.rules.Test.TheVariants.{Glyph, Class, Coverage}
use Rattle.layout_matching.specs.declared.spans.Origin.{Origin}

-- the kinds of lookups: context, chained context, and those whose subtables stand far away
abbrev pub context_kind : Lookup → ℕ
context_kind l = if l.positioning then 7 else 5

abbrev pub chained_kind : Lookup → ℕ
chained_kind l = if l.positioning then 8 else 6

abbrev pub extension_kind : Lookup → ℕ
extension_kind l = if l.positioning then 9 else 7

abbrev pub is_chained : Lookup → LookupSubtable → Bool
is_chained l subtable = nat_eq subtable.kind (chained_kind l)

abbrev pub is_context_subtable : Lookup → LookupSubtable → Bool
is_context_subtable l subtable = nat_eq subtable.kind (context_kind l) || is_chained l subtable

-- a rule that leads past the end of the table matches nothing
abbrev pub found_if : Lookup → List Item → Origin → Rule → Option Found
found_if l items origin rule = if is_inside l.table.now rule
    then option_map (λ span. record { rule = rule; span = span }) (span_of l items origin rule) else None

-- format 3: one rule, whose glyphs are lists
abbrev pub whole_rule : List ℕ → Bool → ℕ → Rule
whole_rule t is_chain start = if is_chain then chained t Coverage start start start 1 (start + 2)
    else plain_rule t Coverage start (start + 2) (start + 8)

-- the list of the first glyph stands before the values; a rule of no glyph has none
abbrev pub first_list : List ℕ → ℕ → Rule → Option ℕ
first_list t start rule = if nat_eq rule.input.count 0 then None else offset16_of t start (min rule.input.values FAR - 2)

abbrev pub is_first : List ℕ → ℕ → Rule → ℕ → Bool
is_first t start rule glyph = option_map_or (λ list. covers t list glyph) (first_list t start rule) false

abbrev pub found_whole : Lookup → List Item → Origin → LookupSubtable → Option Found
found_whole l items origin subtable = let rule = whole_rule l.table.now (is_chained l subtable) subtable.start in
    (if is_first l.table.now subtable.start rule (nth items origin.at).glyph_id then found_if l items origin rule else None)

-- formats 1 and 2: rules by the number of the first glyph, whose glyphs are named, or by its class

-- where a ClassDef stands; past the end, where all glyphs are of class 0, if its offset is NULL
abbrev pub class_place : List ℕ → ℕ → ℕ → ℕ
class_place t start at = unwrap_or (offset16_of t start (start + at)) FAR

abbrev pub set_by_class : List ℕ → Bool → ℕ → ℕ → Option ℕ
set_by_class t is_chain start glyph = if is_chain then rules_at t start 10 (class_of t (class_place t start 6) glyph)
    else rules_at t start 6 (class_of t (class_place t start 4) glyph)

abbrev pub set_for : List ℕ → Bool → ℕ → ℕ → ℕ → Option ℕ
set_for t is_chain start glyph number = if nat_eq (u16_of t start) 1 then rules_at t start 4 number
    else (if nat_eq (u16_of t start) 2 then set_by_class t is_chain start glyph else None)

abbrev pub rule_of : List ℕ → Bool → ℕ → ℕ → Rule
rule_of t is_chain start at = if nat_eq (u16_of t start) 1
    then (if is_chain then chained t Glyph start start start 0 at else plain_rule t Glyph start at (at + 4))
    else (if is_chain then chained t Class (class_place t start 4) (class_place t start 6) (class_place t start 8) 0 at
    else plain_rule t Class (class_place t start 4) at (at + 4))

abbrev pub found_at : Lookup → List Item → Origin → LookupSubtable → ℕ → Option Found
found_at l items origin subtable place =
    found_if l items origin (rule_of l.table.now (is_chained l subtable) subtable.start place)

abbrev pub found_rule : Lookup → List Item → Origin → LookupSubtable → ℕ → ℕ → Option Found
found_rule l items origin subtable set r =
    option_and_then (found_at l items origin subtable) (rule_place l.table.now set r)

abbrev pub found_in_set : Lookup → List Item → Origin → LookupSubtable → ℕ → Option Found
found_in_set l items origin subtable set =
    first_some (found_rule l items origin subtable set) (fitting l.table.now (u16_of l.table.now set) (set + 2) 2) 0

abbrev pub found_by_number : Lookup → List Item → Origin → LookupSubtable → ℕ → Option Found
found_by_number l items origin subtable number = option_and_then (found_in_set l items origin subtable)
    (set_for l.table.now (is_chained l subtable) subtable.start (nth items origin.at).glyph_id number)

abbrev pub number_of : List ℕ → ℕ → ℕ → Option ℕ
number_of t start glyph = option_and_then (λ list. coverage_index t list glyph) (offset16_of t start (start + 2))

abbrev pub found_in_sets : Lookup → List Item → Origin → LookupSubtable → Option Found
found_in_sets l items origin subtable = option_and_then (found_by_number l items origin subtable)
    (number_of l.table.now subtable.start (nth items origin.at).glyph_id)

abbrev pub found_in_subtable : Lookup → List Item → Origin → LookupSubtable → Option Found
found_in_subtable l items origin subtable = if is_context_subtable l subtable
    then (if nat_eq (u16_of l.table.now subtable.start) 3 then found_whole l items origin subtable
    else found_in_sets l items origin subtable)
    else None

abbrev pub found_at_subtable : Lookup → List Item → Origin → ℕ → Option Found
found_at_subtable l items origin i =
    option_and_then (found_in_subtable l items origin) (subtable_of l.table.now (extension_kind l) l.place i)

-- the first rule of the first subtable that has one
abbrev pub found_of : Lookup → List Item → Origin → Option Found
found_of l items origin = first_some (found_at_subtable l items origin) (subtable_count_of l.table.now l.place) 0

-- subtable `i`; none if its offset is NULL
abbrev pub subtable_at : Lookup → ℕ → Option LookupSubtable
subtable_at l i = subtable_of l.table.now (extension_kind l) l.place i

-- the first subtable whose offset isn't NULL; all subtables are of the type of the lookup, or of the one that its extensions stand for
abbrev pub first_subtable : Lookup → Option LookupSubtable
first_subtable l = first_some (subtable_at l) (subtable_count_of l.table.now l.place) 0

abbrev pub is_context : Lookup → Bool
is_context l = option_map_or (is_context_subtable l) (first_subtable l) false
