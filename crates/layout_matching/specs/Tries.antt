-- What lookups try, as a count over the steps of their definitions: the subtables that are asked at a glyph, up to the first that
-- applies, and in a subtable the rules that are compared there, up to the first that matches.
use Prim.Native.Nat.{zero}
use Rattle.std.specs.Prelude.{ℕ, suc, List, Option, ◌+◌, is_some, nat_eq, if◌then◌else◌}
use Rattle.std.specs.Option.{option_map_or}
use Rattle.shape_font.specs.Bytes.{u16_of}
use Rattle.shape_items.specs.Items.{Item}
use Rattle.layout_tables.specs.Lookups.{subtable_count_of}
use Rattle.layout_tables.specs.declared.lookups.LookupSubtable.{LookupSubtable}
use Rattle.layout_matching.specs.Found.{is_chained, is_context_subtable, whole_rule, is_first, set_for, number_of, subtable_at, found_rule, found_at_subtable}
use Rattle.layout_matching.specs.Loops.{times}
use Rattle.layout_matching.specs.Skipping.{nth}
use Rattle.layout_matching.specs.Sought.{rules_in}
use Rattle.layout_matching.specs.Work.{one_if}
use Rattle.layout_matching.specs.declared.lookup.Lookup.{Lookup}
use Rattle.layout_matching.specs.declared.spans.Origin.{Origin}

-- ---- counts

-- over a step that is made so many times, each time from where the steps before it led
abbrev pub counted_along : {S : Type 0} → (S → ℕ) → (S → S) → ℕ → S → ℕ
counted_along count f zero s = 0
counted_along count f (suc n) s = counted_along count f n s + count (times f n s)

-- over `n` places from `i` on, up to the first that gives something
abbrev pub counted_to_first : {X : Type 0} → (ℕ → ℕ) → (ℕ → Option X) → ℕ → ℕ → ℕ
counted_to_first count f zero i = 0
counted_to_first count f (suc n) i = count i + (if is_some (f i) then 0 else counted_to_first count f n (suc i))

-- each place is one
abbrev pub each_one : ℕ → ℕ
each_one i = 1

-- ---- rules of context

-- those of a set, up to the first that matches
abbrev pub rules_of_set : Lookup → List Item → Origin → LookupSubtable → ℕ → ℕ
rules_of_set l items origin subtable set = counted_to_first each_one (found_rule l items origin subtable set) (rules_in l set) 0

abbrev pub rules_by_number : Lookup → List Item → Origin → LookupSubtable → ℕ → ℕ
rules_by_number l items origin subtable number = option_map_or (rules_of_set l items origin subtable)
    (set_for l.table.now (is_chained l subtable) subtable.start (nth items origin.at).glyph_id number) 0

-- format 3 has one, which is compared if it begins with the glyph
abbrev pub whole_rules : Lookup → List Item → Origin → LookupSubtable → ℕ
whole_rules l items origin subtable = one_if
    (is_first l.table.now subtable.start (whole_rule l.table.now (is_chained l subtable) subtable.start) (nth items origin.at).glyph_id)

abbrev pub rules_of : Lookup → List Item → Origin → LookupSubtable → ℕ
rules_of l items origin subtable = if is_context_subtable l subtable
    then (if nat_eq (u16_of l.table.now subtable.start) 3 then whole_rules l items origin subtable
    else option_map_or (rules_by_number l items origin subtable)
    (number_of l.table.now subtable.start (nth items origin.at).glyph_id) 0)
    else 0

abbrev pub rules_at : Lookup → List Item → Origin → ℕ → ℕ
rules_at l items origin i = option_map_or (rules_of l items origin) (subtable_at l i) 0

-- of a lookup of context at a place: its rules, and its subtables
abbrev pub rules_tried : Lookup → List Item → Origin → ℕ
rules_tried l items origin =
    counted_to_first (rules_at l items origin) (found_at_subtable l items origin) (subtable_count_of l.table.now l.place) 0

abbrev pub subtables_sought : Lookup → List Item → Origin → ℕ
subtables_sought l items origin = counted_to_first each_one (found_at_subtable l items origin) (subtable_count_of l.table.now l.place) 0

-- ---- lookups

-- what a lookup tries at a place: its subtables, and besides its rules or ligatures and all that the rule which applies names
pub record Trace : Type 0 where
  pub subtables : ℕ
  pub others : ℕ

abbrev pub nothing_tried : Trace
nothing_tried = record { subtables = 0; others = 0 }

abbrev pub all_tried : Trace → ℕ
all_tried t = t.subtables + t.others
