-- What a rule or a ligature matches, from its first glyph on.
use Rattle.std.specs.Prelude.{ℕ, Bool, true, false, List, Option, Some, None, ◌-◌, ◌&&◌, ◌||◌, not, nat_eq, nat_lt, if◌then◌else◌}
use Rattle.std.specs.Option.{option_and_then, option_map_or, unwrap_or}
use Rattle.shape_font.specs.Search.{first_at}
use Rattle.shape_items.specs.Items.{Item}
use Rattle.layout_matching.specs.Loops.{steps}
use Rattle.layout_matching.specs.Seeking.{next_place}
use Rattle.layout_matching.specs.Skipping.{nth, shares, is_skipped, syllable_of}
use Rattle.layout_matching.specs.declared.input.Matched.{Matched}
use Rattle.layout_matching.specs.declared.lookup.Lookup.{Lookup}
use Rattle.layout_matching.specs.declared.rules.Row.{Row}
use Rattle.layout_matching.specs.declared.seeking.Seek.{Seek}

-- a mark on a component of a ligature, whose components count from 1
abbrev pub is_on_component : Item → Bool
is_on_component item = nat_lt 0 item.properties.ligature_id && nat_lt 0 item.properties.ligature_component

-- what ends a row of marks on components of the ligature `id`: another glyph, or the ligature, its glyph of component 0
abbrev pub ends_marks : ℕ → Item → Bool
ends_marks id item = not (nat_eq item.properties.ligature_id id) || nat_eq item.properties.ligature_component 0

-- how many such marks stand in a row before a place; none if the list begins with them
abbrev pub marks_back : List Item → ℕ → ℕ → Option ℕ
marks_back items id at = first_at (λ k. ends_marks id (nth items (at - 1 - k))) at 0

abbrev pub skips_base : Lookup → ℕ → Item → Bool
skips_base l id item = nat_eq item.properties.ligature_id id && is_skipped l item

-- positioning looks for no base: HarfBuzz walks over what substitution put out, and positioning puts out nothing
abbrev pub base_is_skipped : Lookup → List Item → ℕ → ℕ → Bool
base_is_skipped l items id at = if l.positioning then false
    else option_map_or (λ k. skips_base l id (nth items (at - 1 - k))) (marks_back items id at) false

-- a mark on a component matches with any mark if the ligature is skipped
abbrev pub joins_all : Lookup → List Item → ℕ → Bool
joins_all l items at = let first = nth items at in is_on_component first && base_is_skipped l items first.properties.ligature_id at

-- how many marks are looked at for the ligature
abbrev pub marks_passed : Lookup → List Item → ℕ → ℕ
marks_passed l items at = let first = nth items at in
    (if l.positioning || not (is_on_component first) then 0 else unwrap_or (marks_back items first.properties.ligature_id at) at)

-- marks on a component of a ligature match with marks on the same component, or with any if the ligature is skipped;
-- other glyphs match with no mark on a component of another ligature
abbrev pub joins_by : Bool → Item → Item → Bool
joins_by all first item = if is_on_component first
    then all || (nat_eq item.properties.ligature_id first.properties.ligature_id
    && nat_eq item.properties.ligature_component first.properties.ligature_component)
    else nat_eq item.properties.ligature_id first.properties.ligature_id || not (is_on_component item)

abbrev pub joins : Lookup → List Item → ℕ → Item → Bool
joins l items at item = joins_by (joins_all l items at) (nth items at) item

abbrev pub is_mark_glyph : Item → Bool
is_mark_glyph item = shares item.properties.glyph_class.0 8

-- one glyph more, at place `j`
abbrev pub with_glyph_at : Lookup → List Item → ℕ → Matched → ℕ → Option Matched
with_glyph_at l items at m j = let item = nth items j in
    (if joins l items at item then Some (record { last = j; all_marks = m.all_marks && is_mark_glyph item }) else None)

-- glyph `k` after the first one
abbrev pub input_step : Lookup → Seek → List Item → ℕ → ℕ → Matched → Option Matched
input_step l seek items at k m = option_and_then (with_glyph_at l items at m) (next_place l seek items k m.last)

abbrev pub seek_input : Lookup → Item → Row → Seek
seek_input l first row = record { row = row; is_input = true; syllable = syllable_of l first }

-- the glyphs of a row whose count has the first one too; a row of more than 64 matches nowhere
abbrev pub input_matched : Lookup → List Item → ℕ → Row → Option Matched
input_matched l items at row = if nat_lt 64 row.count then None
    else steps (input_step l (seek_input l (nth items at) row) items at) (row.count - 1) 0 (record { last = at; all_marks = true })
