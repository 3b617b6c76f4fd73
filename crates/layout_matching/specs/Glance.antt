-- What the glyph beside a place says of all rules of a set: nearly all of them are refused by the first glyph that they look for there.
use Rattle.std.specs.Prelude.{◌≡◌, ℕ, Bool, true, false, List, ◌+◌, ◌*◌, ◌&&◌, ◌||◌, not, min, nat_eq, nat_lt, if◌then◌else◌}
use Rattle.std.specs.Option.{option_map_or}
use Rattle.shape_font.specs.Bytes.{u16_of}
use Rattle.shape_items.specs.Items.{Item}
use Rattle.layout_tables.specs.Classes.{class_of}
use Rattle.layout_tables.specs.declared.lookups.LookupSubtable.{LookupSubtable}
use Rattle.layout_matching.specs.Found.{is_chained, class_place}
use Rattle.layout_matching.specs.Input.{seek_input}
use Rattle.layout_matching.specs.Rules.{FAR, row}
use Rattle.layout_matching.specs.Seeking.{next_place, prev_place}
use Rattle.layout_matching.specs.Skipping.{nth, is_transparent}
use Rattle.layout_matching.specs.Spans.{seek_around}
use Rattle.layout_matching.specs.declared.glance.Glance.{Glance}
use Rattle.layout_matching.specs.declared.glance.Glance.TheVariants.{Open, Closed, Only}
use Rattle.layout_matching.specs.declared.glance.Glances.{Glances}
use Rattle.layout_matching.specs.declared.lookup.Lookup.{Lookup}
use Rattle.layout_matching.specs.declared.rules.RowTests.{RowTests}
use Rattle.layout_matching.specs.declared.rules.Test.{Test}
use Rattle.layout_matching.specs.declared.rules.Test.TheVariants.{Glyph, Class, Coverage, Any}
use Rattle.layout_matching.specs.declared.seeking.Seek.{Seek}
use Rattle.layout_matching.specs.declared.spans.Origin.{Origin}

-- the value that names a glyph, if one alone does
abbrev pub value_of : List ℕ → ℕ → ℕ → Test → Glance
value_of t from glyph Glyph = Only glyph
value_of t from glyph Class = Only (class_of t from glyph)
value_of t from glyph Coverage = Open
value_of t from glyph Any = Open

-- a glyph that may be passed over says nothing: another one may be what is looked for
abbrev pub glance_of : Lookup → Seek → Item → Glance
glance_of l seek item = if is_transparent l seek.is_input item then Open
    else value_of l.table.now (min seek.row.from FAR) item.glyph_id seek.row.test

abbrev pub glance_at : Lookup → Seek → List Item → ℕ → Glance
glance_at l seek items j = glance_of l seek (nth items j)

-- looks for any glyph, where one of a row is looked for
abbrev pub any_glyph : Seek → Seek
any_glyph seek = record seek { row = row Any 0 1 0 }

-- the glyph after place `i`, and the one before it
abbrev pub glance_after : Lookup → Seek → List Item → ℕ → Glance
glance_after l seek items i = option_map_or (glance_at l seek items) (next_place l (any_glyph seek) items 0 i) Closed

abbrev pub glance_before : Lookup → Seek → List Item → ℕ → Glance
glance_before l seek items i = option_map_or (glance_at l seek items) (prev_place l (any_glyph seek) items 0 i) Closed

-- what the values of the rules of a subtable of format 1 or 2 say
abbrev pub rows_of : List ℕ → Bool → ℕ → RowTests
rows_of t is_chain start = if nat_eq (u16_of t start) 1
    then record { test = Glyph; before = start; input = start; after = start }
    else (if is_chain
    then record { test = Class; before = class_place t start 4; input = class_place t start 6; after = class_place t start 8 }
    else record { test = Class; before = class_place t start 4; input = class_place t start 4; after = class_place t start 4 })

-- beside the first glyph of the rules
abbrev pub glances_of : Lookup → List Item → Origin → Bool → RowTests → Glances
glances_of l items origin is_chain rows = let first = nth items origin.at in record {
  before = if is_chain
      then glance_before l (seek_around l first origin.is_steady (row rows.test rows.before 0 0)) items origin.at
      else Open;
  input = glance_after l (seek_input l first (row rows.test rows.input 0 0)) items origin.at;
  after = if is_chain then glance_after l (seek_around l first true (row rows.test rows.after 0 0)) items origin.at else Open;
}

abbrev pub glances_in : Lookup → List Item → Origin → LookupSubtable → Glances
glances_in l items origin subtable = let is_chain = is_chained l subtable in
    glances_of l items origin is_chain (rows_of l.table.now is_chain subtable.start)

-- whether no glyph there is the one that the value at `at` names
abbrev pub refuses : List ℕ → ℕ → Glance → Bool
refuses t at Open = false
refuses t at Closed = true
refuses t at (Only value) = not (nat_eq value (u16_of t at))

-- each other value than this one is refused
abbrev pub Tells : ℕ → Glance → Type 0
Tells value glance = (t : List ℕ) (at : ℕ) → nat_eq value (u16_of t at) ≡ false → refuses t at glance ≡ true

-- a rule that looks for a second glyph
abbrev pub plain_refused : List ℕ → Glances → ℕ → Bool
plain_refused t glances at = nat_lt 1 (u16_of t at) && refuses t (min (at + 4) FAR) glances.input

-- a chained one: its second glyph, or, if it has none, the one behind
abbrev pub refused_on : List ℕ → Glances → ℕ → Bool
refused_on t glances middle = if nat_lt 1 (u16_of t middle) then refuses t (min (middle + 2) FAR) glances.input
    else nat_lt 0 (u16_of t (middle + 2)) && refuses t (min (middle + 4) FAR) glances.after

-- after its glyph before
abbrev pub chain_refused : List ℕ → Glances → ℕ → Bool
chain_refused t glances at = let before = u16_of t at in
    (nat_lt 0 before && refuses t (min (at + 2) FAR) glances.before) || refused_on t glances (at + 2 + 2 * before)

abbrev pub is_refused : List ℕ → Glances → Bool → ℕ → Bool
is_refused t glances is_chain at = if is_chain then chain_refused t glances at else plain_refused t glances at
