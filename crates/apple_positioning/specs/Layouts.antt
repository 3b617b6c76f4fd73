-- How a subtable is laid out: as one of `kerx`, by its own bytes, or as one of the older table `kern`, by those of the table up to its
-- end (TrueType Reference Manual, "The 'kern' table", and OpenType, "kern").
use Rattle.std.specs.Prelude.{ℕ, ℤ, List, Bool, Option, Some, None, false, ◌+◌, ◌-◌, ◌*◌, ◌/◌, ◌%◌, ◌&&◌, ◌||◌, not, nat_eq, nat_le, length, if◌then◌else◌}
use Rattle.shape_font.specs.Bytes.{u16_of}
use Rattle.apple_tables.specs.States as extended_states
use Rattle.apple_tables.specs.declared.states.Entry.{Entry}
use Rattle.apple_tables.specs.declared.states.TheConstants.{START_OF_TEXT}
use Rattle.kern_table.specs.Headers.{body_of, coverage_of, format_of, is_apple}
use Rattle.kern_table.specs.Pairs.{value_of}
use Rattle.kern_table.specs.Tables as kern_tables
use Rattle.apple_positioning.specs.Attachments.{MACHINE, action_index}
use Rattle.apple_positioning.specs.Chains.{bit_of, header_of}
use Rattle.apple_positioning.specs.OldStates as old_states
use Rattle.apple_positioning.specs.Stacks as stack_rules
use Rattle.apple_positioning.specs.Values.{kerning_of}
use Rattle.apple_positioning.specs.declared.chains.Header.{Header}
use Rattle.apple_positioning.specs.declared.values.Layout.{Layout}
use Rattle.apple_positioning.specs.declared.values.Layout.TheVariants.{Kerx, Kern}

-- ---- headers. Coverage of `kern` says in OpenType's version horizontal (bit 1) and cross-stream (bit 4), in Apple's vertical (0x80),
-- ---- cross-stream (0x40) and variation (0x20)

abbrev pub old_header_of : List ℕ → ℕ → Header
old_header_of t start = let coverage = coverage_of t start in record {
  is_vertical = if is_apple t then bit_of coverage 0x80 else not (bit_of coverage 1);
  is_cross_stream = bit_of coverage (if is_apple t then 0x40 else 4);
  has_variation = is_apple t && bit_of coverage 0x20;
  is_backward = false;
  format = format_of t start;
  tuple_count = 0;
}

abbrev pub header_for : Layout → List ℕ → Header
header_for Kerx s = header_of s
header_for (Kern start) t = old_header_of t start

-- ---- pairs: formats 0, 2 and 6 of `kerx` have values of them, and formats 0, 2 and 3 of `kern`

abbrev pub has_pairs : Layout → ℕ → Bool
has_pairs Kerx format = nat_eq format 0 || (nat_eq format 2 || nat_eq format 6)
has_pairs (Kern start) format = kern_tables.has_pairs format

abbrev pub kerning_by : Layout → List ℕ → ℕ → ℕ → ℕ → ℤ
kerning_by Kerx s glyphs left right = kerning_of s glyphs left right
kerning_by (Kern start) t glyphs left right = value_of t start left right

-- ---- state tables: format 1 of both, and format 4 of `kerx`

abbrev pub attaches : Layout → ℕ → Bool
attaches Kerx format = nat_eq format 4
attaches (Kern start) format = false

abbrev pub class_by : Layout → List ℕ → ℕ → ℕ → ℕ
class_by Kerx s glyphs glyph = extended_states.class_of s MACHINE glyphs glyph
class_by (Kern start) t glyphs glyph = old_states.class_of t (body_of t start) glyph

-- an entry of `kerx` has four bytes, and the number of an action
abbrev pub entry_by : Layout → List ℕ → ℕ → ℕ → Entry
entry_by Kerx s state class = extended_states.entry_of s MACHINE 6 state class
entry_by (Kern start) t state class = old_states.entry_of t (body_of t start) state class

abbrev pub first_by : Layout → List ℕ → ℕ
first_by Kerx s = START_OF_TEXT
first_by (Kern start) t = old_states.first_state t (body_of t start)

-- of `kern` the last 14 bits of an entry's flags are the place of its values, 0 for none
abbrev pub value_place : Entry → Option ℕ
value_place e = let place = e.flags % 0x4000 in (if nat_eq place 0 then None else Some place)

abbrev pub action_by : Layout → List ℕ → Entry → Option ℕ
action_by Kerx s e = action_index s e
action_by (Kern start) t e = value_place e

-- ---- stacks. An entry of `kern` empties none

abbrev pub empties : Layout → Entry → Bool
empties Kerx e = stack_rules.empties e
empties (Kern start) e = false

-- after the header of the state table stands the place of all values (16 bits). It and that of an entry's values are counted from the
-- start of the state table; values that don't stand among them are none
abbrev pub old_list_of : List ℕ → ℕ → ℕ → ℕ → Option ℕ
old_list_of t start place depth = let values = u16_of t (start + 8) in let at = start + values + 2 * ((place - values) / 2) in
    (if nat_le values place && nat_le (at + 2 * depth) (length t) then Some at else None)

abbrev pub list_by : Layout → List ℕ → ℕ → ℕ → Option ℕ
list_by Kerx s index depth = stack_rules.list_of s index depth
list_by (Kern start) t place depth = old_list_of t (body_of t start) place depth

-- a glyph has one value of `kern`
abbrev pub step_by : Layout → List ℕ → ℕ
step_by Kerx s = stack_rules.step_of s
step_by (Kern start) t = 2
