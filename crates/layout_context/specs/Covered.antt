-- The glyphs that a lookup may begin at: those that a subtable of it covers (OpenType, Coverage table of each subtable).
use Rattle.std.specs.Prelude.{◌≡◌, ℕ, Bool, false, List, Some, is_some, ◌<◌, length, nat_eq, if◌then◌else◌}
use Rattle.shape_font.specs.Bytes.{u16_of}
use Rattle.shape_items.specs.Items.{Item}
use Rattle.layout_tables.specs.Lookups.{subtable_count_of, subtable_of}
use Rattle.layout_tables.specs.declared.lookups.LookupSubtable.{LookupSubtable}
use Rattle.layout_matching.specs.Found.{is_chained, is_context_subtable, whole_rule, is_first, number_of}
use Rattle.layout_matching.specs.Skipping.{nth}
use Rattle.layout_matching.specs.declared.lookup.Lookup.{Lookup}

-- a rule of format 3 has a list for each glyph, any other subtable one for the first glyph
abbrev pub context_covers : Lookup → LookupSubtable → ℕ → Bool
context_covers l subtable glyph = if nat_eq (u16_of l.table.now subtable.start) 3
    then is_first l.table.now subtable.start (whole_rule l.table.now (is_chained l subtable) subtable.start) glyph
    else is_some (number_of l.table.now subtable.start glyph)

abbrev pub subtable_covers : Lookup → LookupSubtable → ℕ → Bool
subtable_covers l subtable glyph = if is_context_subtable l subtable then context_covers l subtable glyph
    else is_some (number_of l.table.now subtable.start glyph)

-- no part of the lookup covers the glyph
abbrev pub IsUncovered : Lookup → ℕ → Type 0
IsUncovered l glyph = (i : ℕ) (subtable : LookupSubtable) → i < subtable_count_of l.table.now l.place
    → subtable_of l.table.now 7 l.place i ≡ Some subtable → subtable_covers l subtable glyph ≡ false

abbrev pub CoversNone : Lookup → List Item → Type 0
CoversNone l items = (at : ℕ) → at < length items → IsUncovered l (nth items at).glyph_id
