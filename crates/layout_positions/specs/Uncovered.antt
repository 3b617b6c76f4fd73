-- Lookups that have nothing for the glyphs of a list.
use Rattle.std.specs.Prelude.{◌≡◌, ℕ, Bool, true, false, Some, ◌+◌, ◌<◌, length, is_some, nat_eq, if◌then◌else◌}
use Rattle.shape_font.specs.Bytes.{u16_of}
use Rattle.shape_items.specs.Buffer.{Buffer}
use Rattle.layout_tables.specs.Lookups.{subtable_count_of, subtable_of}
use Rattle.layout_tables.specs.declared.lookups.LookupSubtable.{LookupSubtable}
use Rattle.layout_matching.specs.Found.{is_chained, is_context_subtable, whole_rule, is_first}
use Rattle.layout_matching.specs.Skipping.{nth}
use Rattle.layout_matching.specs.declared.lookup.Lookup.{Lookup}
use Rattle.layout_positions.specs.Anchors.{number_at}

-- each subtable has a list of the glyphs that it begins at
abbrev pub is_listed_at : Lookup → LookupSubtable → ℕ → Bool
is_listed_at l subtable glyph = is_some (number_at l.table.now subtable.start (subtable.start + 2) glyph)

-- a rule of format 3 has a list for each of its glyphs
abbrev pub rule_lists : Lookup → LookupSubtable → ℕ → Bool
rule_lists l subtable glyph = if nat_eq (u16_of l.table.now subtable.start) 3
    then is_first l.table.now subtable.start (whole_rule l.table.now (is_chained l subtable) subtable.start) glyph
    else is_listed_at l subtable glyph

abbrev pub subtable_lists : Lookup → LookupSubtable → ℕ → Bool
subtable_lists l subtable glyph = if is_context_subtable l subtable then rule_lists l subtable glyph else is_listed_at l subtable glyph

abbrev pub IsUnlisted : Lookup → ℕ → Type 0
IsUnlisted l glyph = (k : ℕ) (subtable : LookupSubtable) → k < subtable_count_of l.table.now l.place
    → subtable_of l.table.now 9 l.place k ≡ Some subtable → subtable_lists l subtable glyph ≡ false

-- a lookup of positioning of which no subtable lists a glyph of the buffer
pub record IsUncovered (b : Buffer) (l : Lookup) : Type 0 where
  pub positioning : l.positioning ≡ true
  pub glyphs : (i : ℕ) → i < length b.items → IsUnlisted l (nth b.items i).glyph_id
