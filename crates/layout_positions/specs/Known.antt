-- What a walk knows of glyphs: subtables of marks that don't list them.
use Rattle.std.specs.Prelude.{◌≡◌, ℕ, true, Option, Some, None, ◌+◌, ◌<◌, ◌||◌, nat_eq, if◌then◌else◌}
use Rattle.std.specs.Int.{bit_at}
use Rattle.shape_font.specs.Bytes.{u16_of}
use Rattle.layout_tables.specs.Lookups.{subtable_of}
use Rattle.layout_tables.specs.declared.lookups.LookupSubtable.{LookupSubtable}
use Rattle.layout_matching.specs.declared.lookup.Lookup.{Lookup}
use Rattle.layout_positions.specs.Anchors.{number_at}
use Rattle.layout_positions.specs.declared.known.Known.{Known}

-- the number of a mark in a subtable of format 1
abbrev pub listed_as : Lookup → LookupSubtable → ℕ → Option ℕ
listed_as l subtable glyph = if nat_eq (u16_of l.table.now subtable.start) 1
    then number_at l.table.now subtable.start (subtable.start + 2) glyph else None

-- a subtable of type 4, 5 or 6 that doesn't list the glyph
pub record IsVain (l : Lookup) (glyph : ℕ) (subtable : LookupSubtable) : Type 0 where
  pub kind : (nat_eq subtable.kind 4 || nat_eq subtable.kind 5 || nat_eq subtable.kind 6) ≡ true
  pub unlisted : listed_as l subtable glyph ≡ None

-- subtable `k` is such a one, if there is one
abbrev pub IsOut : Lookup → ℕ → ℕ → Type 0
IsOut l glyph k = (subtable : LookupSubtable) → subtable_of l.table.now 9 l.place k ≡ Some subtable → IsVain l glyph subtable

-- each subtable whose bit a word has
abbrev pub AreOut : Lookup → ℕ → ℕ → Type 0
AreOut l glyph word = (k : ℕ) → k < 64 → bit_at word k ≡ 1 → IsOut l glyph k

abbrev pub IsKnown : Lookup → Known → Type 0
IsKnown l known = AreOut l known.glyph known.out
