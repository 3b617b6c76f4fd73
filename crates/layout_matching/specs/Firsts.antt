-- the glyphs that a subtable begins at, and what is stored of them for each subtable of a lookup
use Rattle.std.specs.Prelude.{◌≡◌, ℕ, Bool, true, false, Some, is_some, ◌<◌, ◌≤◌, ◌+◌, ◌/◌, ◌%◌, ◌&&◌, nat_eq, length, slice_index_or, if◌then◌else◌}
use Rattle.std.specs.Int.{bit_at}
use Rattle.shape_font.specs.Bytes.{u16_of}
use Rattle.layout_tables.specs.declared.lookups.LookupSubtable.{LookupSubtable}
use Rattle.layout_matching.specs.Found.{is_chained, is_context_subtable, whole_rule, is_first, number_of, subtable_at}
use Rattle.layout_matching.specs.declared.firsts.First.{First}
use Rattle.layout_matching.specs.declared.firsts.Firsts.{Firsts}
use Rattle.layout_matching.specs.declared.lookup.Lookup.{Lookup}

-- a word has the bit for a number's last six bits
unfoldable pub has_bit : ℕ → ℕ → Bool
has_bit word n = nat_eq (bit_at word (n % 64)) 1

-- no bit is lost
abbrev pub KeepsBits : ℕ → ℕ → Type 0
KeepsBits word more = (n : ℕ) → has_bit word n ≡ true → has_bit more n ≡ true

-- a glyph is among the first ones by its number, its sixteenth and its 512th
abbrev pub may_begin : First → ℕ → Bool
may_begin f glyph = has_bit f.fine glyph && has_bit f.middle (glyph / 16) && has_bit f.coarse (glyph / 512)

-- a rule of format 3 has a list for each glyph, any other subtable one for the first glyph
abbrev pub begins : Lookup → LookupSubtable → ℕ → Bool
begins l subtable glyph = if is_context_subtable l subtable
    then (if nat_eq (u16_of l.table.now subtable.start) 3
    then is_first l.table.now subtable.start (whole_rule l.table.now (is_chained l subtable) subtable.start) glyph
    else is_some (number_of l.table.now subtable.start glyph))
    else is_some (number_of l.table.now subtable.start glyph)

-- subtable `i` doesn't begin at a glyph
abbrev pub IsOut : Lookup → ℕ → ℕ → Type 0
IsOut l i glyph = (subtable : LookupSubtable) → subtable_at l i ≡ Some subtable → begins l subtable glyph ≡ false

-- nor do those from number `i` on, up to number `j`
abbrev pub AreOut : Lookup → ℕ → ℕ → ℕ → Type 0
AreOut l i j glyph = (k : ℕ) → i ≤ k → k < j → IsOut l k glyph

abbrev pub no_first : First
no_first = record { fine = 0; middle = 0; coarse = 0 }

-- what is stored of the subtables of a lookup, so many in a row: each begins at no glyph that isn't among its own
abbrev pub AreFirsts : Lookup → Firsts → Type 0
AreFirsts l f = (i glyph : ℕ) → i < f.count → f.from + i < length f.all.now
    → may_begin (slice_index_or f.all.now (f.from + i) no_first) glyph ≡ false → IsOut l i glyph
