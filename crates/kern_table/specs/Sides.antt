-- Glyphs that stand at a side of pairs, by format 0 of `kern`.
use Rattle.std.specs.Prelude.{◌≡◌, ◌<◌, ℕ, List, Bool, true, false, ◌+◌, ◌*◌, ◌/◌, ◌%◌, length, slice_index_or}
use Rattle.shape_font.specs.Bytes.{u32_of}
use Rattle.kern_table.specs.Headers.{body_of}
use Rattle.kern_table.specs.Pairs.{HoldSides}
use Rattle.kern_table.specs.declared.sides.PairGlyphs.{PairGlyphs}

-- the glyph at the left of pair `i`, or the one at its right
abbrev pub glyph_of_pair : List ℕ → ℕ → Bool → ℕ → ℕ
glyph_of_pair t start true i = u32_of t (body_of t start + 8 + 6 * i) / 65536
glyph_of_pair t start false i = u32_of t (body_of t start + 8 + 6 * i) % 65536

-- each glyph at this side of the first pairs is marked, if there is a mark for it
abbrev pub AreMarked : List ℕ → ℕ → Bool → ℕ → List Bool → Type 0
AreMarked t start at_left count marks = (i : ℕ) → i < count → glyph_of_pair t start at_left i < length marks
    → slice_index_or marks (glyph_of_pair t start at_left i) false ≡ true

-- what is stored tells of the first subtable of OpenType's version, which begins after the header of the table
abbrev pub HoldPairs : List ℕ → PairGlyphs → Type 0
HoldPairs t glyphs = HoldSides t 4 glyphs.lefts.items glyphs.rights.items
