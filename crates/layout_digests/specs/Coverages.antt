-- sets that hold what a Coverage table covers
use Rattle.std.specs.Prelude.{◌≡◌, ℕ, true, List, ◌+◌, ◌*◌, ◌<◌}
use Rattle.shape_font.specs.Bytes.{u16_of, fitting}
use Rattle.layout_tables.specs.Coverage.{covers}
use Rattle.layout_digests.specs.declared.digest.Digest.{Digest}
use Rattle.layout_digests.specs.Digests.{has, HasGlyphs}

-- the first so many glyphs of a list (format 1)
abbrev pub HasListed : List ℕ → ℕ → Digest → ℕ → Type 0
HasListed t start d count = (i : ℕ) → i < count → has d (u16_of t (start + 4 + 2 * i)) ≡ true

abbrev pub listed_count : List ℕ → ℕ → ℕ
listed_count t start = fitting t (u16_of t (start + 2)) (start + 4) 2

-- the first so many ranges of a list (format 2)
abbrev pub HasRanges : List ℕ → ℕ → Digest → ℕ → Type 0
HasRanges t start d count = (i : ℕ) → i < count → HasGlyphs d (u16_of t (start + 4 + 6 * i)) (u16_of t (start + 4 + 6 * i + 2))

abbrev pub range_count : List ℕ → ℕ → ℕ
range_count t start = fitting t (u16_of t (start + 2)) (start + 4) 6

abbrev pub HasCovered : List ℕ → ℕ → Digest → Type 0
HasCovered t start d = (glyph : ℕ) → covers t start glyph ≡ true → has d glyph ≡ true
