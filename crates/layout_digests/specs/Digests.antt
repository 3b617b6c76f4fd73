-- sets of glyphs in six words
use Rattle.std.specs.Prelude.{◌≡◌, ℕ, Bool, true, ◌/◌, ◌≤◌, ◌&&◌}
use Rattle.layout_matching.specs.Firsts.{has_bit}
use Rattle.layout_digests.specs.declared.digest.Digest.{Digest}

abbrev pub HasBits : ℕ → ℕ → ℕ → Type 0
HasBits word first last = (n : ℕ) → first ≤ n → n ≤ last → has_bit word n ≡ true

-- a glyph is in the set by its number, its half, quarter, sixteenth, 64th and 512th
unfoldable pub has : Digest → ℕ → Bool
has d glyph = has_bit d.fine glyph && has_bit d.halves (glyph / 2) && has_bit d.quarters (glyph / 4)
    && has_bit d.middle (glyph / 16) && has_bit d.blocks (glyph / 64) && has_bit d.coarse (glyph / 512)

-- all glyphs from one to another
abbrev pub HasGlyphs : Digest → ℕ → ℕ → Type 0
HasGlyphs d first last = (glyph : ℕ) → first ≤ glyph → glyph ≤ last → has d glyph ≡ true

-- each glyph of the one set is in the other
abbrev pub IsWithin : Digest → Digest → Type 0
IsWithin d e = (glyph : ℕ) → has d glyph ≡ true → has e glyph ≡ true
