-- The table `gvar`: what it stores for each glyph, and the tuples that glyphs share.
use Rattle.std.specs.Prelude.{ℕ, ℤ, List, [], Bool, ◌+◌, ◌-◌, ◌*◌, ◌%◌, ◌&&◌, nat_eq, nat_lt, nat_le, length, take, drop, min, if◌then◌else◌}
use Rattle.font_bytes.specs.Bytes.{u16_of, u32_of}
use Rattle.glyph_variations.specs.declared.glyph.GlyphVariations.{GlyphVariations}

-- `count` bytes from a place on, as far as the table reaches
abbrev pub rest_of : List ℕ → ℕ → List ℕ
rest_of t at = if nat_le at (length t) then drop at t else []

abbrev pub first_of : List ℕ → ℕ → List ℕ
first_of t count = take (min count (length t)) t

abbrev pub cut : List ℕ → ℕ → ℕ → List ℕ
cut t at count = first_of (rest_of t at) count

-- how many axes there are, and how many bytes the shared tuples have
abbrev pub axes_of : List ℕ → ℕ
axes_of t = u16_of t 4

abbrev pub shared_size : List ℕ → ℕ
shared_size t = 2 * axes_of t * u16_of t 6

-- places of glyphs, counted from the place of the first one: whole in four bytes, or halved in two
abbrev pub is_long : List ℕ → Bool
is_long t = nat_eq (u16_of t 14 % 2) 1

abbrev pub place_size : List ℕ → ℕ
place_size t = if is_long t then 4 else 2

abbrev pub place_of : List ℕ → ℕ → ℕ
place_of t glyph = if is_long t then u32_of t (20 + 4 * glyph) else 2 * u16_of t (20 + 2 * glyph)

-- a table of version 1 that holds its shared tuples and the places of all glyphs
abbrev pub is_read : List ℕ → ℕ → Bool
is_read t glyphs = nat_eq (u16_of t 0) 1 && nat_le (u32_of t 8 + shared_size t) (length t)
    && nat_le (20 + place_size t * (glyphs + 1)) (length t)

abbrev pub shared_of : List ℕ → List ℕ
shared_of t = cut t (u32_of t 8) (shared_size t)

-- what is stored for a glyph; nothing if it doesn't vary
abbrev pub data_of : List ℕ → ℕ → ℕ → List ℕ
data_of t glyphs glyph = if nat_lt glyph glyphs && is_read t glyphs
    then cut t (u32_of t 16 + place_of t glyph) (place_of t (glyph + 1) - place_of t glyph) else []

-- that, the peaks that glyphs share, how many axes a tuple has, and the coordinates
pub record Stored : Type 0 where
  pub bytes : List ℕ
  pub shared : List ℕ
  pub axes : ℕ
  pub coordinates : List ℤ

abbrev pub stored : GlyphVariations → Stored
stored g = record { bytes = g.bytes.now; shared = g.shared.now; axes = g.axes; coordinates = g.coordinates.now }

-- for a glyph of a font with so many
abbrev pub stored_of : List ℕ → ℕ → ℕ → List ℤ → Stored
stored_of t glyphs glyph coordinates = record {
  bytes = data_of t glyphs glyph;
  shared = shared_of t;
  axes = axes_of t;
  coordinates = coordinates;
}
