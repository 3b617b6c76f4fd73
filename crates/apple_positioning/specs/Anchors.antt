-- Anchor points (TrueType Reference Manual, "The 'ankr' table"): points of a glyph by number, in units of the em square.
use Rattle.std.specs.Prelude.{ℕ, pos, List, Option, Some, None, ◌+◌, ◌*◌, ◌||◌, Bool, false, not, nat_eq, nat_lt, if◌then◌else◌}
use Rattle.std.specs.Option.{option_map, option_map_or, option_and_then}
use Rattle.shape_font.specs.Bytes.{u16_of, u32_of, i16_of, fitting}
use Rattle.apple_tables.specs.Lookups.{place_of}
use Rattle.apple_positioning.specs.declared.anchors.Anchor.{Anchor}

-- the header: a version, flags (16 bits each), and where a lookup table and the data of glyphs stand (32 bits each). Version 0 is read;
-- without a lookup table no glyph has points
abbrev pub is_empty : List ℕ → Bool
is_empty t = not (nat_eq (u16_of t 0) 0) || nat_eq (u32_of t 4) 0

-- where the points of a glyph stand: the lookup table has the place among the data (16 bits)
abbrev pub points_of : List ℕ → ℕ → ℕ → Option ℕ
points_of t glyphs glyph = if is_empty t then None
    else option_map (λ at. u32_of t 8 + u16_of t at) (place_of t (u32_of t 4) false glyphs glyph)

-- how many there are (32 bits), and the coordinates of each (16 bits)
abbrev pub point_of : List ℕ → ℕ → ℕ → Option ℕ
point_of t number at = if nat_lt number (fitting t (u32_of t at) (at + 4) 4) then Some (at + 4 + 4 * number) else None

abbrev pub place_of_point : List ℕ → ℕ → ℕ → ℕ → Option ℕ
place_of_point t glyphs glyph number = option_and_then (point_of t number) (points_of t glyphs glyph)

abbrev pub read_at : List ℕ → ℕ → Anchor
read_at t at = record { x = i16_of t at; y = i16_of t (at + 2) }

-- a point that the table doesn't have is the origin
abbrev pub anchor_of : List ℕ → ℕ → ℕ → ℕ → Anchor
anchor_of t glyphs glyph number = option_map_or (read_at t) (place_of_point t glyphs glyph number) (record { x = pos 0; y = pos 0 })
