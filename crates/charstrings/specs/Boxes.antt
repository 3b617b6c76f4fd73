-- boxes of glyphs in whole units, rounded as HarfBuzz rounds them
use Rattle.std.specs.Prelude.{ℕ, ℤ, List, Option, pos, ◌+◌, ◌/◌, ◌-ℤ◌, ◌*ℤ◌, int_lt, int_le, min, unsigned_abs, if◌then◌else◌}
use Rattle.std.specs.Option.{option_map}
use Rattle.cff_tables.specs.declared.font.Layout.{Layout}
use Rattle.charstrings.specs.Numbers.{plus}
use Rattle.charstrings.specs.Outline.{bounds_of}
use Rattle.charstrings.specs.declared.bounds.Bounds.{Bounds}
use Rattle.charstrings.specs.declared.boxes.GlyphBox.{GlyphBox}
use Rattle.charstrings.specs.declared.boxes.Side.{Side}

-- the greatest whole number that is not greater, of 65536ths, as far as an i32 goes
abbrev pub floor_of : ℤ → ℤ
floor_of v = if int_lt v (pos 0) then pos 0 -ℤ pos (min ((unsigned_abs v + 65535) / 65536) 2147483647)
    else pos (min (unsigned_abs v / 65536) 2147483647)

-- the nearest whole number, a half upwards
abbrev pub rounded : ℤ → ℤ
rounded v = floor_of (plus v (pos 32768))

-- so many whole units back
abbrev pub back : ℤ → ℤ
back start = pos 0 -ℤ start *ℤ pos 65536

abbrev pub reach : ℤ → ℤ → ℤ
reach start to = rounded (plus to (back start))

-- where a side of the box begins, and how far it reaches from there
abbrev pub side : ℤ → ℤ → Side
side from to = record { start = rounded from; length = reach (rounded from) to }

abbrev pub no_side : Side
no_side = record { start = pos 0; length = pos 0 }

abbrev pub level : Bounds → Side
level b = if int_le b.high.x b.low.x then no_side else side b.low.x b.high.x

abbrev pub upright : Bounds → Side
upright b = if int_le b.high.y b.low.y then no_side else side b.high.y b.low.y

abbrev pub box_of : Bounds → GlyphBox
box_of b = record { x_bearing = (level b).start; y_bearing = (upright b).start; width = (level b).length; height = (upright b).length }

-- the box of a glyph; none if its charstring, or that of a glyph that it is made of, is refused
unfoldable pub glyph_box : List ℕ → Layout → ℕ → Option GlyphBox
glyph_box t l glyph = option_map box_of (bounds_of t l glyph)
