-- advances, bearings, origins and boxes of glyphs, by `hmtx`, `vmtx`, `VORG`, `loca` and `glyf`
use Rattle.std.specs.Prelude.{ℕ, ℤ, pos, List, Bool, Option, Some, None, ◌+◌, ◌-◌, ◌*◌, ◌/◌, ◌%◌, ◌-ℤ◌, ◌||◌, nat_lt, nat_eq, length, if◌then◌else◌}
use Rattle.std.specs.Prelude.{cond, int_lt, int_div, unsigned_abs}
use Rattle.std.specs.Option.{option_map_or, unwrap_or}
use Rattle.std.specs.Int.{w16, cast_signed, int_rem_euclid}
use Rattle.std.specs.declared.cmp.Ordering.{Ordering}
use Rattle.shape_common.specs.declared.face.hb_glyph_extents_t.{hb_glyph_extents_t}
use Rattle.shape_font.specs.Bytes.{u16_of, u32_of, i16_of, fitting}
use Rattle.shape_font.specs.Search.{side_of, found_by}

-- `hmtx`, `vmtx`: how many long metrics the table has room for, at most as many as are stated
abbrev pub long_metrics : List ℕ → ℕ → ℕ
long_metrics table said = fitting table said 0 4

-- the glyphs from the last long metric on share its advance
abbrev pub advance_of : List ℕ → ℕ → ℕ → ℕ
advance_of table count glyph = u16_of table (4 * (if nat_lt glyph count then glyph else count - 1))

-- an advance is scaled as a number of 16 bits with a sign, as HarfBuzz has it: modulo 2^16, so that one above 32767 is negative
unfoldable pub as_short : ℤ → ℤ
as_short n = cast_signed w16 (unsigned_abs (int_rem_euclid n (pos 65536)))

-- where the bearing of a glyph stands: after the long metrics stand bearings alone
abbrev pub bearing_place : ℕ → ℕ → ℕ
bearing_place count glyph = if nat_lt glyph count then 4 * glyph + 2 else 4 * count + 2 * (glyph - count)

-- none without long metrics, and none past the end
abbrev pub bearing_of : List ℕ → ℕ → ℕ → Option ℤ
bearing_of table count glyph = let at = bearing_place count glyph in
    (if nat_eq count 0 || nat_lt (length table) (at + 2) then None else Some (i16_of table at))

-- `VORG`: records in the order of their glyphs, which are searched by midpoints
abbrev pub side_of_origin : List ℕ → ℕ → ℕ → Ordering
side_of_origin vorg glyph i = let there = u16_of vorg (8 + 4 * i) in side_of glyph there there

abbrev pub origin_record_of : List ℕ → ℕ → ℕ → Option ℕ
origin_record_of vorg glyph count = found_by (side_of_origin vorg glyph) count

-- the height of a glyph's origin, by the record for it, or the one for all others
abbrev pub listed_origin : List ℕ → ℕ → ℤ
listed_origin vorg glyph = option_map_or (λ i. i16_of vorg (10 + 4 * i))
    (origin_record_of vorg glyph (fitting vorg (u16_of vorg 6) 8 4)) (i16_of vorg 4)

-- whether the measures of lines are those that the designer wrote in `OS/2` (bit 7 of `fsSelection`)
abbrev pub typographic : List ℕ → Bool
typographic os2 = nat_eq (u16_of os2 62 / 128 % 2) 1

-- how far a line reaches up, and down
abbrev pub ascender_in : List ℕ → List ℕ → ℤ
ascender_in os2 hhea = cond (typographic os2) (i16_of os2 68) (i16_of hhea 4)

abbrev pub descender_in : List ℕ → List ℕ → ℤ
descender_in os2 hhea = cond (typographic os2) (i16_of os2 70) (i16_of hhea 6)

-- whatever the sign of the number
abbrev pub ascender_of : List ℕ → List ℕ → ℕ
ascender_of os2 hhea = unsigned_abs (ascender_in os2 hhea)

abbrev pub descender_of : List ℕ → List ℕ → ℕ
descender_of os2 hhea = unsigned_abs (descender_in os2 hhea)

-- how far lines stand apart beside that, with its sign
abbrev pub line_gap_of : List ℕ → List ℕ → ℤ
line_gap_of os2 hhea = cond (typographic os2) (i16_of os2 72) (i16_of hhea 8)

-- where the outline of a glyph begins
abbrev pub place_of : List ℕ → Bool → ℕ → ℕ
place_of loca long glyph = cond long (u32_of loca (4 * glyph)) (2 * u16_of loca (2 * glyph))

abbrev pub no_box : hb_glyph_extents_t
no_box = record { x_bearing = pos 0; y_bearing = pos 0; width = pos 0; height = pos 0 }

-- the box in the header of an outline, moved to the bearing if there is one
unfoldable pub framed_of : List ℕ → ℕ → Option ℤ → hb_glyph_extents_t
framed_of glyf start bearing = record {
  x_bearing = unwrap_or bearing (i16_of glyf (start + 2));
  y_bearing = i16_of glyf (start + 8);
  width = i16_of glyf (start + 6) -ℤ i16_of glyf (start + 2);
  height = i16_of glyf (start + 4) -ℤ i16_of glyf (start + 8);
}

-- an empty one if there is no outline
abbrev pub box_of : List ℕ → ℕ → ℕ → Option ℤ → hb_glyph_extents_t
box_of glyf start end bearing = if nat_lt end (start + 10) then no_box
    else (if nat_lt (length glyf) end then no_box else framed_of glyf start bearing)

-- half of a number, downwards
abbrev pub half_down : ℤ → ℤ
half_down n = if int_lt n (pos 0) then int_div (n -ℤ pos 1) (pos 2) else int_div n (pos 2)
