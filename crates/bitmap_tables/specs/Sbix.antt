-- boxes of the PNG images in `sbix` (OpenType, "sbix")
use Prim.Native.Nat.{zero}
use Rattle.std.specs.Prelude.{ℕ, ℤ, suc, pos, List, Bool, Option, Some, None, ◌+◌, ◌*◌, ◌+ℤ◌, neg_ℤ, ◌&&◌, ◌||◌, nat_eq, nat_lt, nat_le}
use Rattle.std.specs.Prelude.{length, if◌then◌else◌, slice_range}
use Rattle.std.specs.Option.{option_map, option_and_then}
use Rattle.font_bytes.specs.Bytes.{u16_of, u32_of, i16_of, fitting}
use Rattle.shape_common.specs.declared.face.hb_glyph_extents_t.{hb_glyph_extents_t}
use Rattle.bitmap_tables.specs.Boxes.{in_units}
use Rattle.bitmap_tables.specs.Strikes.{largest, looked_at}
use Rattle.bitmap_tables.specs.declared.sbix.TheConstants.{PNG, DUPE}

-- ---- strikes: their offsets follow their number, at 8

abbrev pub strike_count : List ℕ → ℕ
strike_count t = fitting t (looked_at (u32_of t 4)) 8 4

abbrev pub strike_at : List ℕ → ℕ → ℕ
strike_at t i = u32_of t (8 + 4 * i)

-- a strike begins with its pixels to the em square and its resolution; then stand offsets, one more than the font has glyphs
unfoldable pub ppem_of : List ℕ → ℕ → ℕ → ℕ
ppem_of t glyphs i = let at = strike_at t i in
    (if nat_lt 0 at && nat_le (at + 8 + 4 * glyphs) (length t) then u16_of t at else 0)

abbrev pub largest_strike : List ℕ → ℕ → ℕ
largest_strike t glyphs = largest (ppem_of t glyphs) (strike_count t)

-- ---- the bytes of a glyph, up to those of the next one: two offsets of the image, its type, and the image

abbrev pub offset_of : List ℕ → ℕ → ℕ → ℕ
offset_of t strike glyph = u32_of t (strike + 4 + 4 * glyph)

abbrev pub bytes_between : List ℕ → ℕ → ℕ → ℕ → Option (List ℕ)
bytes_between t strike start end = if nat_le end (start + 8) || nat_lt (length t) (strike + end) then None
    else Some (slice_range t (strike + start) (strike + end))

abbrev pub glyph_bytes : List ℕ → ℕ → ℕ → ℕ → Option (List ℕ)
glyph_bytes t strike glyphs glyph = if nat_le glyphs glyph then None
    else bytes_between t strike (offset_of t strike glyph) (offset_of t strike (glyph + 1))

-- an image of the type `dupe` is that of the glyph that it names; at most so many glyphs are looked at
abbrev pub graphic_within : ℕ → List ℕ → ℕ → ℕ → ℕ → Option (List ℕ)
graphic_within zero t strike glyphs glyph = None
graphic_within (suc n) t strike glyphs glyph = elim (glyph_bytes t strike glyphs glyph) as (λ _. Option (List ℕ)) [
  | Some g ↦ if nat_eq (u32_of g 4) DUPE then (if nat_lt (length g) 10 then None else graphic_within n t strike glyphs (u16_of g 8)) else Some g
  | None ↦ None
]

-- the glyph itself, and eight others
unfoldable pub graphic_of : List ℕ → ℕ → ℕ → ℕ → Option (List ℕ)
graphic_of t strike glyphs glyph = graphic_within 9 t strike glyphs glyph

-- ---- the box: a PNG begins with 16 bytes before its width and its height, and has 29 with what follows them

abbrev pub png_number : List ℕ → ℕ → ℕ
png_number g at = if nat_lt (length g) 37 then 0 else u32_of g at

abbrev pub placed : List ℕ → ℕ → ℕ → hb_glyph_extents_t
placed g width height = record {
  x_bearing = i16_of g 0;
  y_bearing = pos height +ℤ i16_of g 2;
  width = pos width;
  height = neg_ℤ (pos height);
}

abbrev pub png_box : List ℕ → Option hb_glyph_extents_t
png_box g = let width = png_number g 24 in let height = png_number g 28 in
    (if nat_lt 65535 width || nat_lt 65535 height then None else Some (placed g width height))

abbrev pub box_if_png : List ℕ → Option hb_glyph_extents_t
box_if_png g = if nat_eq (u32_of g 4) PNG then png_box g else None

unfoldable pub strike_box : List ℕ → ℕ → ℕ → ℕ → Option hb_glyph_extents_t
strike_box t strike glyphs glyph = option_and_then box_if_png (graphic_of t strike glyphs glyph)

-- by the strike with the most pixels; none in a strike without pixels
unfoldable pub box_in : List ℕ → ℕ → ℕ → ℕ → ℕ → Option hb_glyph_extents_t
box_in t glyphs units_per_em glyph i = let ppem = ppem_of t glyphs i in
    (if nat_eq ppem 0 then None else option_map (in_units units_per_em ppem ppem) (strike_box t (strike_at t i) glyphs glyph))

abbrev pub sbix_box : List ℕ → ℕ → ℕ → ℕ → Option hb_glyph_extents_t
sbix_box t glyphs units_per_em glyph = if nat_eq (u16_of t 0) 0 || nat_eq (strike_count t) 0 then None
    else box_in t glyphs units_per_em glyph (largest_strike t glyphs)
