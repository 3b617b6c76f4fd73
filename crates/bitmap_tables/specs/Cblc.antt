-- where bitmaps stand in `CBDT`, by `CBLC` (OpenType, "CBLC"; of its subtables formats 1 and 3, as HarfBuzz reads them)
use Prim.Native.Nat.{zero}
use Rattle.std.specs.Prelude.{ℕ, suc, List, Bool, Option, Some, None, cond, max, ◌+◌, ◌-◌, ◌*◌, ◌&&◌, ◌||◌, nat_eq, nat_le, if◌then◌else◌, slice_index}
use Rattle.std.specs.Option.{option_and_then}
use Rattle.font_bytes.specs.Bytes.{u16_of, u32_of, fitting}
use Rattle.bitmap_tables.specs.Strikes.{largest, looked_at}
use Rattle.bitmap_tables.specs.declared.cblc.Image.{Image}

-- major versions of both tables
abbrev pub is_read : List ℕ → Bool
is_read t = nat_eq (u16_of t 0) 2 || nat_eq (u16_of t 0) 3

-- ---- strikes: records of 48 bytes from 8 on, with the pixels of the em square at 44

abbrev pub strike_count : List ℕ → ℕ
strike_count t = fitting t (looked_at (u32_of t 4)) 8 48

abbrev pub pixels_across : List ℕ → ℕ → ℕ
pixels_across t i = slice_index t (52 + 48 * i)

abbrev pub pixels_upwards : List ℕ → ℕ → ℕ
pixels_upwards t i = slice_index t (53 + 48 * i)

abbrev pub pixels_of : List ℕ → ℕ → ℕ
pixels_of t i = max (pixels_across t i) (pixels_upwards t i)

abbrev pub largest_strike : List ℕ → ℕ
largest_strike t = largest (pixels_of t) (strike_count t)

-- ---- the subtables of a strike: records of the first glyph, the last one, and an offset from the first record

abbrev pub holds : List ℕ → ℕ → ℕ → ℕ → Bool
holds t list glyph i = let at = list + 8 * i in (nat_le (u16_of t at) glyph && nat_le glyph (u16_of t (at + 2)))

-- of `n` records from number `i` on the first that is for the glyph
abbrev pub record_from : List ℕ → ℕ → ℕ → ℕ → ℕ → Option ℕ
record_from t list glyph zero i = None
record_from t list glyph (suc n) i = cond (holds t list glyph i) (Some i) (record_from t list glyph n (suc i))

-- where the bitmap of the glyph with this number begins, from where those of the subtable do
abbrev pub offset_of : List ℕ → ℕ → ℕ → ℕ
offset_of t subtable number = let format = u16_of t subtable in
    (if nat_eq format 1 then u32_of t (subtable + 8 + 4 * number)
    else (if nat_eq format 3 then u16_of t (subtable + 8 + 2 * number) else 0))

abbrev pub image_between : List ℕ → ℕ → ℕ → ℕ → Option Image
image_between t subtable start end = if nat_le end start then None
    else Some (record { start = u32_of t (subtable + 4) + start; length = end - start; format = u16_of t (subtable + 2) })

-- a bitmap ends where the next one begins
abbrev pub image_in : List ℕ → ℕ → ℕ → Option Image
image_in t subtable number = image_between t subtable (offset_of t subtable number) (offset_of t subtable (number + 1))

abbrev pub image_by : List ℕ → ℕ → ℕ → ℕ → Option Image
image_by t list glyph found = let at = list + 8 * found in image_in t (list + u32_of t (at + 4)) (glyph - u16_of t at)

abbrev pub image_of : List ℕ → ℕ → ℕ → Option Image
image_of t i glyph = let strike = 8 + 48 * i in let list = u32_of t strike in
    option_and_then (image_by t list glyph) (record_from t list glyph (fitting t (looked_at (u32_of t (strike + 8))) list 8) 0)
