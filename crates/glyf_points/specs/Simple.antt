-- the points of a glyph that is drawn by itself (OpenType, "glyf", simple glyphs). After ten bytes of the header stand the
-- last points of the contours, the length of the instructions and these, the flags, the x coordinates, the y coordinates
use Prim.Native.Nat.{zero}
use Rattle.std.specs.Prelude.{ℕ, ℤ, pos, suc, List, [], ◌∷◌, true, false, Option, Some, None, ◌+◌, ◌*◌, ◌^◌, ◌&&◌, ◌||◌, nat_eq, nat_le, nat_lt}
use Rattle.std.specs.Prelude.{length, if◌then◌else◌, slice_set, slice_index_or}
use Rattle.std.specs.Option.{option_map, option_and_then}
use Rattle.font_bytes.specs.Bytes.{u16_of}
use Rattle.glyf_points.specs.Flags.{has, flags_of, first}
use Rattle.glyf_points.specs.Axes.{across, upwards, values_of}
use Rattle.glyf_points.specs.declared.simple.GlyphPoint.{GlyphPoint}

-- ON_CURVE_POINT
abbrev pub point : ℕ → ℤ → ℤ → GlyphPoint
point flag x y = record { x = x; y = y; on = has flag 1; ends = false }

abbrev pub joined : List ℕ → List ℤ → List ℤ → List GlyphPoint
joined [] xs ys = []
joined (flag ∷ flags) [] ys = []
joined (flag ∷ flags) (x ∷ xs) [] = []
joined (flag ∷ flags) (x ∷ xs) (y ∷ ys) = point flag x y ∷ joined flags xs ys

-- a contour ends with a point
abbrev pub ended : GlyphPoint → GlyphPoint
ended p = record p { ends = true }

abbrev pub marked : List GlyphPoint → ℕ → List GlyphPoint
marked points i = slice_set points i (ended (slice_index_or points i (point 0 (pos 0) (pos 0))))

-- the last points of the first `n` contours
abbrev pub ends_marked : List ℕ → ℕ → List GlyphPoint → List GlyphPoint
ends_marked t zero points = points
ends_marked t (suc n) points = marked (ends_marked t n points) (u16_of t (10 + 2 * n))

-- the last point of the last contour says how many there are
abbrev pub points_at : List ℕ → ℕ → ℕ → Option (List GlyphPoint)
points_at t contours start =
    option_and_then (λ f. option_and_then (λ xs. option_map (λ ys. ends_marked t contours (joined f.flags xs.values ys.values))
    (values_of t upwards f.flags xs.end (pos 0))) (values_of t across f.flags f.end (pos 0)))
    (flags_of t (u16_of t (8 + 2 * contours) + 1) (first start))

-- the flags follow the instructions
abbrev pub flags_start : List ℕ → ℕ → ℕ
flags_start t contours = 12 + 2 * contours + u16_of t (10 + 2 * contours)

-- how many points and contours a glyph says that it has; none if it has no points of its own
abbrev pub said : List ℕ → ℕ
said t = let contours = u16_of t 0 in
    (if nat_eq contours 0 || nat_le 0x8000 contours then 0 else u16_of t (8 + 2 * contours) + 1 + contours)

-- an empty glyph has no contour, and one that is made of others a negative number of them
abbrev pub points_of : List ℕ → Option (List GlyphPoint)
points_of t = let contours = u16_of t 0 in
    (if nat_eq contours 0 || nat_le 0x8000 contours then Some []
    else (if nat_lt (length t) (2 ^ 32) && nat_lt (flags_start t contours) (length t) then points_at t contours (flags_start t contours) else None))
