-- Deltas of points that a tuple doesn't list (OpenType, "gvar", "Inferred deltas for un-referenced point numbers"), along one coordinate.
use Prim.Native.Nat.{zero}
use Rattle.std.specs.Prelude.{ℕ, suc, pos, List, Bool, false, Option, Some, None, is_some, ◌+◌, ◌-◌, length, slice_set, slice_index_or, if◌then◌else◌}
use Rattle.std.specs.Option.{unwrap_or}
use Rattle.std.specs.Float.{Float, binary32}
use lib.Ieee.{of_int, add, sub, mul, div, eq, lt}
use Rattle.font_variations.specs.Tents.{nothing}
use Rattle.glyf_points.specs.declared.simple.GlyphPoint.{GlyphPoint}
use Rattle.glyph_variations.specs.Times.{steps}
use Rattle.glyph_variations.specs.declared.inferred.Listed.{Listed}
use Rattle.glyph_variations.specs.declared.inferred.Neighbor.{Neighbor}
use Rattle.glyph_variations.specs.declared.inferred.Contour.{Contour}
use Rattle.glyph_variations.specs.declared.sums.Moving.{Moving}

-- ---- parts of lists; past the end there is nothing

abbrev pub no_point : GlyphPoint
no_point = record { x = pos 0; y = pos 0; on = false; ends = false }

abbrev pub untouched : Listed
untouched = record { delta = nothing; touched = false }

abbrev pub still : Moving
still = record { position = nothing; pending = nothing }

-- where a point stands in the default instance
abbrev pub place_of : Bool → GlyphPoint → Float
place_of vertical p = of_int binary32 (if vertical then p.y else p.x)

abbrev pub place_at : List GlyphPoint → Bool → ℕ → Float
place_at points vertical i = place_of vertical (slice_index_or points i no_point)

abbrev pub listed_at : List Listed → ℕ → Listed
listed_at xs i = slice_index_or xs i untouched

abbrev pub moving_at : List Moving → ℕ → Moving
moving_at ms i = slice_index_or ms i still

abbrev pub with_pending : List Moving → ℕ → Float → List Moving
with_pending ms i delta = slice_set ms i (record (moving_at ms i) { pending = delta })

-- ---- the delta of a point between two touched ones

abbrev pub lower : Neighbor → Neighbor → Neighbor
lower a b = if lt a.place b.place then a else b

abbrev pub higher : Neighbor → Neighbor → Neighbor
higher a b = if lt a.place b.place then b else a

abbrev pub between : Float → Neighbor → Neighbor → Float
between place a b = add binary32 a.delta
    (mul binary32 (div binary32 (sub binary32 place a.place) (sub binary32 b.place a.place)) (sub binary32 b.delta a.delta))

-- where both stand at one place, their delta if it is the same; else a point outside moves as the nearer one does, and one between them
-- in proportion
unfoldable pub inferred : Float → Neighbor → Neighbor → Float
inferred place a b =
    if eq a.place b.place then (if eq a.delta b.delta then a.delta else nothing)
    else (if lt (lower a b).place place
    then (if lt place (higher a b).place then between place a b else (higher a b).delta)
    else (lower a b).delta)

-- ---- the touched points next to a point along its contour, on which the first point follows the last

abbrev pub last_touched : List Listed → ℕ → ℕ → Option ℕ
last_touched xs start zero = None
last_touched xs start (suc n) = if (listed_at xs (start + n)).touched then Some (start + n) else last_touched xs start n

abbrev pub first_touched : List Listed → ℕ → ℕ → Option ℕ
first_touched xs i zero = None
first_touched xs i (suc n) = if (listed_at xs i).touched then Some i else first_touched xs (i + 1) n

abbrev pub size_of : Contour → ℕ
size_of c = c.end - c.start

-- before, and after, point number `k` of a contour that has a touched point
abbrev pub before : List Listed → Contour → ℕ → ℕ
before xs c k = unwrap_or (last_touched xs c.start k) (unwrap_or (last_touched xs c.start (size_of c)) 0)

abbrev pub after : List Listed → Contour → ℕ → ℕ
after xs c k = unwrap_or (first_touched xs (c.start + k) (size_of c - k)) (unwrap_or (first_touched xs c.start (size_of c)) 0)

abbrev pub neighbor : List GlyphPoint → Bool → List Listed → ℕ → Neighbor
neighbor points vertical xs i = record { place = place_at points vertical i; delta = (listed_at xs i).delta }

-- ---- the points of a contour, and of all: those that aren't touched get their deltas

abbrev pub spread_step : List GlyphPoint → Bool → Contour → List Listed → ℕ → List Moving → List Moving
spread_step points vertical c xs k ms = if (listed_at xs (c.start + k)).touched then ms
    else with_pending ms (c.start + k) (inferred (place_at points vertical (c.start + k))
    (neighbor points vertical xs (before xs c k)) (neighbor points vertical xs (after xs c k)))

-- a contour without a touched point stays
unfoldable pub spread : List GlyphPoint → Bool → Contour → List Listed → List Moving → List Moving
spread points vertical c xs ms = if is_some (last_touched xs c.start (size_of c))
    then steps (spread_step points vertical c xs) (size_of c) ms else ms

-- a contour ends with a point that says so
pub record Contours : Type 0 where
  pub start : ℕ
  pub moving : List Moving

abbrev pub contours : ℕ → List Moving → Contours
contours start moving = record { start = start; moving = moving }

abbrev pub contour_step : List GlyphPoint → Bool → List Listed → ℕ → Contours → Contours
contour_step points vertical xs i s = if (slice_index_or points i no_point).ends
    then record { start = i + 1; moving = spread points vertical (record { start = s.start; end = i + 1 }) xs s.moving }
    else s

unfoldable pub all_spread : List GlyphPoint → Bool → List Listed → List Moving → List Moving
all_spread points vertical xs ms =
    (steps (contour_step points vertical xs) (length points) (contours 0 ms)).moving
