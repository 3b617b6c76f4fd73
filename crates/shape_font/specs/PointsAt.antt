-- Metrics of glyphs at coordinates by `gvar` (OpenType, "gvar", "Phantom points"). A glyph has four points for its metrics: left, right,
-- top and bottom, numbers 0 to 3. Each comes to stand at its place in the default instance, plus the sum of scalar times delta.
use Rattle.std.specs.Prelude.{ℕ, ℤ, List, [], Bool, false, Option, Some, None, pos, ◌+◌, ◌*◌, ◌+ℤ◌, ◌-ℤ◌, ◌&&◌, nat_le, nat_lt, length, if◌then◌else◌}
use Rattle.std.specs.Prelude.{slice_range, int_lt}
use Rattle.std.specs.Option.{option_map, option_map_or, option_and_then, unwrap_or}
use Rattle.std.specs.Float.{Float, binary32}
use lib.Ieee.{of_int, sub}
use Rattle.font_variations.specs.Deltas.{rounded}
use Rattle.glyph_variations.specs.Glyph.{Stored, stored_of}
use Rattle.glyph_variations.specs.MetricPoints.{point_count, metrics_component}
use Rattle.glyph_variations.specs.Sums.{moved_to}
use Rattle.glyph_variations.specs.Times.{times}
use Rattle.shape_font.specs.Bytes.{i16_of}
use Rattle.shape_font.specs.Metrics.{advance_of, bearing_of, place_of}
use Rattle.shape_font.specs.declared.face.FontFace.{FontFace}
use Rattle.shape_font.specs.declared.face.metric_points.MetricPoint.{MetricPoint}

-- the bytes of an outline, if `loca` has a place for it and `glyf` holds it; one without a whole header is empty
abbrev pub outline_from : List ℕ → ℕ → ℕ → Option (List ℕ)
outline_from glyf start end = if nat_le start end && nat_le end (length glyf)
    then Some (if nat_lt end (start + 10) then [] else slice_range glyf start end) else None

abbrev pub has_place : FontFace → ℕ → Bool
has_place f glyph = nat_le ((if f.long_places then 4 else 2) * (glyph + 2)) (length f.loca.now)

abbrev pub outline_of : FontFace → ℕ → Option (List ℕ)
outline_of f glyph = if has_place f glyph
    then outline_from f.glyf.now (place_of f.loca.now f.long_places glyph) (place_of f.loca.now f.long_places (glyph + 1)) else None

-- the glyph whose metrics a glyph has: a component of it that says so, and so on, at most eight times
abbrev pub metrics_step : FontFace → ℕ → ℕ
metrics_step f glyph = option_map_or (λ c. c) (option_and_then metrics_component (outline_of f glyph)) glyph

unfoldable pub metrics_glyph : FontFace → ℕ → ℕ
metrics_glyph f glyph = times (metrics_step f) 8 glyph

-- where a point of a glyph comes to stand that has so many points of its own
unfoldable pub point_at : FontFace → ℕ → ℕ → MetricPoint → Float
point_at f glyph own p = moved_to (stored_of f.gvar.now f.glyph_count glyph f.coordinates.now)
    (record { point = own + p.number; count = own + 4; vertical = nat_le 2 p.number }) (of_int binary32 p.place)

-- how far it is from one point to another
abbrev pub between : FontFace → ℕ → ℕ → MetricPoint → MetricPoint → ℤ
between f glyph own near far = rounded (sub binary32 (point_at f glyph own far) (point_at f glyph own near))

-- left and right in the default instance: the outline stands at the left bearing
abbrev pub left_in : List ℕ → ℕ → ℕ → List ℕ → ℤ
left_in hmtx count glyph t = option_map_or (λ bearing. i16_of t 2 -ℤ bearing) (bearing_of hmtx count glyph) (pos 0)

abbrev pub left_of : FontFace → ℕ → List ℕ → ℤ
left_of f glyph t = left_in f.hmtx.now f.h_count glyph t

-- where variations move the left point of an outline, which comes first of the four after its own
unfoldable pub moved_left : Stored → List ℕ → ℤ → Option Float
moved_left g t left = option_map (λ own. moved_to g (record { point = own; count = own + 4; vertical = false }) (of_int binary32 left))
    (point_count t)

abbrev pub left_point : FontFace → ℕ → List ℕ → MetricPoint
left_point f glyph t = record { number = 0; place = left_of f glyph t }

abbrev pub right_point : FontFace → ℕ → List ℕ → MetricPoint
right_point f glyph t = record { number = 1; place = left_of f glyph t +ℤ pos (advance_of f.hmtx.now f.h_count glyph) }

-- top and bottom: the top lies above the outline by the upper bearing, if there is one
abbrev pub top_of : FontFace → ℕ → List ℕ → ℤ
top_of f glyph t = i16_of t 8 +ℤ unwrap_or (bearing_of f.vmtx.now f.v_count glyph) (pos 0)

abbrev pub top_point : FontFace → ℕ → List ℕ → MetricPoint
top_point f glyph t = record { number = 2; place = top_of f glyph t }

abbrev pub bottom_of : FontFace → ℕ → List ℕ → ℤ
bottom_of f glyph t = top_of f glyph t -ℤ pos (advance_of f.vmtx.now f.v_count glyph)

abbrev pub bottom_point : FontFace → ℕ → List ℕ → MetricPoint
bottom_point f glyph t = record { number = 3; place = bottom_of f glyph t }

-- the advances of a glyph, and the height of its origin, if its outline is there
unfoldable pub width_of : FontFace → ℕ → Option ℤ
width_of f glyph = option_and_then (λ t. option_map (λ own. between f glyph own (left_point f glyph t) (right_point f glyph t)) (point_count t))
    (outline_of f glyph)

unfoldable pub depth_of : FontFace → ℕ → Option ℤ
depth_of f glyph = option_and_then (λ t. option_map (λ own. between f glyph own (bottom_point f glyph t) (top_point f glyph t)) (point_count t))
    (outline_of f glyph)

unfoldable pub height_of : FontFace → ℕ → Option ℤ
height_of f glyph = option_and_then (λ t. option_map (λ own. rounded (point_at f glyph own (top_point f glyph t))) (point_count t))
    (outline_of f glyph)

-- an advance that is not above 0 counts as none: the glyph has that of the default instance
abbrev pub or_default : Option ℤ → ℕ → ℤ
or_default found advance = option_map_or (λ n. if int_lt (pos 0) n then n else pos advance) found (pos advance)
