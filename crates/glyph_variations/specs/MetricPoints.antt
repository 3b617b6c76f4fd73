-- The points on which the metrics of a glyph depend (OpenType, "gvar", "Phantom points"): a glyph has four of them after its own, which
-- are those of its outline, or one for each of its components.
use Rattle.std.specs.Prelude.{ℕ, List, false, true, Option, Some, None, ◌+◌, ◌*◌, ◌/◌, nat_eq, nat_lt, nat_le, min, length, if◌then◌else◌}
use Rattle.std.specs.Int.RustNames.{bit_and}
use Rattle.font_bytes.specs.Bytes.{u16_of}
use Rattle.glyf_points.specs.Composite.{component_size}
use Rattle.glyf_points.specs.Flags.{has}
use Rattle.glyph_variations.specs.Times.{times}
use Rattle.glyph_variations.specs.declared.metric_points.ComponentWalk.{ComponentWalk}
use Rattle.glyph_variations.specs.declared.metric_points.TheConstants.{MOST_COMPONENTS}

-- components follow the header
abbrev pub begun : ComponentWalk
begun = record { at = 10; count = 0; metrics = None; ended = false }

-- USE_MY_METRICS, and MORE_COMPONENTS
abbrev pub with_component : List ℕ → ComponentWalk → ComponentWalk
with_component t w = let flags = u16_of t w.at in
    record {
      at = w.at + component_size flags;
      count = w.count + 1;
      metrics = if has flags 0x200 then Some (u16_of t (w.at + 2)) else w.metrics;
      ended = nat_eq (bit_and flags 0x20) 0;
    }

-- a component that is cut off is none
abbrev pub component_step : List ℕ → ComponentWalk → ComponentWalk
component_step t w = if w.ended then w
    else (if nat_lt (length t) (w.at + component_size (u16_of t w.at)) then record w { ended = true } else with_component t w)

-- a component has six bytes at least
abbrev pub room_of : List ℕ → ℕ
room_of t = min (length t / 6) MOST_COMPONENTS

abbrev pub walk_of : List ℕ → ComponentWalk
walk_of t = times (component_step t) (room_of t) begun

-- an empty glyph has no contour, and one that is made of others a negative number of them; the last point of the last contour says how
-- many there are, if it isn't cut off
abbrev pub point_count : List ℕ → Option ℕ
point_count t = let contours = u16_of t 0 in
    (if nat_eq contours 0 then Some 0
    else (if nat_le 0x8000 contours then Some (walk_of t).count
    else (if nat_lt (length t) (12 + 2 * contours) then None else Some (u16_of t (8 + 2 * contours) + 1))))

-- the last component that says that the whole has its metrics
abbrev pub metrics_component : List ℕ → Option ℕ
metrics_component t = if nat_le 0x8000 (u16_of t 0) then (walk_of t).metrics else None
