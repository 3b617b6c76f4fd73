-- where the left point for the metrics of a glyph stands at coordinates (OpenType, "gvar", "Phantom points"): it comes first of the four
-- after the glyph's own. What is drawn is moved so that it stands at 0
use Rattle.std.specs.Prelude.{ℕ, nat_eq, length, if◌then◌else◌}
use Rattle.std.specs.Option.{unwrap_or}
use Rattle.std.specs.Float.{Float, binary64}
use lib.Ieee.{sub}
use Rattle.font_variations.specs.Tents.{nothing}
use Rattle.glyph_variations.specs.Glyph.{stored_of}
use Rattle.glyph_variations.specs.MetricPoints.{metrics_component}
use Rattle.glyph_variations.specs.Times.{times}
use Rattle.shape_font.specs.PointsAt.{left_in, moved_left}
use Rattle.glyph_outlines.specs.Frames.{along, still, nought}
use Rattle.glyph_outlines.specs.Places.{outline_bytes}
use Rattle.glyph_outlines.specs.declared.frame.Frame.{Frame}
use Rattle.glyph_outlines.specs.declared.outlines.Outlines.{Outlines}

-- the glyph whose metrics a glyph has: a component of it that says so, and so on, at most eight times
abbrev pub metrics_step : Outlines → ℕ → ℕ
metrics_step o glyph = unwrap_or (metrics_component (outline_bytes o glyph)) glyph

unfoldable pub metrics_glyph : Outlines → ℕ → ℕ
metrics_glyph o glyph = times (metrics_step o) 8 glyph

-- at the coordinates; at 0 if the outline isn't whole
unfoldable pub left_at : Outlines → ℕ → Float
left_at o glyph = let t = outline_bytes o glyph in
    unwrap_or (moved_left (stored_of o.gvar.now o.glyph_count glyph o.coordinates.now) t (left_in o.hmtx.now o.h_count glyph t)) nothing

-- at no coordinates nothing is moved
abbrev pub frame_at : Outlines → ℕ → Frame
frame_at o glyph = if nat_eq (length o.coordinates.now) 0 then still else along (sub binary64 nought (left_at o (metrics_glyph o glyph)))
