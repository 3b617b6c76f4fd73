-- where points of an outline stand (OpenType, "glyf"): a component's points are multiplied by its matrix and moved. Sums and
-- products are those of binary64
use Rattle.std.specs.Prelude.{ℤ, Bool, true, if◌then◌else◌}
use Rattle.std.specs.Float.{Float, binary64}
use lib.Ieee.{add, mul, div, of_bits, of_int}
use Rattle.glyf_points.specs.declared.composite.Component.{Component}
use Rattle.glyf_points.specs.declared.composite.Placement.{Placement}
use Rattle.glyf_points.specs.declared.composite.Placement.TheVariants.{Moved, OnPoint}
use Rattle.glyf_points.specs.declared.simple.GlyphPoint.{GlyphPoint}
use Rattle.glyph_outlines.specs.declared.frame.Frame.{Frame}
use Rattle.glyph_outlines.specs.declared.frame.Point.{Point}
use Rattle.glyph_outlines.specs.declared.frame.OutlinePoint.{OutlinePoint}
use Rattle.glyph_outlines.specs.declared.varied.VariedPoint.{VariedPoint}

-- 0, 1, 2 and 16384, as their bits
abbrev pub nought : Float
nought = of_bits binary64 0

abbrev pub one : Float
one = of_bits binary64 0x3ff0000000000000

abbrev pub two : Float
two = of_bits binary64 0x4000000000000000

abbrev pub fraction : ℤ → Float
fraction n = div binary64 (of_int binary64 n) (of_bits binary64 0x40d0000000000000)

abbrev pub middle : Point → Point → Point
middle a b = record { x = div binary64 (add binary64 a.x b.x) two; y = div binary64 (add binary64 a.y b.y) two; on = true }

-- a x + b y + c
abbrev pub line : Float → Float → Float → Float → Float → Float
line a x b y c = add binary64 (add binary64 (mul binary64 a x) (mul binary64 b y)) c

abbrev pub moved : Frame → Float → Float → Bool → Point
moved f x y on = record { x = line f.xx x f.yx y f.x; y = line f.xy x f.yy y f.y; on = on }

abbrev pub still : Frame
still = record { xx = one; xy = nought; yx = nought; yy = one; x = nought; y = nought }

-- what the frame of a component does after that of its own component
abbrev pub within : Frame → Frame → Frame
within f inner = let origin = moved f inner.x inner.y true in record {
  xx = add binary64 (mul binary64 f.xx inner.xx) (mul binary64 f.yx inner.xy);
  xy = add binary64 (mul binary64 f.xy inner.xx) (mul binary64 f.yy inner.xy);
  yx = add binary64 (mul binary64 f.xx inner.yx) (mul binary64 f.yx inner.yy);
  yy = add binary64 (mul binary64 f.xy inner.yx) (mul binary64 f.yy inner.yy);
  x = origin.x;
  y = origin.y;
}

abbrev pub offset : Placement → Point
offset (Moved x y) = record { x = of_int binary64 x; y = of_int binary64 y; on = true }
offset (OnPoint whole own) = record { x = nought; y = nought; on = true }

-- what a component's points are multiplied by
abbrev pub turned : Component → Frame
turned c = record {
  xx = fraction c.matrix.xx;
  xy = fraction c.matrix.xy;
  yx = fraction c.matrix.yx;
  yy = fraction c.matrix.yy;
  x = nought;
  y = nought;
}

-- the offset of a component is multiplied, too, if the font says so
abbrev pub origin_of : Component → Point
origin_of c = let by = offset c.placement in (if c.is_offset_scaled then moved (turned c) by.x by.y true else by)

abbrev pub frame_of : Component → Frame
frame_of c = record (turned c) { x = (origin_of c).x; y = (origin_of c).y }

-- the same of a component that variations move so far
abbrev pub origin_by : Component → Point → Point
origin_by c by = if c.is_offset_scaled then moved (turned c) by.x by.y true else by

abbrev pub frame_by : Component → Point → Frame
frame_by c by = record (turned c) { x = (origin_by c by).x; y = (origin_by c by).y }

-- the frame that moves along the line
abbrev pub along : Float → Frame
along dx = record still { x = dx }

abbrev pub placed : Frame → GlyphPoint → OutlinePoint
placed f p = record { point = moved f (of_int binary64 p.x) (of_int binary64 p.y) p.on; ends = p.ends }

-- a point at coordinates, as numbers of binary64, which has all those of binary32
abbrev pub point_of : VariedPoint → Point
point_of p = record { x = p.x; y = p.y; on = p.on }

abbrev pub placed_at : Frame → VariedPoint → OutlinePoint
placed_at f p = record { point = moved f p.x p.y p.on; ends = p.ends }

abbrev pub shifted : Float → Float → OutlinePoint → OutlinePoint
shifted dx dy p = record p { point = record p.point { x = add binary64 p.point.x dx; y = add binary64 p.point.y dy } }
