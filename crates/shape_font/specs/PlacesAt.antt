-- Where points of components stand, and the least box that holds them (OpenType, "glyf", composite glyphs), in binary32 as HarfBuzz
-- computes it.
use Rattle.std.specs.Prelude.{ℕ, ℤ, pos, List, false, Option, Some, None, ◌&&◌, slice_index_or, if◌then◌else◌}
use Rattle.std.specs.Float.{Float, binary32}
use lib.Ieee.{of_bits, of_int, add, sub, mul, div, lt}
use Rattle.font_variations.specs.Deltas.{rounded}
use Rattle.font_variations.specs.Tents.{nothing}
use Rattle.glyf_points.specs.declared.composite.Component.{Component}
use Rattle.glyph_variations.specs.Times.{times}
use Rattle.shape_common.specs.declared.face.hb_glyph_extents_t.{hb_glyph_extents_t}
use Rattle.shape_font.specs.Metrics.{no_box}
use Rattle.shape_font.specs.declared.placed.Place.{Place}
use Rattle.shape_font.specs.declared.placed.Frame.{Frame}
use Rattle.shape_font.specs.declared.placed.Part.{Part}
use Rattle.shape_font.specs.declared.placed.Placing.{Placing}
use Rattle.shape_font.specs.declared.placed.Bounds.{Bounds}

abbrev pub whole : ℤ → Float
whole n = of_int binary32 n

-- ---- frames of components

-- a number of 16384ths; that number as its bits
abbrev pub fraction : ℤ → Float
fraction n = div binary32 (whole n) (of_bits binary32 0x46800000)

-- of a component that is moved so far, in the part with this number
abbrev pub frame_of : Component → Place → ℕ → Frame
frame_of c by outer = record {
  xx = fraction c.matrix.xx;
  xy = fraction c.matrix.xy;
  yx = fraction c.matrix.yx;
  yy = fraction c.matrix.yy;
  offset = by;
  is_offset_scaled = c.is_offset_scaled;
  outer = outer;
}

abbrev pub turned : Frame → Place → Place
turned f p = record {
  x = add binary32 (mul binary32 p.x f.xx) (mul binary32 p.y f.yx);
  y = add binary32 (mul binary32 p.x f.xy) (mul binary32 p.y f.yy);
}

abbrev pub shifted : Place → Place → Place
shifted by p = record { x = add binary32 p.x by.x; y = add binary32 p.y by.y }

-- SCALED_COMPONENT_OFFSET: moved before it is multiplied
abbrev pub placed : Frame → Place → Place
placed f p = if f.is_offset_scaled then turned f (shifted f.offset p) else shifted f.offset (turned f p)

-- ---- through the frames of a part, from its own outwards

abbrev pub no_place : Place
no_place = record { x = nothing; y = nothing }

abbrev pub no_frame : Frame
no_frame = record { xx = nothing; xy = nothing; yx = nothing; yy = nothing; offset = no_place; is_offset_scaled = false; outer = 0 }

abbrev pub no_part : Part
no_part = record { glyph = 0; depth = 0; frame = no_frame }

abbrev pub part_at : List Part → ℕ → Part
part_at parts i = slice_index_or parts i no_part

abbrev pub out_step : List Part → Placing → Placing
out_step parts p = let f = (part_at parts p.part).frame in record { part = f.outer; place = placed f p.place }

unfoldable pub through : List Part → ℕ → Place → Place
through parts i p = (times (out_step parts) (part_at parts i).depth (record { part = i; place = p })).place

-- ---- boxes

abbrev pub least : Float → Float → Float
least a b = if lt b a then b else a

abbrev pub greatest : Float → Float → Float
greatest a b = if lt a b then b else a

unfoldable pub widened : Option Bounds → Place → Option Bounds
widened None p = Some (record { low = p; high = p })
widened (Some b) p = Some (record {
  low = record { x = least b.low.x p.x; y = least b.low.y p.y };
  high = record { x = greatest b.high.x p.x; y = greatest b.high.y p.y };
})

abbrev pub from_whole : Float → ℤ → ℤ
from_whole x n = rounded (sub binary32 x (whole n))

-- from the rounded left and upper sides; without width or height it is empty
unfoldable pub bounded : Bounds → hb_glyph_extents_t
bounded b = if lt b.low.x b.high.x && lt b.low.y b.high.y then record {
  x_bearing = rounded b.low.x;
  y_bearing = rounded b.high.y;
  width = from_whole b.high.x (rounded b.low.x);
  height = from_whole b.low.y (rounded b.high.y);
} else no_box

abbrev pub extents_by : Option Bounds → hb_glyph_extents_t
extents_by None = no_box
extents_by (Some b) = bounded b
