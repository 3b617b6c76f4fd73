-- The box of a glyph that is drawn in layers: the least one that holds those of the layers, as HarfBuzz 10.2.0 computes it in binary32.
use Rattle.std.specs.Prelude.{Bool, Option, ◌&&◌, if◌then◌else◌}
use Rattle.std.specs.Option.{option_map_or}
use Rattle.std.specs.Float.{binary32}
use lib.Ieee.{sub, lt, of_int, to_signed}
use Rattle.font_sizes.specs.Scales.{stretched}
use Rattle.font_sizes.specs.declared.scales.Scale.{Scale}
use Rattle.shape_common.specs.Wrapping.{◌+ʷ◌}
use Rattle.shape_common.specs.declared.face.hb_glyph_extents_t.{hb_glyph_extents_t}
use Rattle.shape_font.specs.Colors.{no_box}
use Rattle.shape_font.specs.PlacesAt.{least, greatest, widened}
use Rattle.shape_font.specs.declared.placed.Bounds.{Bounds}
use Rattle.shape_font.specs.declared.placed.Place.{Place}

abbrev pub corners : hb_glyph_extents_t → Bounds
corners b = record {
  low = record { x = of_int binary32 b.x_bearing; y = of_int binary32 (b.y_bearing +ʷ b.height) };
  high = record { x = of_int binary32 (b.x_bearing +ʷ b.width); y = of_int binary32 b.y_bearing };
}

-- a box counts if it has an area
abbrev pub has_area : Bounds → Bool
has_area b = lt b.low.x b.high.x && lt b.low.y b.high.y

abbrev pub with_layer : Option Bounds → Option Bounds → Option Bounds
with_layer b layer = option_map_or (λ (l : Bounds). if has_area l then widened (widened b l.low) l.high else b) layer b

-- ---- whole numbers: the sides, and how far they lie apart, towards 0; at a size after they are scaled

unfoldable pub whole_box : Bounds → hb_glyph_extents_t
whole_box b = record {
  x_bearing = to_signed 31 b.low.x;
  y_bearing = to_signed 31 b.high.y;
  width = to_signed 31 (sub binary32 b.high.x b.low.x);
  height = to_signed 31 (sub binary32 b.low.y b.high.y);
}

abbrev pub place_at : Scale → Place → Place
place_at s p = record { x = stretched s.across p.x; y = stretched s.up p.y }

abbrev pub bounds_at : Scale → Bounds → Bounds
bounds_at s b = let low = place_at s b.low in let high = place_at s b.high in record {
  low = record { x = least low.x high.x; y = least low.y high.y };
  high = record { x = greatest low.x high.x; y = greatest low.y high.y };
}

-- layers without an area leave nothing
abbrev pub covered : Option Scale → Option Bounds → hb_glyph_extents_t
covered scale bounds = option_map_or (λ (b : Bounds). whole_box (option_map_or (λ (s : Scale). bounds_at s b) scale b)) bounds no_box
