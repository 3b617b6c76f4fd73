-- Numbers of `GPOS` at a size of the font, as HarfBuzz 10.2.0 rounds them. Without a size they are as the font has them.
use Rattle.std.specs.Prelude.{ℤ, pos, Option}
use Rattle.std.specs.Option.{option_map, option_map_or}
use Rattle.std.specs.Float.{Float, binary32}
use lib.Ieee.{add, sub, of_int}
use Rattle.font_sizes.specs.Scales.{real_of, stretched}
use Rattle.font_sizes.specs.declared.scales.Axis.{Axis}
use Rattle.font_sizes.specs.declared.scales.Scale.{Scale}
use Rattle.font_variations.specs.Deltas.{rounded}
use Rattle.layout_matching.specs.declared.lookup.Lookup.{Lookup}
use Rattle.layout_positions.specs.declared.anchors.Anchor.{Anchor}

abbrev pub axis_across : Lookup → Option Axis
axis_across l = option_map (λ (s : Scale). s.across) l.scale

abbrev pub axis_up : Lookup → Option Axis
axis_up l = option_map (λ (s : Scale). s.up) l.scale

-- what devices add is a real number, which is rounded at the size
abbrev pub rounded_at : Option Axis → Float → ℤ
rounded_at axis x = option_map_or (λ (a : Axis). rounded (stretched a x)) axis (rounded x)

-- ---- anchors: real numbers at a size, to which devices add whole ones

abbrev pub point : ℤ → ℤ → Anchor
point x y = record { x = x; y = y; x_delta = pos 0; y_delta = pos 0 }

abbrev pub real : Axis → ℤ → ℤ → Float
real a n delta = add binary32 (real_of a n) (of_int binary32 delta)

-- an anchor by itself is rounded
abbrev pub placed_at : Scale → Anchor → Anchor
placed_at s a = point (rounded (real s.across a.x a.x_delta)) (rounded (real s.up a.y a.y_delta))

-- of two that are to meet, only what is between them
abbrev pub gap_at : Scale → Anchor → Anchor → Anchor
gap_at s a b = point (rounded (sub binary32 (real s.across a.x a.x_delta) (real s.across b.x b.x_delta)))
    (rounded (sub binary32 (real s.up a.y a.y_delta) (real s.up b.y b.y_delta)))

abbrev pub placed : Lookup → Anchor → Anchor
placed l a = option_map_or (λ (s : Scale). placed_at s a) l.scale a

-- so one of them stands at the origin, and the other one as far from there as they are apart
abbrev pub apart : Lookup → Anchor → Anchor → Anchor
apart l a b = option_map_or (λ (s : Scale). gap_at s a b) l.scale a

abbrev pub footing : Lookup → Anchor → Anchor
footing l b = option_map_or (λ (s : Scale). point (pos 0) (pos 0)) l.scale b
