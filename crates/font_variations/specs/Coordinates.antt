-- The coordinates of an instance of a font, one for each of its axes, normalized: by `fvar` from the values that are wished,
-- and then by `avar`.
use Rattle.std.specs.Prelude.{ℕ, ℤ, List, [], Bool, Option, Some, None, ◌+◌, ◌/◌, ◌||◌, ◌&&◌, ◌+ℤ◌, nat_eq, nat_lt, nat_le, length, map, if◌then◌else◌}
use Rattle.std.specs.Prelude.{cond, fold, is_none}
use Rattle.std.specs.List.{range_with_len}
use Rattle.std.specs.Option.{option_map_or}
use Rattle.std.specs.Float.{Float}
use Rattle.font_bytes.specs.Bytes.{u16_of, u32_of}
use Rattle.font_variations.specs.Axes.{axis_count, axis_of, instance_count, instance_value}
use Rattle.font_variations.specs.Deltas.{delta_within, rounded}
use Rattle.font_variations.specs.IndexMaps.{mapped}
use Rattle.font_variations.specs.Normal.{bounded, normalized}
use Rattle.font_variations.specs.Parts.{part_at}
use Rattle.font_variations.specs.Regions.{coordinate_of}
use Rattle.font_variations.specs.Segments.{mapped_by, segments_at}
use Rattle.font_variations.specs.declared.coordinates.TheConstants.{MOST_SHIFT_STEPS}
use Rattle.font_variations.specs.declared.coordinates.Variation.{Variation}

-- ---- in the units of users

-- of the named instance, if the font has it, else the default
abbrev pub instance_or_default : List ℕ → Option ℕ → ℕ → Float
instance_or_default fvar instance axis =
    option_map_or (λ i. cond (nat_lt i (instance_count fvar)) (instance_value fvar i axis) (axis_of fvar axis).default) instance
    (axis_of fvar axis).default

-- of the wishes for one axis the last one counts
abbrev pub wished : ℕ → Float → Variation → Float
wished tag value wish = cond (nat_eq wish.tag tag) wish.value value

unfoldable pub design_value : List ℕ → Option ℕ → List Variation → ℕ → Float
design_value fvar instance wishes axis = fold (wished (axis_of fvar axis).tag) (instance_or_default fvar instance axis) wishes

-- ---- normalized

-- `avar` of major version 1 or 2 that holds the segments of all its axes
abbrev pub has_segments : List ℕ → Bool
has_segments avar = (nat_eq (u16_of avar 0) 1 || nat_eq (u16_of avar 0) 2) && nat_le (segments_at avar (u16_of avar 6)) (length avar)

-- where the segments of an axis stand, if it has some
abbrev pub segments_of : List ℕ → ℕ → Option ℕ
segments_of avar axis = if has_segments avar then (if nat_lt axis (u16_of avar 6) then Some (segments_at avar axis) else None) else None

unfoldable pub axis_coordinate : List ℕ → List ℕ → Option ℕ → List Variation → ℕ → ℤ
axis_coordinate fvar avar instance wishes axis =
    let value = normalized (axis_of fvar axis) (design_value fvar instance wishes axis) in
    option_map_or (λ at. mapped_by avar at value) (segments_of avar axis) value

abbrev pub by_segments : List ℕ → List ℕ → Option ℕ → List Variation → List ℤ
by_segments fvar avar instance wishes = map (axis_coordinate fvar avar instance wishes) (range_with_len 0 (axis_count fvar))

-- version 2 has an index map and a store after the segments: each coordinate is shifted by what they say at the coordinates
-- so far, unless that would take too many steps for all axes
abbrev pub tail_of : List ℕ → ℕ
tail_of avar = segments_at avar (u16_of avar 6)

unfoldable pub shift_of : List ℕ → List ℤ → ℕ → ℤ
shift_of avar coordinates axis =
    let map_part = part_at avar (u32_of avar (tail_of avar)) in
    let store = part_at avar (u32_of avar (tail_of avar + 4)) in
    rounded (delta_within (MOST_SHIFT_STEPS / length coordinates) store coordinates (mapped map_part axis))

unfoldable pub shifted : List ℕ → List ℤ → ℕ → ℤ
shifted avar coordinates axis = bounded (coordinate_of coordinates axis +ℤ shift_of avar coordinates axis)

abbrev pub shifted_each : List ℕ → List ℤ → List ℤ
shifted_each avar coordinates = map (shifted avar coordinates) (range_with_len 0 (length coordinates))

abbrev pub by_deltas : List ℕ → List ℤ → List ℤ
by_deltas avar coordinates = if has_segments avar && nat_eq (u16_of avar 0) 2
    then shifted_each avar coordinates else coordinates

abbrev pub is_nothing : Option ℕ → List Variation → Bool
is_nothing instance wishes = is_none instance && nat_eq (length wishes) 0

-- nothing wanted: no coordinates, which is the default instance
abbrev pub coordinates_of : List ℕ → List ℕ → Option ℕ → List Variation → List ℤ
coordinates_of fvar avar instance wishes = if is_nothing instance wishes then []
    else by_deltas avar (by_segments fvar avar instance wishes)
