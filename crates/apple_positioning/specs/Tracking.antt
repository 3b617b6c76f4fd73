-- Tracking (TrueType Reference Manual, "The 'trak' table"): how much wider or closer glyphs stand in a text of some point size.
-- Sizes and values are computed in binary32, as HarfBuzz computes them.
use Rattle.std.specs.Prelude.{ℕ, ℤ, pos, List, Bool, Option, ◌+◌, ◌-◌, ◌*◌, ◌||◌, ◌&&◌, not, nat_eq, int_div, slice_index_or}
use Rattle.std.specs.Prelude.{slice_set, if◌then◌else◌}
use Rattle.std.specs.Option.{option_map, option_map_or, unwrap_or}
use Rattle.std.specs.Int.RustNames.{bit_and}
use Rattle.std.specs.Float.{Float, binary32}
use lib.Ieee.{add, sub, mul, div, eq, le, of_int}
use Rattle.font_bytes.specs.Bytes.{i32_of}
use Rattle.font_sizes.specs.Scales.{real_of}
use Rattle.font_sizes.specs.declared.scales.Scale.{Scale}
use Rattle.font_variations.specs.Deltas.{rounded}
use Rattle.shape_font.specs.Bytes.{u16_of, u32_of, i16_of, fitting}
use Rattle.shape_font.specs.Search.{first_at}
use Rattle.shape_buffer.specs.PositionWalks.{positions_mapped}
use Rattle.shape_common.specs.Direction.{is_horizontal}
use Rattle.shape_common.specs.Positions.{zero_position}
use Rattle.shape_common.specs.Wrapping.{◌+ʷ◌}
use Rattle.shape_common.specs.declared.positions.GlyphPosition.{GlyphPosition}
use Rattle.shape_items.specs.Buffer.{Buffer}
use Rattle.shape_items.specs.Items.{Item, new_item}
use Rattle.apple_positioning.specs.declared.tracking.Spacing.{Spacing}
use Rattle.apple_positioning.specs.declared.tracking.TheConstants.{FIXED_ONE, NO_SIZE, WHOLE}

-- ---- the header: a version (16.16), a format, and where the data for horizontal text and for vertical text stand (16 bits each);
-- ---- 0 if there are none

abbrev pub has_tracking : List ℕ → Bool
has_tracking t = nat_eq (u16_of t 0) 1

abbrev pub data_of : List ℕ → Bool → ℕ
data_of t horizontal = u16_of t (if horizontal then 6 else 8)

-- ---- data: nTracks and nSizes (16 bits each), and where the sizes stand (32 bits); then the tracks

-- a track has its own value (16.16), a name, and the place of its values (16 bits each), one for each size
abbrev pub track_count : List ℕ → ℕ → ℕ
track_count t start = fitting t (u16_of t start) (start + 8) 8

-- the normal track has the value 0; HarfBuzz takes no other one
abbrev pub is_normal : List ℕ → ℕ → ℕ → Bool
is_normal t start i = nat_eq (u32_of t (start + 8 + 8 * i)) 0

abbrev pub normal_values : List ℕ → ℕ → Option ℕ
normal_values t start = option_map (λ i. u16_of t (start + 14 + 8 * i)) (first_at (is_normal t start) (track_count t start) 0)

-- ---- sizes, in points (16.16)

abbrev pub sizes_at : List ℕ → ℕ → ℕ
sizes_at t start = u32_of t (start + 4)

abbrev pub size_count : List ℕ → ℕ → ℕ
size_count t start = fitting t (u16_of t (start + 2)) (sizes_at t start) 4

unfoldable pub size_of : List ℕ → ℕ → ℕ → Float
size_of t sizes i = div binary32 (of_int binary32 (i32_of t (sizes + 4 * i))) FIXED_ONE

-- a point size lies before the first size that isn't below it, or before the last one; so it may lie outside of the sizes
abbrev pub is_reached : List ℕ → ℕ → Float → ℕ → Bool
is_reached t sizes points i = le points (size_of t sizes i)

abbrev pub size_before : List ℕ → ℕ → ℕ → Float → ℕ
size_before t sizes count points = unwrap_or (first_at (is_reached t sizes points) (count - 1) 0) (count - 1) - 1

-- ---- values: what lies between those of two sizes is interpolated

-- which part of the way from one size to the next a point size has gone
unfoldable pub part : Float → Float → Float → Float
part from to points = if eq from to then NO_SIZE else div binary32 (sub binary32 points from) (sub binary32 to from)

-- to the nearest integer, halves upwards
unfoldable pub between : ℤ → ℤ → Float → ℤ
between from to part = rounded (add binary32
    (mul binary32 part (of_int binary32 to)) (mul binary32 (sub binary32 WHOLE part) (of_int binary32 from)))

abbrev pub interpolated : List ℕ → ℕ → ℕ → ℕ → Float → ℤ
interpolated t sizes count values points = let i = size_before t sizes count points in
    between (i16_of t (values + 2 * i)) (i16_of t (values + 2 * i + 2))
    (part (size_of t sizes i) (size_of t sizes (i + 1)) points)

abbrev pub value_of : List ℕ → ℕ → ℕ → ℕ → Float → ℤ
value_of t sizes count values points = if nat_eq count 0 then pos 0
    else (if nat_eq count 1 then i16_of t values
    else interpolated t sizes count values points)

-- ---- the tracking of a point size, in units of the em square; none for a text of which the point size isn't known

abbrev pub tracking_of : List ℕ → Bool → Float → ℤ
tracking_of t horizontal points = let start = data_of t horizontal in
    (if not (has_tracking t) || (nat_eq start 0 || le points NO_SIZE) then pos 0
    else option_map_or (λ values. value_of t (sizes_at t start) (size_count t start) values points) (normal_values t start) (pos 0))

-- ---- a run

-- a number along the line at the size of the font: HarfBuzz multiplies it in binary32, and takes the nearest integer, halves upwards. At
-- the size of the em square it stays the same up to 2^23
unfoldable pub scaled : Option Scale → Bool → ℤ → ℤ
scaled scale along n =
    rounded (option_map_or (λ (s : Scale). real_of (if along then s.across else s.up) n) scale (of_int binary32 n))

-- a glyph becomes wider along the line, and stands in the middle: half of the tracking, towards 0, moves it, scaled by itself
abbrev pub spacing_of : Option Scale → Bool → ℤ → Spacing
spacing_of scale along by = record {
  along = along;
  advance = scaled scale along by;
  offset = scaled scale along (int_div by (pos 2));
}

abbrev pub moved : Spacing → GlyphPosition → GlyphPosition
moved w p = if w.along then record p { x_advance = p.x_advance +ʷ w.advance; x_offset = p.x_offset +ʷ w.offset }
    else record p { y_advance = p.y_advance +ʷ w.advance; y_offset = p.y_offset +ʷ w.offset }

abbrev pub is_tracked : ℕ → Item → Bool
is_tracked mask item = not (nat_eq (bit_and item.mask mask) 0)

-- the first glyph of each grapheme moves: one that continues none
abbrev pub start_moved : Spacing → ℕ → Item → GlyphPosition → GlyphPosition
start_moved w mask item p = if is_tracked mask item && not item.properties.continuation then moved w p else p

-- the first glyph of the list begins a grapheme, even if it continues one
abbrev pub first_moved : Spacing → ℕ → Buffer → Buffer
first_moved w mask b = let item = slice_index_or b.items 0 (new_item 0 0) in
    (if is_tracked mask item && item.properties.continuation
    then record b { positions = slice_set b.positions 0 (moved w (slice_index_or b.positions 0 zero_position)) }
    else b)

abbrev pub run_spaced : Spacing → ℕ → Buffer → Buffer
run_spaced w mask b = first_moved w mask (positions_mapped (start_moved w mask) b)

unfoldable pub run_tracked : List ℕ → Option Scale → Float → ℕ → Buffer → Buffer
run_tracked t scale points mask b = let along = is_horizontal b.direction in
    run_spaced (spacing_of scale along (tracking_of t along points)) mask b
