-- Tracking, on tables of 16-bit words that were read by hand.
use Rattle.std.specs.Prelude.{◌≡◌, ℕ, ℤ, pos, negsuc, List, [], ◌∷◌, map, Option, Some, None, true, false, refl}
use Rattle.std.specs.Float.{Float, fin, round_with}
use lib.Count.{count_trailing_zeros}
use lib.Ieee.{round, size, span, climb, units, odd, of_bits, of_fields, of_int, div, mul, add, sub, neg, sum, eq, lt, le, to_signed}
use Rattle.std.specs.Int.{int_wrap}
use Rattle.font_bytes.specs.Bytes.{i32_of}
use Rattle.font_sizes.specs.Factors.{quotient}
use Rattle.font_sizes.specs.Scales.{real_factor, scale_of}
use Rattle.font_sizes.specs.declared.scales.Scale.{Scale}
use Rattle.font_variations.specs.Deltas.{rounded}
use Rattle.shape_buffer.specs.PositionWalks.{positions_mapped}
use Rattle.shape_common.specs.Positions.{zero_position}
use Rattle.shape_common.specs.Wrapping.{◌+ʷ◌}
use Rattle.shape_common.specs.declared.positions.GlyphPosition.{GlyphPosition}
use Rattle.shape_common.specs.declared.text_types.Direction.{Direction}
use Rattle.shape_common.specs.declared.text_types.Direction.TheVariants.{LeftToRight, RightToLeft, TopToBottom}
use Rattle.shape_font.specs.Bytes.{i16_of}
use Rattle.shape_font.specs.Worked.Glyphs.{words}
use Rattle.shape_items.specs.Buffer.{Buffer, new_buffer}
use Rattle.shape_items.specs.Items.{Item, new_item, new_properties}
use Rattle.apple_positioning.specs.Tracking.{between, part, run_tracked, scaled, size_count, size_of, track_count, tracking_of}

-- horizontal data at 12 have a track of the value -1 and then the normal one, and sizes at 36: 12, 24 and 48 points, for which the
-- normal track has 30, -9 and -60 at 48; vertical data at 54 have one size, for which the normal track has 7 at 70
abbrev pub table_of : ℕ → ℕ → ℕ → ℕ → List ℕ
table_of version horizontal tracks sizes = words (version ∷ 0 ∷ 0 ∷ horizontal ∷ 54 ∷ 0 ∷
    tracks ∷ sizes ∷ 0 ∷ 36 ∷ 0xFFFF ∷ 0 ∷ 256 ∷ 0 ∷ 0 ∷ 0 ∷ 257 ∷ 48 ∷
    12 ∷ 0 ∷ 24 ∷ 0 ∷ 48 ∷ 0 ∷ 30 ∷ 0xFFF7 ∷ 0xFFC4 ∷
    1 ∷ 1 ∷ 0 ∷ 36 ∷ 0 ∷ 0 ∷ 256 ∷ 70 ∷ 7 ∷ [])

abbrev pub table : List ℕ
table = table_of 1 12 2 3

-- 3 * 2 ^ k: 6, 12, 24; 9 * 2 ^ k: 18, 36; 60 is 15 * 4
abbrev pub at_18 : Float
at_18 = fin false 9 (pos 1)

abbrev pub at_36 : Float
at_36 = fin false 9 (pos 2)

pub record WorkedTracking : Type 0 where
  pub first_size : tracking_of table true (fin false 3 (pos 2)) ≡ pos 30
  -- 30 / 2 - 9 / 2 = 10.5
  pub half_up : tracking_of table true at_18 ≡ pos 11
  pub second_size : tracking_of table true (fin false 3 (pos 3)) ≡ negsuc 8
  -- -9 / 2 - 60 / 2 = -34.5
  pub half_below_0 : tracking_of table true at_36 ≡ negsuc 33
  -- one and a half of the way from 24 to 48: 1.5 * -60 - 0.5 * -9 = -85.5
  pub past_the_last_size : tracking_of table true (fin false 15 (pos 2)) ≡ negsuc 84
  -- half of the way back from 12: 1.5 * 30 - 0.5 * -9 = 49.5
  pub before_the_first_size : tracking_of table true (fin false 3 (pos 1)) ≡ pos 50
  pub vertical : tracking_of table false at_36 ≡ pos 7
  pub no_points : tracking_of table true (fin false 0 (pos 0)) ≡ pos 0
  pub below_0 : tracking_of table true (fin true 3 (pos 2)) ≡ pos 0
  pub other_version : tracking_of (table_of 2 12 2 3) true at_36 ≡ pos 0
  pub no_data : tracking_of (table_of 1 0 2 3) true at_36 ≡ pos 0
  pub no_normal_track : tracking_of (table_of 1 12 1 3) true at_36 ≡ pos 0
  pub no_size : tracking_of (table_of 1 12 2 0) true at_36 ≡ pos 0
  pub one_size : tracking_of (table_of 1 12 2 1) true at_36 ≡ pos 30
  pub two_sizes : tracking_of (table_of 1 12 2 2) true at_36 ≡ negsuc 47
  pub no_table : tracking_of [] true at_36 ≡ pos 0
  -- 52 bytes from the first track on, and 36 from the first size on
  pub room_for_tracks : track_count (table_of 1 12 0xFFFF 3) 12 ≡ 6
  pub room_for_sizes : size_count (table_of 1 12 2 0xFFFF) 12 ≡ 9

-- an em square of 1,000 units that is 750 wide and 2,000 high, and one that is 20 wide and high
abbrev pub wide_and_high : Scale
wide_and_high = scale_of (record { x = pos 750; y = pos 2000 }) 1000

abbrev pub small : Scale
small = scale_of (record { x = pos 20; y = pos 20 }) 1000

pub record WorkedParts : Type 0 where
  pub half_a_point : size_of (words (0 ∷ 0x8000 ∷ [])) 0 0 ≡ fin false 1 (negsuc 0)
  pub below_0 : size_of (words (1 ∷ 0 ∷ 0xFFFF ∷ 0 ∷ [])) 0 1 ≡ fin true 1 (pos 0)
  -- 2 ^ 24 + 1, of which 24 bits are left, in 65536ths
  pub in_binary32 : size_of (words (0x0100 ∷ 1 ∷ [])) 0 0 ≡ fin false 1 (pos 8)
  pub a_quarter : part (fin false 3 (pos 2)) (fin false 3 (pos 3)) (fin false 15 (pos 0)) ≡ fin false 1 (negsuc 1)
  pub of_no_way : part (fin false 3 (pos 2)) (fin false 3 (pos 2)) at_18 ≡ fin false 0 (pos 0)
  -- 5/6 of 10 and 1/6 of -47 are 1/2, and a little less in binary32
  pub less_than_half : between (pos 10) (negsuc 46) (part (fin false 1 (pos 3)) (fin false 7 (pos 1)) (fin false 9 (pos 0))) ≡ pos 0
  pub past_32_bits : between (pos 0) (pos 32767) (fin false 1 (pos 31)) ≡ pos 2147483647
  pub scaled_whole : scaled None true (negsuc 34) ≡ negsuc 34
  -- 2^23 + 1 and 1/2 are 2^23 + 2 in binary32
  pub scaled_of_24_bits : scaled None true (pos 8388609) ≡ pos 8388610
  -- 1.5 and -1.5, and twice as much upwards
  pub scaled_half_up : scaled (Some wide_and_high) true (pos 2) ≡ pos 2
  pub scaled_half_below_0 : scaled (Some wide_and_high) true (negsuc 1) ≡ negsuc 0
  pub scaled_upwards : scaled (Some wide_and_high) false (pos 2) ≡ pos 4
  -- 0.5 in binary32; in 65536ths a little less
  pub scaled_in_binary32 : scaled (Some small) true (pos 25) ≡ pos 1

-- an item for which tracking is on (bit 4) or off, and one that continues a grapheme
abbrev pub on : Item
on = record (new_item 0 0) { mask = 16 }

abbrev pub off : Item
off = new_item 0 0

abbrev pub continuing : Item
continuing = record on { properties = record new_properties { continuation = true } }

-- a line of these items, each 600 wide, by the table at 36 points
abbrev pub line_at : Option Scale → Direction → List Item → Buffer
line_at scale direction items = run_tracked table scale at_36 16 (record new_buffer {
  items = items;
  positions = map (λ _. record zero_position { x_advance = pos 600 }) items;
  direction = direction;
})

abbrev pub line : Direction → List Item → Buffer
line direction items = line_at None direction items

-- advances and offsets along a horizontal line
abbrev pub along : Buffer → List (ℤ × ℤ)
along b = map (λ (p : GlyphPosition). (p.x_advance, p.x_offset)) b.positions

-- the same down a vertical line
abbrev pub down : Buffer → List (ℤ × ℤ)
down b = map (λ (p : GlyphPosition). (p.y_advance, p.y_offset)) b.positions

-- -34, and half of it
abbrev pub closer : ℤ × ℤ
closer = (pos 566, negsuc 16)

abbrev pub still : ℤ × ℤ
still = (pos 600, pos 0)

pub record WorkedSpacing : Type 0 where
  pub each : along (line LeftToRight (on ∷ on ∷ [])) ≡ closer ∷ closer ∷ []
  pub backward : along (line RightToLeft (on ∷ on ∷ [])) ≡ closer ∷ closer ∷ []
  pub continued : along (line LeftToRight (on ∷ continuing ∷ on ∷ [])) ≡ closer ∷ still ∷ closer ∷ []
  pub first_continues : along (line LeftToRight (continuing ∷ continuing ∷ on ∷ [])) ≡ closer ∷ still ∷ closer ∷ []
  pub switched_off : along (line LeftToRight (off ∷ on ∷ off ∷ [])) ≡ still ∷ closer ∷ still ∷ []
  pub vertical : down (line TopToBottom (on ∷ off ∷ [])) ≡ (pos 7, pos 3) ∷ (pos 0, pos 0) ∷ []
  pub not_along_it : along (line TopToBottom (on ∷ off ∷ [])) ≡ still ∷ still ∷ []
  pub no_glyph : along (line LeftToRight []) ≡ []
  -- -25.5, and -12.75: each is scaled by itself
  pub at_a_size : along (line_at (Some wide_and_high) LeftToRight (on ∷ continuing ∷ [])) ≡ (pos 575, negsuc 12) ∷ still ∷ []
  pub first_at_a_size : along (line_at (Some wide_and_high) LeftToRight (continuing ∷ [])) ≡ (pos 575, negsuc 12) ∷ []
  pub down_at_a_size : down (line_at (Some wide_and_high) TopToBottom (on ∷ [])) ≡ (pos 14, pos 6) ∷ []

pub worked_tracking : WorkedTracking
unfolding size_of part between rounded i16_of i32_of round_with div mul sub neg add sum eq lt le to_signed of_int round size span climb
    units odd count_trailing_zeros of_bits of_fields
worked_tracking = record {
  first_size = refl;
  half_up = refl;
  second_size = refl;
  half_below_0 = refl;
  past_the_last_size = refl;
  before_the_first_size = refl;
  vertical = refl;
  no_points = refl;
  below_0 = refl;
  other_version = refl;
  no_data = refl;
  no_normal_track = refl;
  no_size = refl;
  one_size = refl;
  two_sizes = refl;
  no_table = refl;
  room_for_tracks = refl;
  room_for_sizes = refl;
}

pub worked_parts : WorkedParts
unfolding scaled real_factor quotient size_of part between rounded i16_of i32_of round_with div mul sub neg add sum eq lt le to_signed
    of_int round size span climb units odd count_trailing_zeros of_bits of_fields
worked_parts = record {
  half_a_point = refl;
  below_0 = refl;
  in_binary32 = refl;
  a_quarter = refl;
  of_no_way = refl;
  less_than_half = refl;
  past_32_bits = refl;
  scaled_whole = refl;
  scaled_of_24_bits = refl;
  scaled_half_up = refl;
  scaled_half_below_0 = refl;
  scaled_upwards = refl;
  scaled_in_binary32 = refl;
}

pub worked_spacing : WorkedSpacing
unfolding run_tracked scaled real_factor quotient positions_mapped ◌+ʷ◌ int_wrap size_of part between rounded i16_of i32_of round_with
    div mul sub neg add sum eq lt le to_signed of_int round size span climb units odd count_trailing_zeros of_bits of_fields
worked_spacing = record {
  each = refl;
  backward = refl;
  continued = refl;
  first_continues = refl;
  switched_off = refl;
  vertical = refl;
  not_along_it = refl;
  no_glyph = refl;
  at_a_size = refl;
  first_at_a_size = refl;
  down_at_a_size = refl;
}
