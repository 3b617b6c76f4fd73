-- Points, deltas and tuples of a glyph, on bytes that were read by hand.
use Rattle.std.specs.Prelude.{◌≡◌, ℕ, ℤ, pos, negsuc, List, [], ◌∷◌, Some, None, true, false, refl}
use Rattle.std.specs.Float.{Float, fin, round_with, binary32, round_to_format}
use lib.Count.{count_trailing_zeros}
use lib.Ieee.{round, size, span, climb, units, odd, of_bits, of_fields, of_int, div, mul, add, sum, eq}
use Rattle.font_bytes.specs.Bytes.{i8_of, i16_of, i32_of}
use Rattle.font_variations.specs.Tents.{nothing}
use Rattle.glyph_variations.specs.Times.{times}
use Rattle.glyph_variations.specs.Numbers as numbers
use Rattle.glyph_variations.specs.Packed as packed
use Rattle.glyph_variations.specs.Glyph.{Stored, data_of, shared_of, is_read}
use Rattle.glyph_variations.specs.MetricPoints.{point_count, metrics_component}
use Rattle.glyph_variations.specs.Tuples.{ratio64, part_of, scalar_of}
use Rattle.glyph_variations.specs.Sums.{numbers_end, moved_to, is_whole, begun_at, first_place, tuple_step}

-- the standard's example: 10, -105, 0, -58, eight zeros, 4130, -1228
abbrev deltas : List ℕ
deltas = 0x03 ∷ 0x0A ∷ 0x97 ∷ 0x00 ∷ 0xC6 ∷ 0x87 ∷ 0x41 ∷ 0x10 ∷ 0x22 ∷ 0xFB ∷ 0x34 ∷ []

abbrev delta : List ℕ → ℕ → ℤ
delta t n = (times (packed.next_delta t) n (packed.begun 0)).value

-- three numbers, two by one byte and one by two: 5, 12, 512
abbrev points : List ℕ
points = 3 ∷ 0x01 ∷ 5 ∷ 7 ∷ 0x80 ∷ 1 ∷ 0xF4 ∷ []

abbrev number : ℕ → ℕ
number n = (times (numbers.next_number points) n (numbers.begun 1)).number

-- a tuple with its peak at 1, for point 2 alone: 10 and 20
abbrev for_one : List ℕ
for_one = 0 ∷ 1 ∷ 0 ∷ 10 ∷ 0 ∷ 7 ∷ 0xA0 ∷ 0 ∷ 0x40 ∷ 0 ∷ 1 ∷ 0 ∷ 2 ∷ 0 ∷ 10 ∷ 0 ∷ 20 ∷ []

-- the same by points that tuples share
abbrev by_shared_points : List ℕ
by_shared_points = 0x80 ∷ 1 ∷ 0 ∷ 10 ∷ 0 ∷ 4 ∷ 0x80 ∷ 0 ∷ 0x40 ∷ 0 ∷ 1 ∷ 0 ∷ 2 ∷ 0 ∷ 10 ∷ 0 ∷ 20 ∷ []

-- points 1, 2, 2 and 5: 1, 2, 4 and 8; upwards 16, 32, 64 and 127
abbrev for_four : List ℕ
for_four = 0 ∷ 1 ∷ 0 ∷ 10 ∷ 0 ∷ 16 ∷ 0xA0 ∷ 0 ∷ 0x40 ∷ 0 ∷ 4 ∷ 3 ∷ 1 ∷ 1 ∷ 0 ∷ 3 ∷ 3 ∷ 1 ∷ 2 ∷ 4 ∷ 8 ∷ 3 ∷ 16 ∷ 32 ∷ 64 ∷ 127 ∷ []

-- the first run of deltas has eight, of which four are read; upwards a run begins after them, whose length stands where 16 does
abbrev by_one_run : List ℕ
by_one_run = 0 ∷ 1 ∷ 0 ∷ 10 ∷ 0 ∷ 15 ∷ 0xA0 ∷ 0 ∷ 0x40 ∷ 0 ∷ 4 ∷ 3 ∷ 1 ∷ 1 ∷ 0 ∷ 3 ∷ 7 ∷ 1 ∷ 2 ∷ 4 ∷ 8 ∷ 16 ∷ 32 ∷ 64 ∷ 127 ∷ []

-- a tuple for all of three points: 1, 2, 3 and 4, 5, 6
abbrev for_all : List ℕ
for_all = 0 ∷ 1 ∷ 0 ∷ 10 ∷ 0 ∷ 8 ∷ 0x80 ∷ 0 ∷ 0x40 ∷ 0 ∷ 2 ∷ 1 ∷ 2 ∷ 3 ∷ 2 ∷ 4 ∷ 5 ∷ 6 ∷ []

-- with a start at 1/4 and an end at 3/4, and its peak at 1/2 shared
abbrev with_span : List ℕ
with_span = 0 ∷ 1 ∷ 0 ∷ 12 ∷ 0 ∷ 0 ∷ 0x40 ∷ 0 ∷ 0x10 ∷ 0 ∷ 0x30 ∷ 0 ∷ []

abbrev pub at : List ℕ → ℤ → Stored
at t coordinate = record { bytes = t; shared = 0x20 ∷ 0 ∷ []; axes = 1; coordinates = coordinate ∷ [] }

abbrev hundred : Float
hundred = of_int binary32 (pos 100)

-- a table of one axis, one shared tuple and two glyphs, of which the second has four bytes; places are halved
abbrev table : List ℕ
table = 0 ∷ 1 ∷ 0 ∷ 0 ∷ 0 ∷ 1 ∷ 0 ∷ 1 ∷ 0 ∷ 0 ∷ 0 ∷ 26 ∷ 0 ∷ 2 ∷ 0 ∷ 0 ∷ 0 ∷ 0 ∷ 0 ∷ 28
    ∷ 0 ∷ 0 ∷ 0 ∷ 0 ∷ 0 ∷ 2 ∷ 0x20 ∷ 0 ∷ 9 ∷ 8 ∷ 7 ∷ 6 ∷ []

-- an outline of one contour, of four points; and two components, glyphs 5 and 7, of which the second gives the metrics
abbrev outline : List ℕ
outline = 0 ∷ 1 ∷ 0 ∷ 0 ∷ 0 ∷ 0 ∷ 0 ∷ 0 ∷ 0 ∷ 0 ∷ 0 ∷ 3 ∷ 0 ∷ 0 ∷ []

abbrev of_two : List ℕ → List ℕ
of_two last = 0xFF ∷ 0xFF ∷ 0 ∷ 0 ∷ 0 ∷ 0 ∷ 0 ∷ 0 ∷ 0 ∷ 0 ∷ 0 ∷ 0x22 ∷ 0 ∷ 5 ∷ 0 ∷ 0 ∷ 2 ∷ 2 ∷ 0 ∷ 7 ∷ last

pub record WorkedMetricPoints : Type 0 where
  pub of_an_outline : point_count outline ≡ Some 4
  pub ends_cut_off : point_count (0 ∷ 1 ∷ 0 ∷ 0 ∷ 0 ∷ 0 ∷ 0 ∷ 0 ∷ 0 ∷ 0 ∷ 0 ∷ 3 ∷ 0 ∷ []) ≡ None
  pub of_nothing : point_count [] ≡ Some 0
  pub of_components : point_count (of_two (1 ∷ 2 ∷ [])) ≡ Some 2
  pub component_cut_off : point_count (of_two (1 ∷ [])) ≡ Some 1
  pub own_metrics : metrics_component outline ≡ None
  pub of_the_second : metrics_component (of_two (1 ∷ 2 ∷ [])) ≡ Some 7
  pub second_cut_off : metrics_component (of_two (1 ∷ [])) ≡ None

pub record WorkedGlyphs : Type 0 where
  pub first_delta : delta deltas 1 ≡ pos 10
  pub negative_byte : delta deltas 2 ≡ negsuc 104
  pub last_byte : delta deltas 4 ≡ negsuc 57
  pub zeros : delta deltas 12 ≡ pos 0
  pub words : delta deltas 13 ≡ pos 4130
  pub negative_word : delta deltas 14 ≡ negsuc 1227
  pub four_bytes : delta (0xC0 ∷ 0xFF ∷ 0xFF ∷ 0xFF ∷ 0xFE ∷ []) 1 ≡ negsuc 1
  pub count : numbers.count_of points 0 ≡ 3
  pub count_in_two_bytes : numbers.count_of (0x81 ∷ 2 ∷ []) 0 ≡ 258
  pub first_number : number 1 ≡ 5
  pub second_number : number 2 ≡ 12
  pub third_number : number 3 ≡ 512
  pub narrow : numbers.size_of false ≡ 1
  pub wide : numbers.size_of true ≡ 2
  -- behind a run of two narrow numbers and one of a wide one
  pub end_of_numbers : numbers_end points 0 ≡ 7
  pub stored : data_of table 2 1 ≡ 9 ∷ 8 ∷ 7 ∷ 6 ∷ []
  pub stored_for_the_first : data_of table 2 0 ≡ []
  pub past_the_glyphs : data_of table 2 2 ≡ []
  pub shared : shared_of table ≡ 0x20 ∷ 0 ∷ []
  pub places_cut_off : is_read table 6 ≡ false
  -- half way to the peak, at it, past it, and on the other side
  pub half_way : scalar_of (at for_one (pos 8192)) 4 ≡ fin false 1 (negsuc 0)
  pub at_the_peak : scalar_of (at for_one (pos 16384)) 4 ≡ fin false 1 (pos 0)
  pub on_the_other_side : scalar_of (at for_one (negsuc 8191)) 4 ≡ nothing
  pub rising : scalar_of (at with_span (pos 6144)) 4 ≡ fin false 1 (negsuc 0)
  pub falling : scalar_of (at with_span (pos 11264)) 4 ≡ fin false 1 (negsuc 1)
  pub at_the_end : scalar_of (at with_span (pos 12288)) 4 ≡ nothing
  pub no_such_peak : scalar_of (at (0 ∷ 1 ∷ 0 ∷ 12 ∷ 0 ∷ 0 ∷ 0 ∷ 1 ∷ []) (pos 8192)) 4 ≡ nothing
  pub of_one_point : moved_to (at for_one (pos 8192)) (record { point = 2; count = 6; vertical = false }) hundred
      ≡ fin false 105 (pos 0)
  pub down_the_page : moved_to (at for_one (pos 16384)) (record { point = 2; count = 6; vertical = true }) hundred
      ≡ fin false 15 (pos 3)
  pub of_another_point : moved_to (at for_one (pos 8192)) (record { point = 3; count = 6; vertical = false }) hundred
      ≡ fin false 25 (pos 2)
  -- a point that is listed twice moves by both deltas
  pub listed_twice : moved_to (at for_four (pos 16384)) (record { point = 2; count = 6; vertical = false }) hundred ≡ fin false 53 (pos 1)
  pub listed_last : moved_to (at for_four (pos 16384)) (record { point = 5; count = 6; vertical = false }) hundred ≡ fin false 27 (pos 2)
  pub between_those_listed : moved_to (at for_four (pos 16384)) (record { point = 4; count = 6; vertical = false }) hundred ≡ fin false 25 (pos 2)
  pub listed_twice_down : moved_to (at for_four (pos 16384)) (record { point = 2; count = 6; vertical = true }) hundred ≡ fin false 49 (pos 2)
  pub in_the_midst_of_a_run : moved_to (at by_one_run (pos 16384)) (record { point = 2; count = 6; vertical = true }) hundred
      ≡ fin false 291 (pos 0)
  pub of_shared_points :
      moved_to (at by_shared_points (pos 8192)) (record { point = 2; count = 6; vertical = false }) hundred ≡ fin false 105 (pos 0)
  pub of_all_points : moved_to (at for_all (pos 16384)) (record { point = 2; count = 3; vertical = false }) hundred
      ≡ fin false 103 (pos 0)
  pub of_all_down : moved_to (at for_all (pos 16384)) (record { point = 0; count = 3; vertical = true }) hundred
      ≡ fin false 13 (pos 3)
  -- a header and three coordinates of a peak are seven steps
  pub enough_left : is_whole (record (at for_one (pos 8192)) { axes = 3 }) (record (begun_at (at for_one (pos 8192)) hundred) { left = 7 }) ≡ true
  pub too_little_left : is_whole (record (at for_one (pos 8192)) { axes = 3 }) (record (begun_at (at for_one (pos 8192)) hundred) { left = 6 }) ≡ false
  pub begun_with : (begun_at (at for_one (pos 8192)) hundred).left ≡ 8192
  pub begun_with_a_shared_point : (begun_at (at by_shared_points (pos 8192)) hundred).left ≡ 8191
  -- five for the header and the axis, and one for its point
  pub left_behind : (tuple_step (at for_one (pos 8192)) (record { point = 2; count = 6; vertical = false })
      (begun_at (at for_one (pos 8192)) hundred)).left ≡ 8186
  -- more shared points than may be read
  pub too_many_shared : first_place (0x80 ∷ 1 ∷ 0 ∷ 4 ∷ 0xA0 ∷ 1 ∷ []) ≡ 4
  pub nothing_stored : moved_to (at [] (pos 8192)) (record { point = 2; count = 6; vertical = false }) hundred
      ≡ fin false 25 (pos 2)

pub worked_glyphs : WorkedGlyphs
unfolding moved_to scalar_of part_of ratio64 round_to_format round_with i8_of i16_of i32_of div mul add sum eq
    of_int round size span climb units odd count_trailing_zeros of_bits of_fields
worked_glyphs = record {
  first_delta = refl;
  negative_byte = refl;
  last_byte = refl;
  zeros = refl;
  words = refl;
  negative_word = refl;
  four_bytes = refl;
  count = refl;
  count_in_two_bytes = refl;
  first_number = refl;
  second_number = refl;
  third_number = refl;
  narrow = refl;
  wide = refl;
  end_of_numbers = refl;
  stored = refl;
  stored_for_the_first = refl;
  past_the_glyphs = refl;
  shared = refl;
  places_cut_off = refl;
  half_way = refl;
  at_the_peak = refl;
  on_the_other_side = refl;
  rising = refl;
  falling = refl;
  at_the_end = refl;
  no_such_peak = refl;
  of_one_point = refl;
  down_the_page = refl;
  of_another_point = refl;
  listed_twice = refl;
  listed_last = refl;
  between_those_listed = refl;
  listed_twice_down = refl;
  in_the_midst_of_a_run = refl;
  of_shared_points = refl;
  of_all_points = refl;
  of_all_down = refl;
  enough_left = refl;
  too_little_left = refl;
  begun_with = refl;
  begun_with_a_shared_point = refl;
  left_behind = refl;
  too_many_shared = refl;
  nothing_stored = refl;
}

pub worked_metric_points : WorkedMetricPoints
worked_metric_points = record {
  of_an_outline = refl;
  ends_cut_off = refl;
  of_nothing = refl;
  of_components = refl;
  component_cut_off = refl;
  own_metrics = refl;
  of_the_second = refl;
  second_cut_off = refl;
}
