-- Coordinates, normalized and mapped, on bytes that were read by hand.
use Rattle.std.specs.Prelude.{◌≡◌, ℕ, ℤ, pos, negsuc, List, [], ◌∷◌, ◌++◌, ◌+◌, Some, None, refl, false}
use Rattle.std.specs.Float.{Float, fin, nan, round_with}
use lib.Count.{count_trailing_zeros}
use lib.Ieee.{round, size, span, climb, units, odd, of_bits, of_fields, of_int, div, mul, add, sub, neg, sum, eq, lt, le, to_signed}
use Rattle.font_bytes.specs.Bytes.{u32_of, i8_of, i16_of, i32_of}
use Rattle.font_variations.specs.Tents.{ratio, tent}
use Rattle.font_variations.specs.Regions.{axis_scalar, region_scalar}
use Rattle.font_variations.specs.Deltas.{delta_in, part_of, delta_of, row_steps, rounded}
use Rattle.font_variations.specs.Axes.{axis_of, axis_count, instance_count, instance_value}
use Rattle.font_variations.specs.IndexMaps.{mapped}
use Rattle.font_variations.specs.Parts.{part_at}
use Rattle.font_variations.specs.Normal.{normalized, bounded}
use Rattle.font_variations.specs.Segments.{between, mapped_by, segments_at}
use Rattle.font_variations.specs.Coordinates.{design_value, axis_coordinate, tail_of, shift_of, shifted, coordinates_of}
use Rattle.font_variations.specs.declared.axes.Axis.{Axis}
use Rattle.font_variations.specs.declared.coordinates.TheConstants.{MOST_SHIFT_STEPS}
use Rattle.font_variations.specs.declared.coordinates.Variation.{Variation}

-- 25 * 2 ^ k: 100 and 400; 900 is 225 * 4, 700 is 175 * 4, 250 is 125 * 2
abbrev pub weight : Axis
weight = record { tag = 0x77676874; least = fin false 25 (pos 2); default = fin false 25 (pos 4); greatest = fin false 225 (pos 2) }

pub record WorkedNormal : Type 0 where
  pub default : normalized weight (fin false 25 (pos 4)) ≡ pos 0
  -- 300 / 500 * 16384 = 9830.4
  pub above : normalized weight (fin false 175 (pos 2)) ≡ pos 9830
  -- -150 / 300 = -1/2
  pub below : normalized weight (fin false 125 (pos 1)) ≡ negsuc 8191
  pub greatest : normalized weight (fin false 225 (pos 2)) ≡ pos 16384
  pub least : normalized weight (fin false 25 (pos 2)) ≡ negsuc 16383
  pub beyond : normalized weight (fin false 125 (pos 3)) ≡ pos 16384
  pub under : normalized weight (fin false 0 (pos 0)) ≡ negsuc 16383
  pub no_number : normalized weight nan ≡ negsuc 16383
  -- an axis whose least value is its default
  pub nothing_below : normalized (record weight { least = fin false 25 (pos 4) }) (fin false 25 (pos 2)) ≡ pos 0
  pub bounds : (bounded (negsuc 16384) ∷ bounded (negsuc 16383) ∷ bounded (pos 16384) ∷ bounded (pos 16385) ∷ [])
      ≡ negsuc 16383 ∷ negsuc 16383 ∷ pos 16384 ∷ pos 16384 ∷ []

-- -1 to -1, 0 to 0, 1/2 to 1/4, 1 to 1
abbrev pub segments : List ℕ
segments = 0 ∷ 4 ∷ 192 ∷ 0 ∷ 192 ∷ 0 ∷ 0 ∷ 0 ∷ 0 ∷ 0 ∷ 32 ∷ 0 ∷ 16 ∷ 0 ∷ 64 ∷ 0 ∷ 64 ∷ 0 ∷ []

pub record WorkedSegments : Type 0 where
  pub at_a_pair : mapped_by segments 0 (pos 8192) ≡ pos 4096
  pub before_it : mapped_by segments 0 (pos 4096) ≡ pos 2048
  pub after_it : mapped_by segments 0 (pos 12288) ≡ pos 10240
  pub the_other_side : mapped_by segments 0 (negsuc 8191) ≡ negsuc 8191
  pub first : mapped_by segments 0 (negsuc 16383) ≡ negsuc 16383
  pub last : mapped_by segments 0 (pos 16384) ≡ pos 16384
  pub default : mapped_by segments 0 (pos 0) ≡ pos 0
  -- before the first pair and after the last one
  pub under : mapped_by (0 ∷ 2 ∷ 0 ∷ 5 ∷ 0 ∷ 9 ∷ 0 ∷ 8 ∷ 0 ∷ 20 ∷ []) 0 (pos 3) ≡ pos 7
  pub beyond : mapped_by (0 ∷ 2 ∷ 0 ∷ 5 ∷ 0 ∷ 9 ∷ 0 ∷ 8 ∷ 0 ∷ 20 ∷ []) 0 (pos 10) ≡ pos 22
  pub one_pair : mapped_by (0 ∷ 1 ∷ 0 ∷ 5 ∷ 0 ∷ 9 ∷ []) 0 (pos 7) ≡ pos 11
  pub no_pair : mapped_by (0 ∷ 0 ∷ []) 0 (pos 7) ≡ pos 7
  -- a half goes up
  pub half_up : mapped_by (0 ∷ 2 ∷ 0 ∷ 0 ∷ 0 ∷ 0 ∷ 0 ∷ 2 ∷ 0 ∷ 1 ∷ []) 0 (pos 1) ≡ pos 1
  pub negative_half_up : mapped_by (0 ∷ 2 ∷ 0xFF ∷ 0xFE ∷ 0xFF ∷ 0xFF ∷ 0 ∷ 0 ∷ 0 ∷ 0 ∷ []) 0 (negsuc 0) ≡ pos 0
  -- segments of three axes: 18 bytes of four pairs at 8, and 2 of none
  pub places : (segments_at (0 ∷ 1 ∷ 0 ∷ 0 ∷ 0 ∷ 0 ∷ 0 ∷ 3 ∷ (segments ++ 0 ∷ 0 ∷ [])) 0
      ∷ segments_at (0 ∷ 1 ∷ 0 ∷ 0 ∷ 0 ∷ 0 ∷ 0 ∷ 3 ∷ (segments ++ 0 ∷ 0 ∷ [])) 1
      ∷ segments_at (0 ∷ 1 ∷ 0 ∷ 0 ∷ 0 ∷ 0 ∷ 0 ∷ 3 ∷ (segments ++ 0 ∷ 0 ∷ [])) 2 ∷ []) ≡ 8 ∷ 26 ∷ 28 ∷ []

-- one axis, `wght`, from 100 by 400 to 900, and an instance at 700; records of axes at 16 have this size
abbrev pub fvar_of : ℕ → ℕ → List ℕ
fvar_of version size = 0 ∷ version ∷ 0 ∷ 0 ∷ 0 ∷ 16 ∷ 0 ∷ 2 ∷ 0 ∷ 1 ∷ 0 ∷ size ∷ 0 ∷ 1 ∷ 0 ∷ 8
    ∷ 119 ∷ 103 ∷ 104 ∷ 116 ∷ 0 ∷ 100 ∷ 0 ∷ 0 ∷ 1 ∷ 144 ∷ 0 ∷ 0 ∷ 3 ∷ 132 ∷ 0 ∷ 0 ∷ 0 ∷ 0 ∷ 1 ∷ 0
    ∷ 0 ∷ 2 ∷ 0 ∷ 0 ∷ 2 ∷ 188 ∷ 0 ∷ 0 ∷ []

abbrev pub fvar : List ℕ
fvar = fvar_of 1 20

-- the same with a least value of 500, past the default, and a greatest of 300
abbrev pub turned_fvar : List ℕ
turned_fvar = 0 ∷ 1 ∷ 0 ∷ 0 ∷ 0 ∷ 16 ∷ 0 ∷ 2 ∷ 0 ∷ 1 ∷ 0 ∷ 20 ∷ 0 ∷ 0 ∷ 0 ∷ 8
    ∷ 119 ∷ 103 ∷ 104 ∷ 116 ∷ 1 ∷ 244 ∷ 0 ∷ 0 ∷ 1 ∷ 144 ∷ 0 ∷ 0 ∷ 1 ∷ 44 ∷ 0 ∷ 0 ∷ 0 ∷ 0 ∷ 1 ∷ 0 ∷ []

abbrev pub avar : List ℕ
avar = 0 ∷ 1 ∷ 0 ∷ 0 ∷ 0 ∷ 0 ∷ 0 ∷ 1 ∷ segments

-- version 2: after the segments at 8 to 26 the offsets 0 of a map and 34 of a store, which has 100 for (0, 1, 1)
abbrev pub avar_2 : List ℕ
avar_2 = 0 ∷ 2 ∷ 0 ∷ 0 ∷ 0 ∷ 0 ∷ 0 ∷ 1 ∷ (segments ++ 0 ∷ 0 ∷ 0 ∷ 0 ∷ 0 ∷ 0 ∷ 0 ∷ 34
    ∷ 0 ∷ 1 ∷ 0 ∷ 0 ∷ 0 ∷ 12 ∷ 0 ∷ 1 ∷ 0 ∷ 0 ∷ 0 ∷ 22
    ∷ 0 ∷ 1 ∷ 0 ∷ 1 ∷ 0 ∷ 0 ∷ 64 ∷ 0 ∷ 64 ∷ 0
    ∷ 0 ∷ 1 ∷ 0 ∷ 0 ∷ 0 ∷ 1 ∷ 0 ∷ 0 ∷ 100 ∷ [])

abbrev pub wish : ℕ → Float → Variation
wish tag value = record { tag = tag; value = value }

-- 700, 250 and 650 for `wght`, and 700 for `wdth`
abbrev pub bold : Variation
bold = wish 0x77676874 (fin false 175 (pos 2))

abbrev pub light : Variation
light = wish 0x77676874 (fin false 125 (pos 1))

abbrev pub half_bold : Variation
half_bold = wish 0x77676874 (fin false 325 (pos 1))

abbrev pub wide : Variation
wide = wish 0x77647468 (fin false 175 (pos 2))

pub record WorkedCoordinates : Type 0 where
  pub axis : axis_of fvar 0 ≡ weight
  pub turned : axis_of turned_fvar 0 ≡ record weight { least = fin false 25 (pos 4); greatest = fin false 25 (pos 4) }
  pub counts : (axis_count fvar ∷ instance_count fvar ∷ axis_count (fvar_of 2 20) ∷ axis_count (fvar_of 1 24) ∷ axis_count [] ∷ [])
      ≡ 1 ∷ 1 ∷ 0 ∷ 0 ∷ 0 ∷ []
  pub instance : instance_value fvar 0 0 ≡ fin false 175 (pos 2)
  pub nothing_wanted : coordinates_of fvar [] None [] ≡ []
  pub by_wish : coordinates_of fvar [] None (bold ∷ []) ≡ pos 9830 ∷ []
  pub last_wish : coordinates_of fvar [] None (bold ∷ light ∷ wide ∷ []) ≡ negsuc 8191 ∷ []
  pub wish_for_another_axis : coordinates_of fvar [] None (wide ∷ []) ≡ pos 0 ∷ []
  pub by_instance : coordinates_of fvar [] (Some 0) [] ≡ pos 9830 ∷ []
  pub wish_over_instance : coordinates_of fvar [] (Some 0) (light ∷ []) ≡ negsuc 8191 ∷ []
  pub no_such_instance : coordinates_of fvar [] (Some 1) [] ≡ pos 0 ∷ []
  pub no_axes : coordinates_of [] [] None (bold ∷ []) ≡ []
  -- 1/2, which the segments map to 1/4, and the deltas shift by a quarter of 100
  pub by_segments : coordinates_of fvar avar None (half_bold ∷ []) ≡ pos 4096 ∷ []
  pub by_deltas : coordinates_of fvar avar_2 None (half_bold ∷ []) ≡ pos 4121 ∷ []
  -- a row of one column takes two steps for one axis, of 16,777,216
  pub most_shift_steps : MOST_SHIFT_STEPS ≡ 0x1000000
  pub shares : (avar : List ℕ) (a b : ℤ) → row_steps (part_at avar (u32_of avar (tail_of avar + 4))) (mapped (part_at avar (u32_of avar (tail_of avar))) 1)
      ≡ 0x800001 → shift_of avar (a ∷ b ∷ []) 1 ≡ pos 0
  pub other_version : coordinates_of fvar (0 ∷ 3 ∷ 0 ∷ 0 ∷ 0 ∷ 0 ∷ 0 ∷ 1 ∷ segments) None (half_bold ∷ []) ≡ pos 8192 ∷ []

pub worked_normal : WorkedNormal
unfolding normalized rounded round_with div mul sub neg add sum eq lt le to_signed of_int round size span climb units odd count_trailing_zeros of_bits of_fields
worked_normal = record {
  default = refl;
  above = refl;
  below = refl;
  greatest = refl;
  least = refl;
  beyond = refl;
  under = refl;
  no_number = refl;
  nothing_below = refl;
  bounds = refl;
}

pub worked_segments : WorkedSegments
unfolding mapped_by between i16_of rounded round_with div mul sub neg add sum eq lt le to_signed of_int round
    size span climb units odd count_trailing_zeros of_bits of_fields
worked_segments = record {
  at_a_pair = refl;
  before_it = refl;
  after_it = refl;
  the_other_side = refl;
  first = refl;
  last = refl;
  default = refl;
  under = refl;
  beyond = refl;
  one_pair = refl;
  no_pair = refl;
  half_up = refl;
  negative_half_up = refl;
  places = refl;
}

pub worked_coordinates : WorkedCoordinates
unfolding axis_coordinate design_value shift_of shifted normalized mapped_by between delta_of part_of delta_in
    region_scalar axis_scalar tent ratio i8_of i16_of i32_of rounded round_with div mul sub neg add sum eq lt
    le to_signed of_int round size span climb units odd count_trailing_zeros of_bits of_fields
worked_coordinates = record {
  axis = refl;
  turned = refl;
  counts = refl;
  instance = refl;
  nothing_wanted = refl;
  by_wish = refl;
  last_wish = refl;
  wish_for_another_axis = refl;
  by_instance = refl;
  wish_over_instance = refl;
  no_such_instance = refl;
  no_axes = refl;
  by_segments = refl;
  by_deltas = refl;
  most_shift_steps = refl;
  shares = λ avar a b e. rw e refl;
  other_version = refl;
}
