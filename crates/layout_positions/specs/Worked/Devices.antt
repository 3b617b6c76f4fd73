-- Devices of values and of anchors, on bytes that were read by hand: -99 by the first set of the store, 127 by the second.
use Rattle.std.specs.Prelude.{◌≡◌, ℕ, ℤ, pos, negsuc, List, [], ◌∷◌, Some, true, false, refl}
use Rattle.std.specs.Float.{round_with}
use Rattle.std.specs.Int.{int_wrap}
use Rattle.std.specs.Int.Count.{ones}
use lib.Count.{count_trailing_zeros}
use lib.Ieee.{round, size, span, climb, units, odd, of_bits, of_fields, of_int, div, mul, add, sum, eq, to_signed}
use Rattle.shape_common.specs.Wrapping.{◌+ʷ◌}
use Rattle.font_bytes.specs.Bytes as font
use Rattle.font_variations.specs.Tents.{ratio, tent}
use Rattle.font_variations.specs.Regions.{axis_scalar, region_scalar}
use Rattle.font_variations.specs.Deltas.{delta_in, part_of, delta_of, rounded}
use Rattle.font_variations.specs.Worked.Deltas.{store, there}
use Rattle.shape_font.specs.Bytes.{i16_of}
use Rattle.layout_matching.specs.declared.lookup.Lookup.{Lookup}
use Rattle.layout_positions.specs.Sizes.{point}
use Rattle.layout_positions.specs.Anchors.{anchor_at}
use Rattle.layout_positions.specs.Devices.{work_of}
use Rattle.layout_positions.specs.Pairs.{single_of, pair_of}
use Rattle.layout_positions.specs.Values.{none_counted, value_at, has_effect}
use Rattle.layout_positions.specs.Worked.Lines.{varying}
use Rattle.layout_positions.specs.declared.values.Adjustment.{Adjustment}
use Rattle.layout_positions.specs.declared.values.Counted.{Counted}

-- `GDEF` of a version with this offset of its store, which stands at 18
abbrev with_store : ℕ → ℕ → ℕ → List ℕ → List ℕ
with_store major minor offset stored =
    0 ∷ major ∷ 0 ∷ minor ∷ 0 ∷ 0 ∷ 0 ∷ 0 ∷ 0 ∷ 0 ∷ 0 ∷ 0 ∷ 0 ∷ 0 ∷ 0 ∷ 0 ∷ 0 ∷ offset ∷ stored

abbrev pub gdef : ℕ → ℕ → ℕ → List ℕ
gdef major minor offset = with_store major minor offset store

-- a store of a format, whose regions have five axes: of a set of seven columns, none, and a set of four
abbrev several : ℕ → List ℕ
several format = 0 ∷ format ∷ 0 ∷ 0 ∷ 0 ∷ 20 ∷ 0 ∷ 3 ∷ 0 ∷ 0 ∷ 0 ∷ 22 ∷ 0 ∷ 0 ∷ 0 ∷ 0 ∷ 0 ∷ 0 ∷ 0 ∷ 28
    ∷ 0 ∷ 5 ∷ 0 ∷ 0 ∷ 0 ∷ 0 ∷ 0 ∷ 7 ∷ 0 ∷ 0 ∷ 0 ∷ 0 ∷ 0 ∷ 4 ∷ []

abbrev at_coordinates : List ℕ → Lookup → Lookup
at_coordinates t l = varying t (gdef 1 3 18) there l

-- the number 10 and a device at 4, the index of this set
abbrev pub one : ℕ → List ℕ
one set = 0 ∷ 10 ∷ 0 ∷ 4 ∷ 0 ∷ 0 ∷ 0 ∷ set ∷ 0x80 ∷ 0 ∷ []

-- two bytes, and the same
abbrev later : List ℕ
later = 0 ∷ 7 ∷ one 0

abbrev no_device : List ℕ
no_device = 0 ∷ 10 ∷ 0 ∷ 0 ∷ []

-- hints for 0 pixels, in a format, whose sizes would be the index of the first set; and an index cut short
abbrev hints : ℕ → List ℕ
hints format = 0 ∷ 10 ∷ 0 ∷ 4 ∷ 0 ∷ 0 ∷ 0 ∷ 0 ∷ 0 ∷ format ∷ 0x40 ∷ 0 ∷ []

abbrev cut : List ℕ
cut = 0 ∷ 10 ∷ 0 ∷ 4 ∷ 0 ∷ 0 ∷ 0 ∷ 0 ∷ 0x80 ∷ []

-- an anchor at 100, -5 with the first set for x and the second for y
abbrev pub anchor : List ℕ
anchor = 0 ∷ 3 ∷ 0 ∷ 100 ∷ 0xFF ∷ 0xFB ∷ 0 ∷ 10 ∷ 0 ∷ 16 ∷ 0 ∷ 0 ∷ 0 ∷ 0 ∷ 0x80 ∷ 0 ∷ 0 ∷ 0 ∷ 0 ∷ 1 ∷ 0x80 ∷ 0 ∷ []

-- the same with a device for x alone, and with hints for 0 pixels
abbrev x_alone : List ℕ
x_alone = 0 ∷ 3 ∷ 0 ∷ 100 ∷ 0xFF ∷ 0xFB ∷ 0 ∷ 10 ∷ 0 ∷ 0 ∷ 0 ∷ 0 ∷ 0 ∷ 0 ∷ 0x80 ∷ 0 ∷ []

abbrev hinted : List ℕ
hinted = 0 ∷ 3 ∷ 0 ∷ 100 ∷ 0xFF ∷ 0xFB ∷ 0 ∷ 10 ∷ 0 ∷ 10 ∷ 0 ∷ 0 ∷ 0 ∷ 0 ∷ 0 ∷ 1 ∷ 0x40 ∷ 0 ∷ []

-- a pair of glyphs 2 and 3 in a set at 18, whose record has 10 and a device at 8 from the set
abbrev pairs : List ℕ
pairs = 0 ∷ 1 ∷ 0 ∷ 12 ∷ 0 ∷ 0x44 ∷ 0 ∷ 0 ∷ 0 ∷ 1 ∷ 0 ∷ 18 ∷ 0 ∷ 1 ∷ 0 ∷ 1 ∷ 0 ∷ 2
    ∷ 0 ∷ 1 ∷ 0 ∷ 3 ∷ 0 ∷ 10 ∷ 0 ∷ 8 ∷ 0 ∷ 0 ∷ 0 ∷ 1 ∷ 0x80 ∷ 0 ∷ []

-- the same value for glyph 2 alone, with a device at 16 from the subtable
abbrev singles : List ℕ
singles = 0 ∷ 1 ∷ 0 ∷ 10 ∷ 0 ∷ 0x44 ∷ 0 ∷ 10 ∷ 0 ∷ 16 ∷ 0 ∷ 1 ∷ 0 ∷ 1 ∷ 0 ∷ 2 ∷ 0 ∷ 0 ∷ 0 ∷ 1 ∷ 0x80 ∷ 0 ∷ []

-- one for each of a list of one glyph
abbrev single_each : List ℕ
single_each = 0 ∷ 2 ∷ 0 ∷ 12 ∷ 0 ∷ 0x44 ∷ 0 ∷ 1 ∷ 0 ∷ 10 ∷ 0 ∷ 18 ∷ 0 ∷ 1 ∷ 0 ∷ 1 ∷ 0 ∷ 2 ∷ 0 ∷ 0 ∷ 0 ∷ 1 ∷ 0x80 ∷ 0 ∷ []

-- pairs of class 0 alone: 10 for the first glyph and 20 for the second, with one device at 24 from the subtable
abbrev classed : List ℕ
classed = 0 ∷ 2 ∷ 0 ∷ 0 ∷ 0 ∷ 0x44 ∷ 0 ∷ 0x44 ∷ 0 ∷ 0 ∷ 0 ∷ 0 ∷ 0 ∷ 1 ∷ 0 ∷ 1
    ∷ 0 ∷ 10 ∷ 0 ∷ 24 ∷ 0 ∷ 20 ∷ 0 ∷ 24 ∷ 0 ∷ 0 ∷ 0 ∷ 1 ∷ 0x80 ∷ 0 ∷ []

abbrev still : Adjustment
still = record { x_placement = pos 0; y_placement = pos 0; x_advance = pos 0; y_advance = pos 0; counted = none_counted }

abbrev moved : ℤ → Adjustment
moved x = record still { x_placement = x; counted = record none_counted { placement = true } }

abbrev widened : Adjustment
widened = record still { x_advance = pos 137; counted = record none_counted { x_advance = true } }

abbrev by_devices : Counted → Adjustment
by_devices d = record still { counted = d }

pub record WorkedDevices : Type 0 where
  pub x_placed : (l : Lookup) → value_at (at_coordinates (one 0) l) 0x11 0 0 ≡ moved (negsuc 88)
  pub y_placed : (l : Lookup) → value_at (at_coordinates (one 1) l) 0x22 0 0
      ≡ record still { y_placement = pos 137; counted = record none_counted { placement = true } }
  pub x_advanced : (l : Lookup) → value_at (at_coordinates (one 1) l) 0x44 0 0 ≡ widened
  pub y_advanced : (l : Lookup) → value_at (at_coordinates (one 0) l) 0x88 0 0
      ≡ record still { y_advance = negsuc 88; counted = record none_counted { y_advance = true } }
  pub without_a_number : (l : Lookup) → value_at (at_coordinates (0 ∷ 2 ∷ 0 ∷ 0 ∷ 0 ∷ 1 ∷ 0x80 ∷ 0 ∷ []) l) 0x10 0 0 ≡ moved (pos 127)
  pub from_the_base : (l : Lookup) → value_at (at_coordinates later l) 0x11 2 2 ≡ moved (negsuc 88)
  pub at_the_default : (l : Lookup) → value_at (varying (one 0) (gdef 1 3 18) [] l) 0x11 0 0 ≡ record still { x_placement = pos 10 }
  pub no_offset : (l : Lookup) → value_at (at_coordinates no_device l) 0x11 0 0 ≡ record still { x_placement = pos 10 }
  -- a device that adds nothing was read all the same
  pub at_coordinates_of_0 : (l : Lookup) → value_at (varying (one 0) (gdef 1 3 18) (pos 0 ∷ pos 0 ∷ []) l) 0x11 0 0 ≡ moved (pos 10)
  pub of_pixels : (l : Lookup) → value_at (at_coordinates (hints 1) l) 0x11 0 0 ≡ moved (pos 10)
  pub of_pixels_in_format_2 : (l : Lookup) → value_at (at_coordinates (hints 2) l) 0x11 0 0 ≡ moved (pos 10)
  pub of_pixels_in_format_3 : (l : Lookup) → value_at (at_coordinates (hints 3) l) 0x11 0 0 ≡ moved (pos 10)
  pub of_another_format : (l : Lookup) → value_at (at_coordinates (hints 4) l) 0x11 0 0 ≡ moved (pos 10)
  pub cut_short : (l : Lookup) → value_at (at_coordinates cut l) 0x11 0 0 ≡ moved (pos 10)
  pub before_version_1_3 : (l : Lookup) → value_at (varying (one 0) (gdef 1 2 18) there l) 0x11 0 0 ≡ moved (pos 10)
  pub in_version_2 : (l : Lookup) → value_at (varying (one 0) (gdef 2 3 18) there l) 0x11 0 0 ≡ moved (pos 10)
  pub no_store : (l : Lookup) → value_at (varying (one 0) (gdef 1 3 0) there l) 0x11 0 0 ≡ moved (pos 10)
  pub no_table : (l : Lookup) → value_at (varying (one 0) [] there l) 0x11 0 0 ≡ moved (pos 10)
  pub placement_counts : has_effect true (by_devices (record none_counted { placement = true })) ≡ true
  pub advance_along_counts : has_effect true (by_devices (record none_counted { x_advance = true })) ≡ true
  pub advance_across_does_not : has_effect true (by_devices (record none_counted { y_advance = true })) ≡ false
  pub down_the_line : has_effect false (by_devices (record none_counted { y_advance = true })) ≡ true
  pub anchor_varied : (l : Lookup) → anchor_at (at_coordinates anchor l) 0 ≡ point (pos 1) (pos 122)
  -- offsets count from the anchor
  pub anchor_after_two_bytes : (l : Lookup) → anchor_at (at_coordinates (0 ∷ 7 ∷ anchor) l) 2 ≡ point (pos 1) (pos 122)
  pub anchor_at_the_default : (l : Lookup) → anchor_at (varying anchor (gdef 1 3 18) [] l) 0 ≡ point (pos 100) (negsuc 4)
  pub anchor_along_x_alone : (l : Lookup) → anchor_at (at_coordinates x_alone l) 0 ≡ point (pos 1) (negsuc 4)
  pub anchor_of_pixels : (l : Lookup) → anchor_at (at_coordinates hinted l) 0 ≡ point (pos 100) (negsuc 4)
  -- offsets count from the subtable, but in pairs of format 1 from the set
  pub of_one_glyph : (l : Lookup) → single_of (at_coordinates singles l) 0 2 ≡ Some widened
  pub of_each_glyph : (l : Lookup) → single_of (at_coordinates single_each l) 0 2 ≡ Some widened
  pub of_classes : (l : Lookup) → pair_of (at_coordinates classed l) 0 0 2 3
      ≡ Some (record { first = widened; second = record widened { x_advance = pos 147 }; has_second = true })
  pub of_a_pair : (l : Lookup) → pair_of (at_coordinates pairs l) 0 0 2 3 ≡ Some (record { first = widened; second = still; has_second = false })
  -- a step for each column, and one for each axis: of two columns and two axes, and of the widest set
  pub work : work_of (gdef 1 3 18) there ≡ 6
  pub work_of_several : work_of (with_store 1 3 18 (several 1)) there ≡ 42
  pub work_at_the_default : work_of (gdef 1 3 18) [] ≡ 0
  pub work_in_another_format : work_of (with_store 1 3 18 (several 2)) there ≡ 0
  pub work_without_a_store : work_of (gdef 1 3 0) there ≡ 0
  pub work_before_version_1_3 : work_of (gdef 1 2 18) there ≡ 0

pub worked_devices : WorkedDevices
unfolding i16_of ◌+ʷ◌ int_wrap ones font.i8_of font.i16_of font.i32_of delta_of part_of delta_in rounded
    round_with region_scalar axis_scalar tent ratio div mul add sum eq to_signed of_int round size span climb
    units odd count_trailing_zeros of_bits of_fields
worked_devices = record {
  x_placed = λ _. refl;
  y_placed = λ _. refl;
  x_advanced = λ _. refl;
  y_advanced = λ _. refl;
  without_a_number = λ _. refl;
  from_the_base = λ _. refl;
  at_the_default = λ _. refl;
  no_offset = λ _. refl;
  at_coordinates_of_0 = λ _. refl;
  of_pixels = λ _. refl;
  of_pixels_in_format_2 = λ _. refl;
  of_pixels_in_format_3 = λ _. refl;
  of_another_format = λ _. refl;
  cut_short = λ _. refl;
  before_version_1_3 = λ _. refl;
  in_version_2 = λ _. refl;
  no_store = λ _. refl;
  no_table = λ _. refl;
  placement_counts = refl;
  advance_along_counts = refl;
  advance_across_does_not = refl;
  down_the_line = refl;
  anchor_varied = λ _. refl;
  anchor_after_two_bytes = λ _. refl;
  anchor_at_the_default = λ _. refl;
  anchor_along_x_alone = λ _. refl;
  anchor_of_pixels = λ _. refl;
  of_one_glyph = λ _. refl;
  of_each_glyph = λ _. refl;
  of_classes = λ _. refl;
  of_a_pair = λ _. refl;
  work = refl;
  work_of_several = refl;
  work_at_the_default = refl;
  work_in_another_format = refl;
  work_without_a_store = refl;
  work_before_version_1_3 = refl;
}
