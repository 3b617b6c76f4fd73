-- Value records and anchors of a font at a size, computed by hand: an em square of 1,000 units that is 500 wide and 2,000 high.
use Rattle.std.specs.Prelude.{◌≡◌, ℕ, ℤ, pos, negsuc, List, [], ◌∷◌, Some, None, true, false, refl}
use Rattle.std.specs.Float.{round_with}
use Rattle.std.specs.Int.{int_wrap}
use Rattle.std.specs.Int.Count.{ones}
use lib.Count.{count_trailing_zeros}
use lib.Ieee.{round, size, span, climb, units, odd, of_bits, of_fields, of_int, div, mul, add, sub, sum, eq, to_signed}
use Rattle.font_bytes.specs.Bytes as font
use Rattle.font_sizes.specs.Factors.{quotient, nearest, if_short}
use Rattle.font_sizes.specs.Scales.{scale_of, real_factor}
use Rattle.font_sizes.specs.declared.scales.Scale.{Scale}
use Rattle.font_variations.specs.Tents.{ratio, tent}
use Rattle.font_variations.specs.Regions.{axis_scalar, region_scalar}
use Rattle.font_variations.specs.Deltas.{delta_in, part_of, delta_of, rounded}
use Rattle.font_variations.specs.Worked.Deltas.{there}
use Rattle.shape_common.specs.Wrapping.{◌+ʷ◌, ◌-ʷ◌}
use Rattle.shape_font.specs.Bytes.{i16_of}
use Rattle.layout_matching.specs.declared.lookup.Lookup.{Lookup}
use Rattle.layout_positions.specs.Anchors.{anchor_at}
use Rattle.layout_positions.specs.Cursive.{gap_across}
use Rattle.layout_positions.specs.Sizes.{point, placed, apart, footing}
use Rattle.layout_positions.specs.Values.{none_counted, value_at, has_effect}
use Rattle.layout_positions.specs.Worked.Devices.{one, anchor, gdef}
use Rattle.layout_positions.specs.Worked.Lines.{over, varying}
use Rattle.layout_positions.specs.declared.anchors.Anchor.{Anchor}
use Rattle.layout_positions.specs.declared.values.Adjustment.{Adjustment}

abbrev half_and_twice : Scale
half_and_twice = scale_of (record { x = pos 500; y = pos 2000 }) 1000

abbrev sized : Lookup → Lookup
sized l = record l { scale = Some half_and_twice }

-- the numbers 5, -20, 1 and -40
abbrev numbers : List ℕ
numbers = 0 ∷ 5 ∷ 0xFF ∷ 0xEC ∷ 0 ∷ 1 ∷ 0xFF ∷ 0xD8 ∷ []

-- at a hundredth of the em square
abbrev tiny : Lookup → Lookup
tiny l = record l { scale = Some (scale_of (record { x = pos 10; y = pos 10 }) 1000) }

abbrev still : Adjustment
still = record { x_placement = pos 0; y_placement = pos 0; x_advance = pos 0; y_advance = pos 0; counted = none_counted }

pub record WorkedSizes : Type 0 where
  -- 2.5 and 0.5 upwards
  pub each_number : (l : Lookup) → value_at (sized (over numbers l)) 15 0 0
      ≡ record { x_placement = pos 3; y_placement = negsuc 39; x_advance = pos 1; y_advance = negsuc 79; counted = none_counted }
  pub advance_alone : (l : Lookup) → value_at (sized (over numbers l)) 4 0 0 ≡ record still { x_advance = pos 3 }
  pub no_number : (l : Lookup) → value_at (sized (over numbers l)) 0 0 0 ≡ still
  -- 0.05 and -0.2 are 0, and count
  pub vanished : (l : Lookup) → value_at (tiny (over numbers l)) 3 0 0
      ≡ record still { counted = record none_counted { placement = true } }
  pub vanished_advance : (l : Lookup) → value_at (tiny (over numbers l)) 4 0 0
      ≡ record still { counted = record none_counted { x_advance = true } }
  pub has_effect_all_the_same : (l : Lookup) → has_effect true (value_at (tiny (over numbers l)) 4 0 0) ≡ true
  pub nothing_has_none : (l : Lookup) → has_effect true (value_at (tiny (over (0 ∷ 0 ∷ []) l)) 4 0 0) ≡ false
  -- 5, and 127.375 for an advance of 10 along the line: 63.69; of 20 down it: 254.75
  pub delta_by_itself : (l : Lookup) → value_at (sized (varying (one 1) (gdef 1 3 18) there l)) 0x44 0 0
      ≡ record still { x_advance = pos 69; counted = record none_counted { x_advance = true } }
  pub delta_upwards : (l : Lookup) → value_at (sized (varying (one 1) (gdef 1 3 18) there l)) 0x88 0 0
      ≡ record still { y_advance = pos 275; counted = record none_counted { y_advance = true } }
  -- 100 and -5, and -98.75 and 127.375 at the size: -49.375 and 254.75
  pub anchor_stays : (l : Lookup) → anchor_at (sized (varying anchor (gdef 1 3 18) there l)) 0
      ≡ record { x = pos 100; y = negsuc 4; x_delta = negsuc 48; y_delta = pos 255 }
  pub placed_by_itself : (l : Lookup) → placed (sized l) (point (pos 5) (negsuc 2)) ≡ point (pos 3) (negsuc 5)
  pub placed_with_deltas : (l : Lookup) → placed (sized l) (record { x = pos 4; y = pos 1; x_delta = pos 3; y_delta = negsuc 0 })
      ≡ point (pos 5) (pos 1)
  -- 2 and 0.5: 1.5; each by itself they would be 1 apart
  pub what_is_between : (l : Lookup) → apart (sized l) (point (pos 4) (pos 3)) (point (pos 1) (pos 1)) ≡ point (pos 2) (pos 4)
  pub between_deltas : (l : Lookup) → apart (sized l) (record { x = pos 4; y = pos 0; x_delta = pos 7; y_delta = pos 0 })
      (record { x = pos 1; y = pos 0; x_delta = pos 2; y_delta = pos 0 }) ≡ point (pos 7) (pos 0)
  pub from_the_origin : (l : Lookup) → footing (sized l) (point (pos 1) (pos 1)) ≡ point (pos 0) (pos 0)
  -- the other one follows: -2, where -1.5 upwards would be -1
  pub negative : (l : Lookup) → gap_across false (footing (sized l) (point (pos 1) (pos 1)))
      (apart (sized l) (point (pos 4) (pos 3)) (point (pos 1) (pos 1))) ≡ negsuc 1
  pub without_a_size : (l : Lookup) → placed (over [] l) (point (pos 5) (negsuc 2)) ≡ point (pos 5) (negsuc 2)
  pub apart_without_a_size : (l : Lookup) → apart (over [] l) (point (pos 4) (pos 3)) (point (pos 1) (pos 1)) ≡ point (pos 4) (pos 3)
  pub footing_without_a_size : (l : Lookup) → footing (over [] l) (point (pos 1) (pos 1)) ≡ point (pos 1) (pos 1)

pub worked_sizes : WorkedSizes
unfolding i16_of ◌+ʷ◌ ◌-ʷ◌ int_wrap ones font.i8_of font.i16_of font.i32_of delta_of part_of delta_in rounded quotient real_factor
    nearest if_short round_with region_scalar axis_scalar tent ratio div mul add sub sum eq to_signed of_int round size span climb
    units odd count_trailing_zeros of_bits of_fields
worked_sizes = record {
  each_number = λ _. refl;
  advance_alone = λ _. refl;
  no_number = λ _. refl;
  vanished = λ _. refl;
  vanished_advance = λ _. refl;
  has_effect_all_the_same = λ _. refl;
  nothing_has_none = λ _. refl;
  delta_by_itself = λ _. refl;
  delta_upwards = λ _. refl;
  anchor_stays = λ _. refl;
  placed_by_itself = λ _. refl;
  placed_with_deltas = λ _. refl;
  what_is_between = λ _. refl;
  between_deltas = λ _. refl;
  from_the_origin = λ _. refl;
  negative = λ _. refl;
  without_a_size = λ _. refl;
  apart_without_a_size = λ _. refl;
  footing_without_a_size = λ _. refl;
}
