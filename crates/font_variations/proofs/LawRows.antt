-- the laws on bytes that were read by hand
use Prim.Native.Nat.{zero}
use Rattle.std.proofs.Common.{◌≡◌, ℕ, suc, ℤ, pos, ◌<◌, ◌+◌, ◌*◌, true, false, List, refl, sym, ap, ◌∙◌, arith, lit<}
use Rattle.std.specs.Prelude.{◌≢◌, nat_lt}
use Rattle.std.specs.List.{list_all}
use Rattle.std.specs.Ordering.{int_eq}
use Rattle.std.proofs.lemmas.Bool.Decides.{nat_tests}
use Rattle.std.proofs.lemmas.List.Sums.{AllPass-from_list_all}
use lib.Count.{count_trailing_zeros}
use lib.Ieee.{round, size, span, climb, units, odd, of_bits, of_fields, of_int, div, mul, add, sum, eq}
use mathlib.Core.Bool.{true≢false}
use Rattle.font_bytes.specs.Bytes.{u16_of, i8_of, i16_of, i32_of}
use Rattle.font_variations.specs.Deltas.{delta_in, part_of, delta_of}
use Rattle.font_variations.specs.Laws.{IsPart, AreBytes, AreDefault, IsElsewhere}
use Rattle.font_variations.specs.Regions.{axis_scalar, region_scalar}
use Rattle.font_variations.specs.Tents.{ratio, tent}
use Rattle.font_variations.specs.Worked.Deltas.{store}
use Rattle.font_variations.specs.Worked.Laws.{WorkedParts, WorkedDefaults, defaults, flat_regions, flat_store}

all_bytes : (t : List ℕ) → list_all (λ n. nat_lt n 256) t ≡ true → AreBytes t
all_bytes t h k d l =
    let small = AllPass-from_list_all (λ n. nat_lt n 256) t h k d l in
    grind (arith, nat_tests)

default_each : AreDefault defaults
default_each zero d l = refl
default_each (suc zero) d l = refl
default_each (suc (suc k)) d l = absurd (omega (arith, l))

-- an integer that the test finds to be another one
other : (n : ℤ) → int_eq n (pos 0) ≡ false → n ≢ pos 0
other n h e = true≢false (sym (ap (λ m. int_eq m (pos 0)) e) ∙ h)

row_each : (column : ℕ) → column < 2 → IsElsewhere store 12 (u16_of store (40 + 6 + 2 * column))
unfolding i16_of
row_each zero l = record { axis = 0; within = lit< tt; elsewhere = other _ refl }
row_each (suc zero) l = record { axis = 0; within = lit< tt; elsewhere = other _ refl }
row_each (suc (suc k)) l = absurd (omega (arith, l))

not_along : (t : List ℕ) (at axis : ℕ) → axis < 1 → i16_of t (at + 2) ≡ pos 0 → i16_of t (at + 6 * axis + 2) ≢ pos 0 → ⊥
not_along t at axis l there h =
    let e : at + 6 * axis + 2 ≡ at + 2 = omega (arith, l) in
    h (ap (i16_of t) e ∙ there)

pub worked_parts : WorkedParts
unfolding IsPart region_scalar axis_scalar i16_of tent ratio div mul eq of_int round size span climb units odd count_trailing_zeros of_bits of_fields
worked_parts = record {
  none = omega arith;
  all = omega arith;
  more_than_one = λ h. absurd (omega (arith, h));
  below_none = λ h. h;
  of_an_axis = omega arith;
  of_a_region = omega arith;
}

pub worked_defaults : WorkedDefaults
unfolding delta_of part_of delta_in region_scalar axis_scalar i8_of i16_of i32_of tent ratio div mul add sum eq of_int round size span climb
    units odd count_trailing_zeros of_bits of_fields
worked_defaults = record {
  are_default = default_each;
  are_bytes = all_bytes store refl;
  first_elsewhere = record { axis = 0; within = lit< tt; elsewhere = other _ refl };
  second_elsewhere = record { axis = 0; within = lit< tt; elsewhere = other _ refl };
  first_none = refl;
  second_none = refl;
  row_elsewhere = λ has column l. row_each column l;
  row_none = refl;
  flat_bytes = all_bytes (flat_store 1) refl;
  flat_not_elsewhere = λ h. not_along flat_regions 4 h.axis h.within refl h.elsewhere;
  flat_counts = refl;
  flat_row_not_elsewhere = λ h. let one = h refl 0 (lit< tt) in not_along (flat_store 1) 16 one.axis one.within refl one.elsewhere;
  flat_row_counts = refl;
  no_data = refl;
  no_data_elsewhere = λ has column l. absurd (true≢false (sym has));
  no_data_none = refl;
}
