-- Values for axes, on texts that were read by hand. A number is m * 2 ^ e, with an odd m.
use Rattle.std.specs.Prelude.{◌≡◌, ℕ, pos, negsuc, true, false, Option, Some, None, codes, refl}
use Rattle.std.specs.Float.{Float, fin, float_is_finite}
use lib.Ieee.{round}
use Rattle.fast_float.specs.Parse.{read_float}
use Rattle.fast_float.specs.Text.{scan}
use Rattle.font_variations.specs.declared.coordinates.Variation.{Variation}
use Rattle.shape_text_forms.specs.Variation.{variation_of}

abbrev pub of : ℕ → Float → Option Variation
of tag value = Some (record { tag = tag; value = value })

abbrev pub wght : Float → Option Variation
wght value = of 0x77676874 value

-- 700 is 175 * 4, 9.5 is 19 / 2; the number of binary32 next to 0.1 is 13421773 / 2 ^ 27, and the greatest one is less than 1e39
pub record WorkedVariations : Type 0 where
  pub plain : variation_of (codes "wght=700") ≡ wght (fin false 175 (pos 2))
  pub negative : variation_of (codes "slnt=-9.5") ≡ of 0x736C6E74 (fin true 19 (negsuc 0))
  pub fraction : variation_of (codes "wght=0.1") ≡ wght (fin false 13421773 (negsuc 26))
  pub exponent : variation_of (codes "wght=7e2") ≡ wght (fin false 175 (pos 2))
  pub spaces : variation_of (codes "  wght = 700  ") ≡ wght (fin false 175 (pos 2))
  pub quotes : variation_of (codes "'wght'=1") ≡ wght (fin false 1 (pos 0))
  pub short_tag : variation_of (codes "wg=1") ≡ of 0x77672020 (fin false 1 (pos 0))
  pub no_number : variation_of (codes "wght=") ≡ None
  pub no_sign : variation_of (codes "wght 700") ≡ None
  pub no_tag : variation_of (codes "=700") ≡ None
  pub long_tag : variation_of (codes "weight=700") ≡ None
  pub more_text : variation_of (codes "wght=700x") ≡ None
  pub two_numbers : variation_of (codes "wght=700 1") ≡ None
  pub infinite : variation_of (codes "wght=inf") ≡ None
  pub not_a_number : variation_of (codes "wght=nan") ≡ None
  pub too_large : variation_of (codes "wght=1e39") ≡ None

pub worked_variations : WorkedVariations
unfolding round scan read_float float_is_finite
worked_variations = record {
  plain = refl;
  negative = refl;
  fraction = refl;
  exponent = refl;
  spaces = refl;
  quotes = refl;
  short_tag = refl;
  no_number = refl;
  no_sign = refl;
  no_tag = refl;
  long_tag = refl;
  more_text = refl;
  two_numbers = refl;
  infinite = refl;
  not_a_number = refl;
  too_large = refl;
}
