-- Features, on texts that were read by hand: the first are the table of HarfBuzz's own documentation.
use Rattle.std.specs.Prelude.{◌≡◌, ℕ, [], ◌∷◌, Option, Some, None, codes, refl}
use Rattle.shape_common.specs.declared.text_types.Feature.{Feature}
use Rattle.shape_text_forms.specs.Feature.{feature_of, value_of}

abbrev pub of : ℕ → ℕ → ℕ → ℕ → Option Feature
of tag value start end = Some (record { tag = record { 0 = tag }; value = value; start = start; end = end })

abbrev pub kern : ℕ → ℕ → ℕ → Option Feature
kern value start end = of 0x6B65726E value start end

abbrev pub aalt : ℕ → ℕ → ℕ → Option Feature
aalt value start end = of 0x61616C74 value start end

pub record WorkedFeatures : Type 0 where
  pub on : feature_of (codes "kern") ≡ kern 1 0 4294967295
  pub plus : feature_of (codes "+kern") ≡ kern 1 0 4294967295
  pub minus : feature_of (codes "-kern") ≡ kern 0 0 4294967295
  pub zero : feature_of (codes "kern=0") ≡ kern 0 0 4294967295
  pub one : feature_of (codes "kern=1") ≡ kern 1 0 4294967295
  pub second : feature_of (codes "aalt=2") ≡ aalt 2 0 4294967295
  pub no_numbers : feature_of (codes "kern[]") ≡ kern 1 0 4294967295
  pub colon_alone : feature_of (codes "kern[:]") ≡ kern 1 0 4294967295
  pub from_five : feature_of (codes "kern[5:]") ≡ kern 1 5 4294967295
  pub to_five : feature_of (codes "kern[:5]") ≡ kern 1 0 5
  pub three_to_five : feature_of (codes "kern[3:5]") ≡ kern 1 3 5
  pub one_character : feature_of (codes "kern[3]") ≡ kern 1 3 4
  pub all_of_it : feature_of (codes "aalt[3:5]=2") ≡ aalt 2 3 5
  pub semicolon : feature_of (codes "kern[3;5]") ≡ kern 1 3 5
  pub single_quotes : feature_of (codes "'kern'") ≡ kern 1 0 4294967295
  pub switched_on : feature_of (codes "'kern' on") ≡ kern 1 0 4294967295
  pub switched_off : feature_of (codes "kern OFF") ≡ kern 0 0 4294967295
  pub number_after_a_space : feature_of (codes "'kern' 0") ≡ kern 0 0 4294967295
  pub value_before_sign : feature_of (codes "-kern=1") ≡ kern 1 0 4294967295
  pub spaces : feature_of (codes "  kern [ 3 : 5 ] = 2  ") ≡ kern 2 3 5
  pub minus_one : feature_of (codes "kern=-1") ≡ kern 4294967295 0 4294967295
  pub modulo : feature_of (codes "kern=4294967298") ≡ kern 2 0 4294967295
  pub short_tag : feature_of (codes "ab") ≡ of 0x61622020 1 0 4294967295
  pub last_character : feature_of (codes "kern[-1]") ≡ kern 1 4294967295 0
  pub digit_of_the_tag : feature_of (codes "ss01") ≡ of 0x73733031 1 0 4294967295
  -- double quotes (34)
  pub double_quotes : feature_of (34 ∷ 107 ∷ 101 ∷ 114 ∷ 110 ∷ 34 ∷ 48 ∷ []) ≡ kern 0 0 4294967295
  pub carriage_return : feature_of (107 ∷ 101 ∷ 114 ∷ 110 ∷ 61 ∷ 13 ∷ 50 ∷ []) ≡ kern 2 0 4294967295
  pub tab_in_a_tag : feature_of (97 ∷ 98 ∷ 9 ∷ 99 ∷ []) ≡ of 0x61620963 1 0 4294967295
  pub plus_of_a_number : feature_of (codes "kern=+2") ≡ kern 2 0 4294967295
  pub space_before_the_sign : feature_of (codes " -kern") ≡ kern 0 0 4294967295
  pub word_after_equals : feature_of (codes "kern=off") ≡ kern 0 0 4294967295
  pub space_before_quotes : feature_of (codes " 'kern'") ≡ kern 1 0 4294967295
  pub quote_in_a_tag : feature_of (codes "ke'n") ≡ of 0x6B65276E 1 0 4294967295
  pub zero_below_zero : feature_of (codes "kern=-0") ≡ kern 0 0 4294967295
  pub capital_switch : feature_of (codes "kern=ON") ≡ kern 1 0 4294967295
  pub tab_before_a_value : feature_of (107 ∷ 101 ∷ 114 ∷ 110 ∷ 61 ∷ 9 ∷ 50 ∷ []) ≡ kern 2 0 4294967295

pub worked_features : WorkedFeatures
worked_features = record {
  on = refl;
  plus = refl;
  minus = refl;
  zero = refl;
  one = refl;
  second = refl;
  no_numbers = refl;
  colon_alone = refl;
  from_five = refl;
  to_five = refl;
  three_to_five = refl;
  one_character = refl;
  all_of_it = refl;
  semicolon = refl;
  single_quotes = refl;
  switched_on = refl;
  switched_off = refl;
  number_after_a_space = refl;
  value_before_sign = refl;
  spaces = refl;
  minus_one = refl;
  modulo = refl;
  short_tag = refl;
  last_character = refl;
  digit_of_the_tag = refl;
  double_quotes = refl;
  carriage_return = refl;
  tab_in_a_tag = refl;
  plus_of_a_number = refl;
  space_before_the_sign = refl;
  word_after_equals = refl;
  space_before_quotes = refl;
  quote_in_a_tag = refl;
  zero_below_zero = refl;
  capital_switch = refl;
  tab_before_a_value = refl;
}

pub record WorkedRefusals : Type 0 where
  pub empty : feature_of (codes "") ≡ None
  pub five_letters : feature_of (codes "kerns") ≡ None
  pub short_quoted : feature_of (codes "'ker'") ≡ None
  pub quote_left_open : feature_of (codes "'kern") ≡ None
  pub bracket_left_open : feature_of (codes "kern[3") ≡ None
  pub no_value : feature_of (codes "kern=") ≡ None
  pub no_switch : feature_of (codes "kern=yes") ≡ None
  pub word_for_a_value : feature_of (codes "kern yes") ≡ None
  pub text_after : feature_of (codes "kern=1 x") ≡ None
  pub two_signs : feature_of (codes "-+kern") ≡ None
  pub too_great : feature_of (codes "kern=9223372036854775808") ≡ None
  -- `'` is no end for `"` (34)
  pub other_quote : feature_of (34 ∷ 107 ∷ 101 ∷ 114 ∷ 110 ∷ 39 ∷ []) ≡ None
  -- a byte 0 ends a tag, and nothing takes it
  pub byte_0 : feature_of (107 ∷ 101 ∷ 0 ∷ []) ≡ None
  pub space_in_quotes : feature_of (39 ∷ 97 ∷ 98 ∷ 32 ∷ 32 ∷ 39 ∷ []) ≡ None
  pub space_after_minus : feature_of (codes "kern=- 1") ≡ None
  pub past_64_bits : feature_of (codes "kern=18446744073709551617") ≡ None
  pub almost_on : feature_of (codes "kern=ox") ≡ None
  pub almost_off : feature_of (codes "kern=ofx") ≡ None
  pub off_by_its_end : feature_of (codes "kern=xff") ≡ None
  -- after the sign of equality a value must stand
  pub no_value_after_equals : value_of 1 (codes "=yes") ≡ None
  pub three_of_four : feature_of (codes "kern=offf") ≡ None
  pub minus_in_a_range : feature_of (codes "kern[3-5]") ≡ None

pub worked_refusals : WorkedRefusals
worked_refusals = record {
  empty = refl;
  five_letters = refl;
  short_quoted = refl;
  quote_left_open = refl;
  bracket_left_open = refl;
  no_value = refl;
  no_switch = refl;
  word_for_a_value = refl;
  text_after = refl;
  two_signs = refl;
  too_great = refl;
  other_quote = refl;
  byte_0 = refl;
  space_in_quotes = refl;
  space_after_minus = refl;
  past_64_bits = refl;
  almost_on = refl;
  almost_off = refl;
  off_by_its_end = refl;
  no_value_after_equals = refl;
  three_of_four = refl;
  minus_in_a_range = refl;
}
