-- Fields, computed on words whose digits are worked out by hand.
use Rattle.std.specs.Prelude.{◌≡◌, true, false, [], ◌∷◌, refl}
use Rattle.bit_fields.specs.Fields.{fields, word_of, place_of, width_of, bits_of, field, with_field, number_of, is_set}

-- 0xABCD3 as fields of 4, 8, 1 and 8 bits: 3, CD, the lowest bit of AB, and the rest of AB, 0x55
pub record FieldsWorked : Type 0 where
  pub lowest_first : fields (4 ∷ 8 ∷ 1 ∷ 8 ∷ []) 0xABCD3 ≡ 3 ∷ 0xCD ∷ 1 ∷ 0x55 ∷ []
  pub made_again : word_of (4 ∷ 8 ∷ 1 ∷ 8 ∷ []) (3 ∷ 0xCD ∷ 1 ∷ 0x55 ∷ []) ≡ 0xABCD3
  pub bits_above_are_no_field : fields (4 ∷ 8 ∷ []) 0xABCD3 ≡ 3 ∷ 0xCD ∷ []
  pub first_place : place_of (4 ∷ 8 ∷ 1 ∷ 8 ∷ []) 0 ≡ 0
  pub third_place : place_of (4 ∷ 8 ∷ 1 ∷ 8 ∷ []) 2 ≡ 12
  pub last_width : width_of (4 ∷ 8 ∷ 1 ∷ 8 ∷ []) 3 ≡ 8
  pub all_bits : bits_of (4 ∷ 8 ∷ 1 ∷ 8 ∷ []) ≡ 21
  pub read : field 4 8 0xABCD3 ≡ 0xCD
  pub put : with_field 4 8 0x12 0xABCD3 ≡ 0xAB123
  pub unset : with_field 12 1 0 0xABCD3 ≡ 0xAACD3
  pub set_bit : number_of true ≡ 1
  pub unset_bit : number_of false ≡ 0
  pub one_is_set : is_set 1 ≡ true
  pub zero_is_not : is_set 0 ≡ false

pub fields_worked : FieldsWorked
unfolding with_field
fields_worked = record {
  lowest_first = refl;
  made_again = refl;
  bits_above_are_no_field = refl;
  first_place = refl;
  third_place = refl;
  last_width = refl;
  all_bits = refl;
  read = refl;
  put = refl;
  unset = refl;
  set_bit = refl;
  unset_bit = refl;
  one_is_set = refl;
  zero_is_not = refl;
}
