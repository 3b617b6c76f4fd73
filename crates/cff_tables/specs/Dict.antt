-- DICT data: operands and then their operator, again and again (Adobe Technical Note 5176, section 4)
use Prim.Native.Nat.{zero}
use Rattle.std.specs.Prelude.{ℕ, suc, List, Bool, true, false, Option, Some, None, ◌+◌, ◌-◌, ◌*◌, ◌/◌, ◌%◌, ◌&&◌, ◌||◌, nat_eq, nat_lt, nat_le}
use Rattle.std.specs.Prelude.{length, if◌then◌else◌, slice_index}
use Rattle.std.specs.Option.{option_and_then}
use Rattle.cff_tables.specs.Bytes.{word_of, number_of}
use Rattle.cff_tables.specs.declared.dict.DictValues.{DictValues}
use Rattle.cff_tables.specs.declared.dict.Reading.{Reading}
use Rattle.cff_tables.specs.declared.dict.Operand.{Operand}

-- 28, 29, 30 and 32 to 254 begin an operand
abbrev pub begins_operand : ℕ → Bool
begins_operand b = (nat_le 28 b && nat_le b 30) || (nat_le 32 b && nat_le b 254)

-- a number of two bytes in two's complement, modulo 2^32
abbrev pub signed_word : ℕ → ℕ
signed_word n = if nat_lt n 32768 then n else n + 4294901760

-- the value of an integer modulo 2^32, by its first byte (table 3); that of a real number is not read
abbrev pub value_of : List ℕ → ℕ → ℕ
value_of d at = let b = slice_index d at in let next = slice_index d (at + 1) in
    (if nat_eq b 28 then signed_word (word_of d (at + 1))
    else (if nat_eq b 29 then number_of d (at + 1) 4
    else (if nat_eq b 30 then 0
    else (if nat_lt b 139 then b + 4294967157
    else (if nat_lt b 247 then b - 139
    else (if nat_lt b 251 then (b - 247) * 256 + next + 108
    else 4294967296 - ((b - 251) * 256 + next + 108)))))))

-- a real number ends with the nibble 15; 13 is reserved (table 5)
abbrev pub real_end : ℕ → List ℕ → ℕ → Option ℕ
real_end zero d at = None
real_end (suc n) d at = let high = slice_index d at / 16 in let low = slice_index d at % 16 in
    (if nat_le (length d) at || nat_eq high 13 then None
    else (if nat_eq high 15 then Some (at + 1)
    else (if nat_eq low 13 then None
    else (if nat_eq low 15 then Some (at + 1) else real_end n d (at + 1)))))

-- how many bytes an integer takes, by the first
abbrev pub integer_size : ℕ → ℕ
integer_size b = if nat_eq b 28 then 3 else (if nat_eq b 29 then 5 else (if nat_lt b 247 then 1 else 2))

-- an operand: its value, and where the next begins; none if it is cut off
abbrev pub operand_of : List ℕ → ℕ → Option Operand
operand_of d at = if nat_eq (slice_index d at) 30
    then option_and_then (λ next. Some (record { value = 0; next = next })) (real_end (length d) d (at + 1))
    else (let next = at + integer_size (slice_index d at) in
    (if nat_le next (length d) then Some (record { value = value_of d at; next = next }) else None))

-- 12 and a second byte are one operator, here 256 and that byte
abbrev pub operator_of : List ℕ → ℕ → ℕ
operator_of d at = if nat_eq (slice_index d at) 12 then 256 + slice_index d (at + 1) else slice_index d at

abbrev pub operator_end : List ℕ → ℕ → ℕ
operator_end d at = if nat_eq (slice_index d at) 12 then at + 2 else at + 1

-- how many operands an operator must have, of those that are read
abbrev pub needed : ℕ → ℕ
needed op = if nat_eq op 286 then 3 else (if nat_eq op 18 then 2
    else (if nat_eq op 15 || nat_eq op 17 || nat_eq op 19 || nat_eq op 22 || nat_eq op 24 || nat_eq op 292 || nat_eq op 293 then 1 else 0))

-- what an operator sets: to its last operand, and Private to the last two
abbrev pub set_value : ℕ → Reading → DictValues
set_value op r = let v = r.values in
    (if nat_eq op 15 then record v { charset = r.last }
    else (if nat_eq op 17 then record v { char_strings = r.last }
    else (if nat_eq op 18 then record v { private_len = r.before; private_at = r.last }
    else (if nat_eq op 19 then record v { subrs = r.last }
    else (if nat_eq op 22 then record v { vsindex = r.last }
    else (if nat_eq op 24 then record v { vstore = r.last }
    else (if nat_eq op 286 then record v { cid = true }
    else (if nat_eq op 292 then record v { fd_array = r.last }
    else (if nat_eq op 293 then record v { fd_select = r.last } else v)))))))))

-- an operator takes all operands before it; none if it has too few
abbrev pub after_operator : List ℕ → Reading → Option Reading
after_operator d r = let op = operator_of d r.at in
    (if nat_lt r.count (needed op) then None
    else Some (record { values = set_value op r; last = 0; before = 0; count = 0; at = operator_end d r.at }))

-- no more operands than HarfBuzz takes
abbrev pub most_operands : ℕ
most_operands = 513

abbrev pub after_operand : Reading → Operand → Option Reading
after_operand r o = if nat_lt r.count most_operands
    then Some (record { values = r.values; last = o.value; before = r.last; count = r.count + 1; at = o.next }) else None

abbrev pub dict_step : List ℕ → Reading → Option Reading
dict_step d r = if begins_operand (slice_index d r.at) then option_and_then (after_operand r) (operand_of d r.at)
    else after_operator d r

-- what the operators have set once the bytes are read; none if one of them, or an operand, is refused
abbrev pub dict_from : ℕ → List ℕ → Reading → Option DictValues
dict_from zero d r = Some r.values
dict_from (suc n) d r = if nat_le (length d) r.at then Some r.values
    else option_and_then (dict_from n d) (dict_step d r)

-- before the first operator: the defaults of table 9 and 23
abbrev pub no_values : DictValues
no_values = record {
  charset = 0;
  char_strings = 0;
  private_at = 0;
  private_len = 0;
  subrs = 0;
  fd_array = 0;
  fd_select = 0;
  vstore = 0;
  vsindex = 0;
  cid = false;
}

abbrev pub first_reading : Reading
first_reading = record { values = no_values; last = 0; before = 0; count = 0; at = 0 }

abbrev pub values_of : List ℕ → Option DictValues
values_of d = dict_from (length d) d first_reading
