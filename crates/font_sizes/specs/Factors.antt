-- numbers of a font at a size, as HarfBuzz 10.2.0 rounds them (`em_mult`)
use Rattle.std.specs.Prelude.{ℕ, ℤ, pos, negsuc, ◌+ℤ◌, ◌*ℤ◌, int_lt, if◌then◌else◌}
use Rattle.std.specs.Ordering.{int_eq}
use Rattle.std.specs.Int.{w64, int_div_euclid}
use Rattle.std.specs.Float.{binary32, float_to_signed}
use lib.Ieee.{div, of_int}

-- the size over the units of the em square, in 65536ths: a quotient in binary32, without its fraction
unfoldable pub quotient : ℤ → ℕ → ℤ
quotient size units = float_to_signed w64 (div binary32 (of_int binary32 (size *ℤ pos 65536)) (of_int binary32 (pos units)))

-- it is 1 at the size of the em square
abbrev pub factor_of : ℤ → ℕ → ℤ
factor_of size units = if int_eq size (pos units) then pos 65536 else quotient size units

-- to the nearest whole number, halves upwards
abbrev pub product : ℤ → ℤ → ℤ
product factor n = n *ℤ factor +ℤ pos 32768

unfoldable pub nearest : ℤ → ℤ → ℤ
nearest factor n = int_div_euclid (product factor n) (pos 65536)

-- one that has more than 32 bits is 0
unfoldable pub if_short : ℤ → ℤ
if_short n = if int_lt n (negsuc 2147483647) then pos 0 else (if int_lt (pos 2147483647) n then pos 0 else n)

abbrev pub sized : ℤ → ℤ → ℤ
sized factor n = if_short (nearest factor n)
