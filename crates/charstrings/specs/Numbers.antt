-- numbers of charstrings, in 65536ths (Adobe Technical Note 5177, section 3.2), and sums that wrap as an i64 does
use Rattle.std.specs.Prelude.{ℕ, ℤ, List, Bool, pos, neg_ℤ, ◌+◌, ◌-◌, ◌*◌, ◌+ℤ◌, ◌-ℤ◌, ◌*ℤ◌, ◌||◌, nat_eq, nat_lt, nat_le, if◌then◌else◌, slice_index}
use Rattle.std.specs.Int.{w64, int_wrap}
use Rattle.cff_tables.specs.Bytes.{word_of, number_of}

-- the exact sum, as far as it fits 64 bits
unfoldable pub plus : ℤ → ℤ → ℤ
plus a b = int_wrap w64 (a +ℤ b)

-- the other sign, likewise
unfoldable pub opposite : ℤ → ℤ
opposite a = int_wrap w64 (neg_ℤ a)

-- two bytes in two's complement
abbrev pub signed_word : ℕ → ℤ
signed_word n = if nat_lt n 32768 then pos n else (pos n -ℤ pos 65536)

-- four bytes likewise
abbrev pub signed_long : ℕ → ℤ
signed_long n = if nat_lt n 2147483648 then pos n else (pos n -ℤ pos 4294967296)

-- 28 and 32 to 255 begin a number
abbrev pub begins_number : ℕ → Bool
begins_number b = nat_eq b 28 || nat_le 32 b

-- how many bytes a number takes, by the first
abbrev pub number_size : ℕ → ℕ
number_size b = if nat_eq b 28 then 3 else (if nat_lt b 247 then 1 else (if nat_lt b 255 then 2 else 5))

-- the size of a number of two bytes, in 65536ths
abbrev pub pair_of : ℕ → ℕ → ℤ
pair_of first second = pos (first * 256 + second + 108) *ℤ pos 65536

-- its value in 65536ths, by the first byte: 255 is a number with 16 binary places, the others are whole
abbrev pub number_value : List ℕ → ℕ → ℤ
number_value t at = let b = slice_index t at in let second = slice_index t (at + 1) in
    (if nat_eq b 28 then signed_word (word_of t (at + 1)) *ℤ pos 65536
    else (if nat_lt b 247 then (pos b -ℤ pos 139) *ℤ pos 65536
    else (if nat_lt b 251 then pair_of (b - 247) second
    else (if nat_lt b 255 then pos 0 -ℤ pair_of (b - 251) second
    else signed_long (number_of t (at + 1) 4)))))
