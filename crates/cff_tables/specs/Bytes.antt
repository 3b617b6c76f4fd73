-- numbers in the bytes of a table, big endian; what lies past the end reads as 0
use Prim.Native.Nat.{zero}
use Rattle.std.specs.Prelude.{ℕ, suc, List, Bool, Option, Some, None, cond, ◌+◌, ◌*◌, ◌&&◌, nat_eq, nat_le, length, if◌then◌else◌, slice_index, slice_range}

abbrev pub word_of : List ℕ → ℕ → ℕ
word_of t at = slice_index t at * 256 + slice_index t (at + 1)

-- a number of `size` bytes, from one to four
abbrev pub number_of : List ℕ → ℕ → ℕ → ℕ
number_of t at size = if nat_eq size 1 then slice_index t at
    else (if nat_eq size 2 then word_of t at
    else (if nat_eq size 3 then slice_index t at * 65536 + word_of t (at + 1)
    else word_of t at * 65536 + word_of t (at + 2)))

-- the bytes from one place to another, if they are there
abbrev pub part_of : List ℕ → ℕ → ℕ → Option (List ℕ)
part_of t from to = if nat_le from to && nat_le to (length t) then Some (slice_range t from to) else None

-- the first of the `n` numbers from `i` on that passes
abbrev pub first_at : (ℕ → Bool) → ℕ → ℕ → Option ℕ
first_at p zero i = None
first_at p (suc n) i = cond (p i) (Some i) (first_at p n (suc i))
