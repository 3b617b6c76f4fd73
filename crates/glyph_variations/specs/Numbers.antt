-- Packed point numbers (OpenType, "Tuple variation store", "Packed point numbers"): how many, and then runs of differences.
use Rattle.std.specs.Prelude.{ℕ, List, Bool, false, ◌+◌, ◌-◌, ◌*◌, ◌%◌, nat_eq, nat_lt, nat_le, slice_index, if◌then◌else◌}
use Rattle.font_bytes.specs.Bytes.{u16_of}
use Rattle.glyph_variations.specs.declared.numbers.PointNumbers.{PointNumbers}

-- how many numbers there are: in one byte up to 127, else in two; 0 stands for all points
abbrev pub count_of : List ℕ → ℕ → ℕ
count_of t at = if nat_lt (slice_index t at) 128 then slice_index t at else u16_of t at - 32768

abbrev pub after_count : List ℕ → ℕ → ℕ
after_count t at = if nat_lt (slice_index t at) 128 then at + 1 else at + 2

-- no run is begun
abbrev pub begun : ℕ → PointNumbers
begun at = record { at = at; left = 0; wide = false; number = 0 }

-- a run: its length less one, in 7 bits, and whether its numbers have two bytes
abbrev pub with_run : List ℕ → PointNumbers → PointNumbers
with_run t s = let control = slice_index t s.at in
    (if nat_eq s.left 0 then record { at = s.at + 1; left = control % 128 + 1; wide = nat_le 128 control; number = s.number } else s)

-- how many bytes a number has in a run
abbrev pub size_of : Bool → ℕ
size_of wide = if wide then 2 else 1

-- each number is said by how much it is greater than the one before
abbrev pub with_number : List ℕ → PointNumbers → PointNumbers
with_number t s = if s.wide then record s { at = s.at + 2; left = s.left - 1; number = s.number + u16_of t s.at }
    else record s { at = s.at + 1; left = s.left - 1; number = s.number + slice_index t s.at }

abbrev pub next_number : List ℕ → PointNumbers → PointNumbers
next_number t s = with_number t (with_run t s)
