-- which characters a subtable of `cmap` lists, range by range
use Rattle.std.specs.Prelude.{ℕ, List, ◌+◌, ◌-◌, ◌*◌, ◌/◌, ◌||◌, min, nat_eq, if◌then◌else◌}
use Rattle.shape_font.specs.Bytes.{u16_of, u32_of, fitting}
use Rattle.shape_font.specs.Cmap.{groups_of}

-- formats 12 and 13 have groups, format 4 segments, formats 0, 6 and 10 one range
abbrev pub range_count : List ℕ → ℕ
range_count t = let format = u16_of t 0 in
    (if nat_eq format 4 then fitting t (u16_of t 6 / 2) 14 2
    else (if nat_eq format 12 || nat_eq format 13 then groups_of t
    else (if nat_eq format 0 || nat_eq format 6 || nat_eq format 10 then 1 else 0)))

-- the first character of range `i`
abbrev pub first_listed : List ℕ → ℕ → ℕ
first_listed t i = let format = u16_of t 0 in
    (if nat_eq format 4 then u16_of t (16 + 2 * (u16_of t 6 / 2) + 2 * i)
    else (if nat_eq format 6 then u16_of t 6
    else (if nat_eq format 10 then u32_of t 12
    else (if nat_eq format 12 || nat_eq format 13 then u32_of t (16 + 12 * i) else 0))))

-- the last one
abbrev pub last_listed : List ℕ → ℕ → ℕ
last_listed t i = let format = u16_of t 0 in
    (if nat_eq format 0 then 255
    else (if nat_eq format 4 then u16_of t (14 + 2 * i)
    else (if nat_eq format 6 then u16_of t 6 + (u16_of t 8 - 1)
    else (if nat_eq format 10 then min (u32_of t 12 + (u32_of t 16 - 1)) 4294967295
    else (if nat_eq format 12 || nat_eq format 13 then u32_of t (20 + 12 * i) else 0)))))
