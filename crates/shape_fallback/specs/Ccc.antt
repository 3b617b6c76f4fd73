-- The ccc that marks are placed by, if a face does not place them.
use Rattle.std.specs.Prelude.{ℕ, Bool, ◌&&◌, ◌||◌, ◌==◌, nat_le, if◌then◌else◌}

-- the number is one from a to b
abbrev pub is_within : ℕ → ℕ → ℕ → Bool
is_within a b n = nat_le a n && nat_le n b

-- by the character, for Thai and Lao
abbrev pub ccc_in_thai_or_lao : ℕ → ℕ → ℕ
ccc_in_thai_or_lao c ccc =
    if ccc == 0 then
    (if c == 0xE31 || is_within 0xE34 0xE37 c || c == 0xE47 || is_within 0xE4C 0xE4E c then 232
    else if c == 0xEB1 || is_within 0xEB4 0xEB7 c || c == 0xEBB || is_within 0xECC 0xECD c then 230
    else if c == 0xEBC then 220
    else ccc)
    else if c == 0xE3A then 222 else ccc

-- by the modified ccc
abbrev pub recategorized_ccc : ℕ → ℕ
recategorized_ccc ccc =
    if is_within 15 25 ccc then 220
    else if ccc == 13 then 214
    else if ccc == 10 then 232
    else if ccc == 11 || ccc == 14 then 228
    else if ccc == 26 then 230
    else if is_within 27 29 ccc || ccc == 31 || ccc == 32 || is_within 34 36 ccc then 230
    else if ccc == 30 || ccc == 33 then 220
    else if ccc == 3 then 222
    else if ccc == 107 then 232
    else if ccc == 118 then 220
    else if ccc == 122 then 230
    else if ccc == 129 || ccc == 131 then 220
    else if ccc == 132 then 230
    else ccc

-- the ccc that a nonspacing mark is placed by
abbrev pub fallback_ccc : ℕ → ℕ → ℕ
fallback_ccc c ccc = if nat_le 200 ccc then ccc else recategorized_ccc (ccc_in_thai_or_lao c ccc)
