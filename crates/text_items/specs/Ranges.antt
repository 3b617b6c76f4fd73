-- Numbers that a caller gives to parts of a text.
use Rattle.std.specs.Prelude.{ℕ, nat_le, List, [], ◌∷◌, if◌then◌else◌}
use Rattle.text_items.specs.declared.ranges.NumberedRange.{NumberedRange}

-- the number at an offset: that of the first range that ends after it, if that begins there or before, and else 0
abbrev pub number_at : List NumberedRange → ℕ → ℕ
number_at [] offset = 0
number_at (range ∷ ranges) offset =
    if nat_le range.end offset then number_at ranges offset
    else if nat_le range.start offset then range.number
    else 0
