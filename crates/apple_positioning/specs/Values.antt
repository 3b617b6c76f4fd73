-- Values of two glyphs in a subtable of `kerx`, by formats 0, 2 and 6 (TrueType Reference Manual, "The 'kerx' table"). A subtable is
-- given by its bytes; its header has 12 of them.
use Rattle.std.specs.Prelude.{ℕ, ℤ, pos, List, Option, Bool, false, ◌+◌, ◌*◌, ◌%◌, ◌||◌, nat_eq, nat_lt, nat_le, length, if◌then◌else◌}
use Rattle.std.specs.Prelude.{int_lt, unsigned_abs, None}
use Rattle.std.specs.Option.{option_map, option_map_or, option_and_then}
use Rattle.std.specs.declared.cmp.Ordering.{Ordering}
use Rattle.font_bytes.specs.Bytes.{i32_of}
use Rattle.shape_font.specs.Bytes.{u16_of, u32_of, i16_of, fitting}
use Rattle.shape_font.specs.Search.{side_of, found_by}
use Rattle.apple_tables.specs.Lookups.{value_of}
use Rattle.apple_positioning.specs.Chains.{bit_of}

-- a value of 16 bits, or of 32; one of which bytes are lacking is 0
abbrev pub short_at : List ℕ → ℕ → ℤ
short_at s at = if nat_le (at + 2) (length s) then i16_of s at else pos 0

abbrev pub long_at : List ℕ → ℕ → ℤ
long_at s at = if nat_le (at + 4) (length s) then i32_of s at else pos 0

-- ---- format 0: pairs in order

-- how many there are, and three numbers for searches (32 bits each); then pairs of 6 bytes: two glyphs, which are one number for the
-- search, and their value
abbrev pub side_of_pair : List ℕ → ℕ → ℕ → Ordering
side_of_pair s glyphs i = let there = u32_of s (28 + 6 * i) in side_of glyphs there there

abbrev pub pair_of : List ℕ → ℕ → Option ℕ
pair_of s glyphs = found_by (side_of_pair s glyphs) (fitting s (u32_of s 12) 28 6)

-- no pair has a glyph past 65535
abbrev pub listed : List ℕ → ℕ → ℕ → Option ℤ
listed s left right = if nat_lt 0xFFFF left || nat_lt 0xFFFF right then None
    else option_map (λ i. i16_of s (32 + 6 * i)) (pair_of s (left * 65536 + right))

-- ---- format 2: by classes

-- the width of a row, and where the classes of left glyphs, those of right ones, and an array of values stand (32 bits each). The class
-- of a glyph, by a lookup table, is a number of values; a table of format 10 has its glyphs in class 0
abbrev pub class_of : List ℕ → ℕ → ℕ → ℕ → Option ℕ
class_of s at glyphs glyph = option_map (λ n. if nat_eq (u16_of s at) 10 then 0 else n) (value_of s at false glyphs glyph)

-- both classes together lead to the value
abbrev pub classed : List ℕ → ℕ → ℕ → ℕ → Option ℤ
classed s glyphs left right = option_and_then (λ l.
    option_map (λ r. short_at s (u32_of s 24 + 2 * (l + r))) (class_of s (u32_of s 20) glyphs right)) (class_of s (u32_of s 16) glyphs left)

-- ---- format 6: by rows and columns

-- flags (32 bits), of which bit 1 says that values are long, how many rows and columns there are (16 bits each), and where the rows of
-- left glyphs, the columns of right ones, an array of values, and values for instances stand (32 bits each)
abbrev pub is_long : List ℕ → Bool
is_long s = bit_of (u32_of s 12) 1

-- the place of a row in the array, or of a column in a row, has 16 bits, or 32 if values are long
abbrev pub index_of : List ℕ → ℕ → ℕ → ℕ → Option ℕ
index_of s at glyphs glyph = option_map (λ n. if is_long s then n else n % 65536) (value_of s at (is_long s) glyphs glyph)

abbrev pub value_in_row : List ℕ → ℕ → ℤ
value_in_row s i = if is_long s then long_at s (u32_of s 28 + 4 * i) else short_at s (u32_of s 28 + 2 * i)

-- both indices together lead to the value
abbrev pub indexed : List ℕ → ℕ → ℕ → ℕ → Option ℤ
indexed s glyphs left right = option_and_then (λ l.
    option_map (λ r. value_in_row s (l + r)) (index_of s (u32_of s 24) glyphs right)) (index_of s (u32_of s 20) glyphs left)

-- ---- instances of variable fonts

-- a subtable with tuples has places of them in place of values, from the start of the subtable, or of the values for instances; of
-- a tuple the first value counts, that of the default instance
abbrev pub tuple_at : List ℕ → ℕ → ℤ
tuple_at s at = if nat_le (at + 2 * u32_of s 8) (length s) then i16_of s at else pos 0

-- a place below 0 leads past the end of every table
abbrev pub first_of_tuple : List ℕ → ℕ → ℤ → ℤ
first_of_tuple s base v = if nat_eq (u32_of s 8) 0 then v
    else (if int_lt v (pos 0) then pos 0 else tuple_at s (base + unsigned_abs v))

-- ---- by the format of the subtable; two glyphs of which the subtable doesn't name one have no value

abbrev pub format_of : List ℕ → ℕ
format_of s = u32_of s 4 % 256

abbrev pub found_value : List ℕ → ℕ → ℕ → ℕ → Option ℤ
found_value s glyphs left right = if nat_eq (format_of s) 0 then listed s left right
    else (if nat_eq (format_of s) 2 then classed s glyphs left right
    else (if nat_eq (format_of s) 6 then indexed s glyphs left right
    else None))

abbrev pub tuples_of : List ℕ → ℕ
tuples_of s = if nat_eq (format_of s) 6 then u32_of s 32 else 0

unfoldable pub kerning_of : List ℕ → ℕ → ℕ → ℕ → ℤ
kerning_of s glyphs left right = option_map_or (first_of_tuple s (tuples_of s)) (found_value s glyphs left right) (pos 0)
