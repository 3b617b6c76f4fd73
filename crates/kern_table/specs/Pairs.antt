-- Values of pairs of glyphs, by formats 0, 2 and 3 of `kern`. The fields of a format stand after the header of its subtable.
use Rattle.std.specs.Prelude.{◌≡◌, ◌<◌, ◌≤◌, ◌^◌, ℕ, ℤ, pos, List, Bool, Option, ◌+◌, ◌-◌, ◌*◌, ◌/◌, ◌&&◌, ◌||◌, not, nat_eq, nat_lt, nat_le}
use Rattle.std.specs.Prelude.{slice_index, slice_index_or, length, false, if◌then◌else◌}
use Rattle.std.specs.Option.{option_map_or}
use Rattle.std.specs.declared.cmp.Ordering.{Ordering}
use Rattle.shape_font.specs.Bytes.{u16_of, u32_of, i16_of, fitting}
use Rattle.shape_font.specs.Search.{side_of, found_by}
use Rattle.kern_table.specs.Headers.{format_of, body_of}
use Rattle.kern_table.specs.declared.pairs.Subtable.{Subtable}

-- ---- format 0: pairs in order

-- pairs of 6 bytes: two glyphs, which are one number for the search, and their value
abbrev pub side_of_pair : List ℕ → ℕ → ℕ → ℕ → Ordering
side_of_pair t start glyphs i = let there = u32_of t (body_of t start + 8 + 6 * i) in side_of glyphs there there

abbrev pub pair_of : List ℕ → ℕ → ℕ → Option ℕ
pair_of t start glyphs = found_by (side_of_pair t start glyphs) (fitting t (u16_of t (body_of t start)) (body_of t start + 8) 6)

-- the value of two glyphs in the subtable that begins at `start`; none has a glyph past 65535
abbrev pub listed_value : List ℕ → ℕ → ℕ → ℕ → ℤ
listed_value t start left right = if nat_lt 0xFFFF left || nat_lt 0xFFFF right then pos 0
    else option_map_or (λ i. i16_of t (body_of t start + 12 + 6 * i)) (pair_of t start (left * 65536 + right)) (pos 0)

-- ---- format 2: values by the class of the left glyph and that of the right one

-- the classes of glyphs one after the other, from a first one on
abbrev pub class_of : List ℕ → ℕ → ℕ → ℕ
class_of t classes glyph = u16_of t (classes + 4 + 2 * (glyph - u16_of t classes))

-- 1 is no class: it stands for a glyph out of bounds
abbrev pub is_classed : List ℕ → ℕ → ℕ → Bool
is_classed t classes glyph = nat_le (u16_of t classes) glyph
    && nat_lt (glyph - u16_of t classes) (fitting t (u16_of t (classes + 2)) (classes + 4) 2)
    && not (nat_eq (class_of t classes glyph) 1)

-- a class is a number of bytes: that of the left glyph leads from the start of the subtable to a row of the array, that of the right
-- one along the row. What stands before the array is no value; from there on each has two bytes
abbrev pub value_at : List ℕ → ℕ → ℕ → ℤ
value_at t start place = let array = u16_of t (body_of t start + 6) in
    (if nat_lt place array then pos 0 else i16_of t (start + array + 2 * ((place - array) / 2)))

-- two glyphs of which one has no class have no value
abbrev pub classed_value : List ℕ → ℕ → ℕ → ℕ → ℤ
classed_value t start left right = let lefts = start + u16_of t (body_of t start + 2) in
    let rights = start + u16_of t (body_of t start + 4) in
    (if is_classed t lefts left && is_classed t rights right
    then value_at t start (class_of t lefts left + class_of t rights right) else pos 0)

-- ---- format 3: values by number, for two classes (TrueType Reference Manual, "The 'kern' table")

-- how many glyphs there are (16 bits), how many values, left classes and right ones (8 bits each), and flags; then the values, a left
-- class for each glyph, a right one for each, and for two classes the number of their value. A glyph that is past the count has class 0
abbrev pub numbers_at : List ℕ → ℕ → ℕ
numbers_at t body = body + 6 + 2 * slice_index t (body + 2)

abbrev pub number_of : List ℕ → ℕ → ℕ → ℕ → ℕ
number_of t at count glyph = if nat_lt glyph count then slice_index t (at + glyph) else 0

-- a number past the count of values is no value
abbrev pub numbered_value : List ℕ → ℕ → ℕ → ℤ
numbered_value t body n = if nat_lt n (slice_index t (body + 2)) then i16_of t (body + 6 + 2 * n) else pos 0

-- two glyphs of which one has a class past the count have no value
abbrev pub indexed_value : List ℕ → ℕ → ℕ → ℕ → ℤ
indexed_value t start left right = let body = body_of t start in
    let count = u16_of t body in
    let lefts = numbers_at t body in
    let l = number_of t lefts count left in
    let r = number_of t (lefts + count) count right in
    (if nat_lt l (slice_index t (body + 3)) && nat_lt r (slice_index t (body + 4))
    then numbered_value t body (slice_index t (lefts + 2 * count + (l * slice_index t (body + 4) + r))) else pos 0)

-- ---- by the format of the subtable

unfoldable pub value_of : List ℕ → ℕ → ℕ → ℕ → ℤ
value_of t start left right =
    if nat_eq (format_of t start) 2 then classed_value t start left right
    else (if nat_eq (format_of t start) 3 then indexed_value t start left right
    else listed_value t start left right)

-- a glyph that isn't marked has no value as the left one of two, or as the right one
pub record HoldSides (t : List ℕ) (start : ℕ) (lefts rights : List Bool) : Type 0 where
  pub left : (left right : ℕ) → left < length lefts → slice_index_or lefts left false ≡ false → value_of t start left right ≡ pos 0
  pub right : (left right : ℕ) → right < length rights → slice_index_or rights right false ≡ false → value_of t start left right ≡ pos 0

-- what was read of a subtable is what its bytes say, and what is stored of it holds
pub record IsRead (s : Subtable) : Type 0 where
  pub near : s.start < 2 ^ 34
  pub inside : s.body ≤ s.start + 8
  pub body : s.body ≡ body_of s.kern.now s.start
  pub sides : HoldSides s.kern.now s.start s.sides.lefts.now s.sides.rights.now
  pub format : s.format ≡ format_of s.kern.now s.start
  pub count : s.count ≡ fitting s.kern.now (u16_of s.kern.now s.body) (s.body + 8) 6
