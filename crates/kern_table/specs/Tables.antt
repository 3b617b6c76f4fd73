-- kerning of a buffer by a whole table `kern`
use Prim.Native.Nat.{zero}
use Rattle.std.specs.Prelude.{ℕ, suc, List, Bool, Option, ◌+◌, ◌-◌, ◌*◌, ◌/◌, ◌%◌, ◌&&◌, ◌||◌, min, max, length, nat_lt, nat_eq, reverse, if◌then◌else◌}
use Rattle.shape_items.specs.Buffer.{Buffer, most_countable}
use Rattle.shape_common.specs.Direction.{is_horizontal, is_backward}
use Rattle.shape_font.specs.Bytes.{u16_of, u32_of}
use Rattle.kern_table.specs.Headers.{is_apple, first_start, length_of, format_of, coverage_of, ends_table}
use Rattle.font_sizes.specs.declared.scales.Scale.{Scale}
use Rattle.kern_table.specs.Walk.{kerned}

-- how many subtables the table states (`nTables`): a number of 16 bits in OpenType, of 32 in Apple's version; none in another one
abbrev pub subtable_count_of : List ℕ → ℕ
subtable_count_of t = if nat_eq (u16_of t 0) 0 then u16_of t 2 else (if is_apple t then u32_of t 4 else 0)

-- OpenType: a subtable for lines of this kind (horizontal, bit 0), that doesn't move glyphs across the line (crossStream, bit 2)
abbrev pub is_along : ℕ → Bool → Bool
is_along coverage horizontal = nat_eq (coverage % 2) (if horizontal then 1 else 0) && nat_eq (coverage / 4 % 2) 0

-- Apple: the upper half of coverage says kernVertical (0x8000), kernCrossStream (0x4000) and, with values for instances of a variable
-- font, kernVariation (0x2000)
abbrev pub is_along_apple : ℕ → Bool → Bool
is_along_apple coverage horizontal = nat_eq (coverage / 128 % 2) (if horizontal then 0 else 1) && nat_eq (coverage / 32 % 4) 0

abbrev pub runs_along : List ℕ → ℕ → Bool → Bool
runs_along t start horizontal = if is_apple t then is_along_apple (coverage_of t start) horizontal
    else is_along (coverage_of t start) horizontal

-- formats that have values of pairs
abbrev pub has_pairs : ℕ → Bool
has_pairs format = nat_eq format 0 || (nat_eq format 2 || nat_eq format 3)

-- a subtable of such a format, along lines of this kind
abbrev pub is_read : List ℕ → ℕ → Bool → Bool
is_read t start horizontal = has_pairs (format_of t start) && runs_along t start horizontal

abbrev pub reversed : Buffer → Buffer
reversed b = record b { items = reverse b.items; positions = reverse b.positions }

-- a subtable kerns from the left of the line to its right
abbrev pub subtable_kerned : Option Scale → List ℕ → ℕ → ℕ → Buffer → Buffer
subtable_kerned scale t start mask b = if is_read t start (is_horizontal b.direction)
    then (if is_backward b.direction then reversed (kerned scale t start mask (reversed b)) else kerned scale t start mask b)
    else b

-- what a subtable costs at each item, in units of about one look at a glyph: it is walked over, reversed and reversed back, and
-- the pairs are searched for
abbrev pub SUBTABLE_WORK : ℕ
SUBTABLE_WORK = 16

-- one unit at least, since reading its head takes time, too
abbrev pub subtable_work : ℕ → ℕ
subtable_work count = max (min (count * SUBTABLE_WORK) most_countable) 1

-- a subtable is charged for, whether it is read or not
abbrev pub charged : Buffer → Buffer
charged b = record b { max_ops = b.max_ops - subtable_work (length b.items) }

-- so many subtables from a place on; one that what is left doesn't suffice for ends the table, after which nothing is left
abbrev pub kerned_from : Option Scale → List ℕ → ℕ → ℕ → ℕ → Buffer → Buffer
kerned_from scale t mask zero start b = b
kerned_from scale t mask (suc n) start b = if ends_table t start then b
    else (if nat_lt b.max_ops (subtable_work (length b.items)) then charged b
    else kerned_from scale t mask n (start + length_of t start) (subtable_kerned scale t start mask (charged b)))

-- all subtables, if kerning is on somewhere
abbrev pub table_kerned : Option Scale → List ℕ → ℕ → Buffer → Buffer
table_kerned scale t mask b = if nat_eq mask 0 then b else kerned_from scale t mask (subtable_count_of t) (first_start t) b
