-- Extended kerning (TrueType Reference Manual, "The 'kerx' table"): a chain of subtables, one after the other.
use Prim.Native.Nat.{zero}
use Rattle.std.specs.Prelude.{ℕ, suc, List, [], ◌∷◌, Bool, ◌+◌, ◌/◌, ◌%◌, ◌||◌, min, nat_eq, nat_lt}
use Rattle.std.specs.Prelude.{length, take, drop, if◌then◌else◌}
use Rattle.shape_font.specs.Bytes.{u16_of, u32_of}
use Rattle.apple_positioning.specs.declared.chains.Header.{Header}
use Rattle.apple_positioning.specs.declared.chains.Chain.{Chain}

-- a version and padding (16 bits each), and how many subtables there are (32 bits); they follow. Versions from 2 on are read
abbrev pub subtable_count : List ℕ → ℕ
subtable_count t = if nat_lt (u16_of t 0) 2 then 0 else u32_of t 4

abbrev pub FIRST : ℕ
FIRST = 8

-- ---- the chain

-- a subtable begins with its length, header and all (32 bits)
abbrev pub HEADER_SIZE : ℕ
HEADER_SIZE = 12

-- the most bytes that a table can have: its length is a number of 32 bits
abbrev pub most_bytes : ℕ
most_bytes = 0xFFFFFFFF

-- a subtable that is shorter than its header, or longer than what is left of the table, ends the chain
abbrev pub ends_chain : List ℕ → ℕ → Bool
ends_chain t start = nat_lt (u32_of t start) HEADER_SIZE || nat_lt (min (length t) most_bytes) (start + u32_of t start)

-- the bytes of a subtable: those that it states, of the last one all that are left
abbrev pub bytes_of : List ℕ → ℕ → Bool → List ℕ
bytes_of t start is_last = if is_last then drop start t else take (u32_of t start) (drop start t)

-- so many subtables from a place on
abbrev pub subtables_from : List ℕ → ℕ → ℕ → List (List ℕ)
subtables_from t zero start = []
subtables_from t (suc n) start = if ends_chain t start then []
    else bytes_of t start (nat_eq n 0) ∷ subtables_from t n (start + u32_of t start)

abbrev pub subtables_of : List ℕ → List (List ℕ)
subtables_of t = subtables_from t (subtable_count t) FIRST

-- those that a chain has before it
abbrev pub rest_of : Chain → List (List ℕ)
rest_of c = subtables_from c.table.now c.left c.start

-- ---- a subtable, by its bytes: after its length its coverage and tupleCount (32 bits each)

abbrev pub bit_of : ℕ → ℕ → Bool
bit_of n bit = nat_eq (n / bit % 2) 1

-- of coverage bit 0x80000000 says vertical, 0x40000000 cross-stream, 0x20000000 variation, 0x10000000 that the glyphs are processed
-- from the last to the first; the last eight bits are the format
abbrev pub header_of : List ℕ → Header
header_of s = let coverage = u32_of s 4 in record {
  is_vertical = bit_of coverage 0x80000000;
  is_cross_stream = bit_of coverage 0x40000000;
  has_variation = bit_of coverage 0x20000000;
  is_backward = bit_of coverage 0x10000000;
  format = coverage % 256;
  tuple_count = u32_of s 8;
}
