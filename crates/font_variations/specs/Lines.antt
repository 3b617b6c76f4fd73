-- What is added to the measures of lines at some coordinates (OpenType, `MVAR`).
use Prim.Native.Nat.{zero}
use Rattle.std.specs.Prelude.{ℕ, suc, ℤ, List, Bool, Option, Some, None, cond, ◌+◌, ◌*◌, ◌&&◌, nat_eq, nat_le, length, if◌then◌else◌}
use Rattle.std.specs.Option.{option_map_or}
use Rattle.std.specs.Float.{Float}
use Rattle.font_bytes.specs.Bytes.{u16_of, u32_of}
use Rattle.font_variations.specs.Deltas.{delta_of}
use Rattle.font_variations.specs.Parts.{part_at}
use Rattle.font_variations.specs.Tents.{nothing}

-- records stand at 12: a tag and the index of a delta set, in bytes of a size that the table states
abbrev pub record_size : List ℕ → ℕ
record_size t = u16_of t 6

abbrev pub record_count : List ℕ → ℕ
record_count t = u16_of t 8

-- major version 1, with room in a record, and in the table for all records
abbrev pub has_records : List ℕ → Bool
has_records t = nat_eq (u16_of t 0) 1 && nat_le 8 (record_size t) && nat_le (12 + record_size t * record_count t) (length t)

-- of the `n` records of `size` bytes from number `i` on, the first for this tag
abbrev pub tagged_from : List ℕ → ℕ → ℕ → ℕ → ℕ → Option ℕ
tagged_from t tag size zero i = None
tagged_from t tag size (suc n) i = cond (nat_eq (u32_of t (12 + size * i)) tag) (Some i) (tagged_from t tag size n (suc i))

abbrev pub tagged : List ℕ → ℕ → Option ℕ
tagged t tag = tagged_from t tag (record_size t) (record_count t) 0

-- the store stands at an offset of 16 bits
abbrev pub record_delta : List ℕ → List ℤ → ℕ → Float
record_delta t coordinates i = delta_of (part_at t (u16_of t 10)) coordinates (u32_of t (16 + record_size t * i))

unfoldable pub line_delta : List ℕ → List ℤ → ℕ → Float
line_delta t coordinates tag = if has_records t then option_map_or (record_delta t coordinates) (tagged t tag) nothing else nothing
