-- Packed deltas (OpenType, "Tuple variation store", "Packed deltas"): runs of numbers of one size.
use Rattle.std.specs.Prelude.{ℕ, ℤ, pos, List, ◌+◌, ◌-◌, ◌/◌, ◌%◌, nat_eq, slice_index, if◌then◌else◌}
use Rattle.font_bytes.specs.Bytes.{i8_of, i16_of, i32_of}
use Rattle.glyph_variations.specs.declared.packed.PackedDeltas.{PackedDeltas}

-- no run is begun
abbrev pub begun : ℕ → PackedDeltas
begun at = record { at = at; left = 0; kind = 0; value = pos 0 }

-- a run: its length less one, in 6 bits, and above them its kind: 0 of one byte, 1 of two, 2 of zeros, 3 of four
abbrev pub with_run : List ℕ → PackedDeltas → PackedDeltas
with_run t s = let control = slice_index t s.at in
    (if nat_eq s.left 0 then record { at = s.at + 1; left = control % 64 + 1; kind = control / 64; value = s.value } else s)

abbrev pub size_of : ℕ → ℕ
size_of kind = if nat_eq kind 0 then 1 else (if nat_eq kind 1 then 2 else (if nat_eq kind 2 then 0 else 4))

abbrev pub value_at : List ℕ → ℕ → ℕ → ℤ
value_at t kind at = if nat_eq kind 0 then i8_of t at else (if nat_eq kind 1 then i16_of t at else (if nat_eq kind 2 then pos 0 else i32_of t at))

abbrev pub with_value : List ℕ → PackedDeltas → PackedDeltas
with_value t s = record s { at = s.at + size_of s.kind; left = s.left - 1; value = value_at t s.kind s.at }

abbrev pub next_delta : List ℕ → PackedDeltas → PackedDeltas
next_delta t s = with_value t (with_run t s)
