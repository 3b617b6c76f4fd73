-- Contextual kerning (TrueType Reference Manual, "The 'kerx' table", "Format 1"): entries of a state table push glyphs onto a stack, and
-- pop them with lists of values. A subtable is given by its bytes.
use Rattle.std.specs.Prelude.{ℕ, pos, List, Bool, Option, Some, None, ◌+◌, ◌*◌, ◌/◌, ◌%◌, ◌-ℤ◌, max, nat_eq, nat_le, length, if◌then◌else◌}
use Rattle.shape_font.specs.Bytes.{u16_of, u32_of, i16_of}
use Rattle.apple_tables.specs.declared.states.Entry.{Entry}
use Rattle.apple_positioning.specs.Chains.{bit_of}
use Rattle.apple_positioning.specs.Attachments.{MACHINE}
use Rattle.apple_positioning.specs.declared.stacks.StackValue.{StackValue}

-- flag 0x8000 of an entry pushes the current glyph, and 0x2000 empties the stack first
abbrev pub pushes : Entry → Bool
pushes e = bit_of e.flags 0x8000

abbrev pub empties : Entry → Bool
empties e = bit_of e.flags 0x2000

-- the stack has room for eight glyphs; one more empties it
abbrev pub MOST_PUSHED : ℕ
MOST_PUSHED = 8

abbrev pub depth_after : Bool → Bool → ℕ → ℕ
depth_after is_emptied is_pushed depth = let kept = if is_emptied then 0 else depth in
    (if is_pushed then (if nat_le MOST_PUSHED kept then 0 else kept + 1) else kept)

-- after the header of the state table stands the place of the values (32 bits), from the start of the state table; the number of an
-- entry's action is that of bytes from there
abbrev pub values_at : List ℕ → ℕ → ℕ
values_at s index = MACHINE + u32_of s 28 + 2 * (index / 2)

-- for each glyph a value (16 bits), or a tuple of them, of which the first one counts
abbrev pub step_of : List ℕ → ℕ
step_of s = 2 * max 1 (u32_of s 8)

-- values for all glyphs of the stack, or none
abbrev pub list_of : List ℕ → ℕ → ℕ → Option ℕ
list_of s index depth = let at = values_at s index in
    (if nat_le (at + step_of s * depth) (length s) then Some at else None)

-- an odd value is the last one, and counts without that
abbrev pub value_at : List ℕ → ℕ → StackValue
value_at s at = record { by = i16_of s at -ℤ pos (u16_of s at % 2); is_last = nat_eq (u16_of s at % 2) 1 }
