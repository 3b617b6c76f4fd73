-- Attachment (TrueType Reference Manual, "The 'kerx' table", "Format 4"): entries of a state table name actions, by which a point of
-- the current glyph is put on a point of the marked one. A subtable is given by its bytes.
use Rattle.std.specs.Prelude.{ℕ, List, Option, Some, None, ◌+◌, ◌*◌, ◌/◌, ◌%◌, nat_eq, nat_le, length, if◌then◌else◌}
use Rattle.shape_common.specs.Wrapping.{◌-ʷ◌}
use Rattle.shape_font.specs.Bytes.{u16_of, u32_of}
use Rattle.apple_tables.specs.declared.states.Entry.{Entry}
use Rattle.apple_positioning.specs.Anchors.{read_at}
use Rattle.apple_positioning.specs.declared.anchors.Anchor.{Anchor}
use Rattle.apple_positioning.specs.declared.attachments.Action.{Action}
use Rattle.apple_positioning.specs.declared.attachments.Numbers.{Numbers}
use Rattle.apple_positioning.specs.declared.attachments.Places.{Places}
use Rattle.apple_positioning.specs.declared.attachments.Action.TheVariants.{ControlPoints, AnchorPoints, Coordinates, Attached}

-- ---- subtables with a state table (formats 1 and 4): it stands after the header; its entries have 6 bytes

abbrev pub MACHINE : ℕ
MACHINE = 12

-- the data of an entry are the number of its action, 0xFFFF for none
abbrev pub action_index : List ℕ → Entry → Option ℕ
action_index s e = let index = u16_of s e.at in (if nat_eq index 0xFFFF then None else Some index)

-- ---- format 4: after the header of the state table stand flags (32 bits): the first two bits are the kind of action, the last 24 the
-- ---- place of the actions, from the start of the state table

abbrev pub kind_of : List ℕ → ℕ
kind_of s = u32_of s 28 / 0x40000000

abbrev pub actions_at : List ℕ → ℕ
actions_at s = MACHINE + u32_of s 28 % 0x1000000

-- kinds 0 and 1 have numbers of points (16 bits each): of the outlines of the glyphs, or of their anchor points
abbrev pub numbers_at : List ℕ → ℕ → Numbers
numbers_at s at = record { marked = u16_of s at; current = u16_of s (at + 2) }

-- kind 2 has coordinates of both points (16 bits each)
abbrev pub places_at : List ℕ → ℕ → Places
places_at s at = record { marked = read_at s at; current = read_at s (at + 4) }

-- an action counts if the subtable has all of its bytes; by the other kind a glyph is attached where it stands
abbrev pub whole : List ℕ → ℕ → Action → Option Action
whole s end action = if nat_le end (length s) then Some action else None

abbrev pub action_of : List ℕ → ℕ → Option Action
action_of s index = let at = actions_at s + 4 * index in let far = actions_at s + 8 * index in
    (if nat_eq (kind_of s) 0 then whole s (at + 4) (ControlPoints (numbers_at s at))
    else (if nat_eq (kind_of s) 1 then whole s (at + 4) (AnchorPoints (numbers_at s at))
    else (if nat_eq (kind_of s) 2 then whole s (far + 8) (Coordinates (places_at s far))
    else Some Attached)))

-- how far the current glyph moves, so that its point comes to that of the marked one
abbrev pub apart : Anchor → Anchor → Anchor
apart marked current = record { x = marked.x -ʷ current.x; y = marked.y -ʷ current.y }
