-- Edits of a buffer's positions and flags, by places; past the end nothing changes.
use Rattle.std.specs.Prelude.{ℕ, Bool, min, length, nat_lt, nat_le, ◌==◌, slice_set, slice_index_or, if◌then◌else◌}
use Rattle.std.specs.Int.RustNames.{bit_and}
use Rattle.shape_common.specs.FlagNames.{PRODUCE_UNSAFE_TO_CONCAT}
use Rattle.shape_common.specs.Positions.{zero_position}
use Rattle.shape_common.specs.declared.positions.GlyphPosition.{GlyphPosition}
use Rattle.shape_items.specs.Buffer.{Buffer}
use Rattle.shape_items.specs.BufferClusters.{unsafe_to_break, unsafe_to_concat}

-- the position at a place, one that moves nothing past the end
abbrev pub position_at : Buffer → ℕ → GlyphPosition
position_at b i = slice_index_or b.positions i zero_position

abbrev pub position_put : ℕ → GlyphPosition → Buffer → Buffer
position_put i p b = if nat_lt i (length b.items) then record b { positions = slice_set b.positions i p } else b

abbrev pub position_changed : (GlyphPosition → GlyphPosition) → ℕ → Buffer → Buffer
position_changed f i b = position_put i (f (position_at b i)) b

-- a span, as far as the list goes, marked unsafe to break, or to concat
abbrev pub broken : ℕ → ℕ → Buffer → Buffer
broken start end b = let last = min end (length b.items) in (if nat_le start last then unsafe_to_break start last b else b)

abbrev pub asks_for_concat : Buffer → Bool
asks_for_concat b = bit_and b.flags.0 PRODUCE_UNSAFE_TO_CONCAT == PRODUCE_UNSAFE_TO_CONCAT

abbrev pub concat_marked : ℕ → ℕ → Buffer → Buffer
concat_marked start end b = let last = min end (length b.items) in (if nat_le start last then unsafe_to_concat start last b else b)
