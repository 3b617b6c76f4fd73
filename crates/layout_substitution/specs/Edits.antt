-- edits of a buffer at a place; past the end nothing changes
use Rattle.std.specs.Prelude.{ℕ, ◌+◌, ◌&&◌, ◌==◌, Bool, length, nat_lt, nat_le, insert, remove, slice_set, if◌then◌else◌}
use Rattle.shape_items.specs.Buffer.{Buffer, limit_of}
use Rattle.shape_items.specs.BufferClusters.{merge_clusters, unsafe_to_break, unsafe_to_concat}
use Rattle.shape_items.specs.Items.{Item}
use Rattle.std.specs.Int.RustNames.{bit_and}
use Rattle.shape_common.specs.FlagNames.{PRODUCE_UNSAFE_TO_CONCAT}
use Rattle.shape_common.specs.Positions.{zero_position}
use Rattle.layout_matching.specs.Skipping.{nth}
use Rattle.layout_matching.specs.declared.tried.Reach.{Reach}

abbrev pub item_at : Buffer → ℕ → Item
item_at b i = nth b.items i

abbrev pub is_inside : ℕ → Buffer → Bool
is_inside i b = nat_lt i (length b.items)

-- another item at a place
abbrev pub put_at : ℕ → Item → Buffer → Buffer
put_at i item b = if is_inside i b then record b { items = slice_set b.items i item } else b

-- an item changed
abbrev pub changed_at : (Item → Item) → ℕ → Buffer → Buffer
changed_at f i b = put_at i (f (item_at b i)) b

-- one more item after a place
abbrev pub put_after : ℕ → Item → Buffer → Buffer
put_after i item b =
    if is_inside i b
    then record b { items = insert b.items (i + 1) item; positions = insert b.positions (i + 1) zero_position }
    else b

-- an item taken out, with its position
abbrev pub taken_out : ℕ → Buffer → Buffer
taken_out i b = if is_inside i b then record b { items = remove b.items i; positions = remove b.positions i } else b

-- the clusters of a span merged
abbrev pub merged : ℕ → ℕ → Buffer → Buffer
merged start end b = if nat_le start end && nat_le end (length b.items) then merge_clusters start end b else b

-- a span marked unsafe to break
abbrev pub broken : ℕ → ℕ → Buffer → Buffer
broken start end b = if nat_le start end && nat_le end (length b.items) then unsafe_to_break start end b else b

abbrev pub asks_for_concat : Buffer → Bool
asks_for_concat b = bit_and b.flags.0 PRODUCE_UNSAFE_TO_CONCAT == PRODUCE_UNSAFE_TO_CONCAT

-- what was looked at in vain marked unsafe to concat, if the buffer asks for that
abbrev pub concat_marked : Reach → Buffer → Buffer
concat_marked r b = if nat_lt r.from r.to && nat_le r.to (length b.items) then unsafe_to_concat r.from r.to b else b

-- more items than the run may have
abbrev pub is_past : Buffer → Bool
is_past b = nat_lt (limit_of b) (length b.items)
