-- Clusters and flags of a buffer.
use Rattle.std.specs.Prelude.{ℕ, ◌+◌, ◌==◌, nat_lt, if◌then◌else◌, slice_range}
use Rattle.std.specs.Int.RustNames.{bit_and, bit_or}
use Rattle.shape_items.specs.Clusters.{merge, least_cluster, map_range, mark_break, mark_concat, mark_tatweel}
use Rattle.shape_items.specs.Buffer.{Buffer}
use Rattle.shape_common.specs.declared.text_types.BufferClusterLevel.TheVariants.{MonotoneGraphemes, MonotoneCharacters, Characters}
use Rattle.shape_common.specs.FlagNames.{PRODUCE_UNSAFE_TO_CONCAT, PRODUCE_SAFE_TO_INSERT_TATWEEL, HAS_GLYPH_FLAGS}

-- the buffer with the scratch flag HAS_GLYPH_FLAGS set
abbrev pub with_glyph_flags : Buffer → Buffer
with_glyph_flags b = record b { scratch_flags = record { 0 = bit_or b.scratch_flags.0 HAS_GLYPH_FLAGS } }

-- the span from `start` up to `end` marked unsafe to break, except for the items of its least cluster; a span of fewer
-- than two items changes nothing
abbrev pub unsafe_to_break : ℕ → ℕ → Buffer → Buffer
unsafe_to_break start end b =
    if nat_lt (start + 1) end then
    record (with_glyph_flags b) {
      items = map_range (mark_break (least_cluster (slice_range b.items start end))) start end b.items;
    }
    else b

-- the span marked safe to insert tatweel, except for the items of its least cluster; a span of fewer than two items
-- changes nothing
abbrev pub tatweel_marked : ℕ → ℕ → Buffer → Buffer
tatweel_marked start end b =
    if nat_lt (start + 1) end then
    record (with_glyph_flags b) {
      items = map_range (mark_tatweel (least_cluster (slice_range b.items start end))) start end b.items;
    }
    else b

-- the span marked so if the buffer's flags ask for that, else unsafe to break
abbrev pub safe_to_insert_tatweel : ℕ → ℕ → Buffer → Buffer
safe_to_insert_tatweel start end b =
    if bit_and b.flags.0 PRODUCE_SAFE_TO_INSERT_TATWEEL == PRODUCE_SAFE_TO_INSERT_TATWEEL
    then tatweel_marked start end b
    else unsafe_to_break start end b

-- the span marked unsafe to concat, if the buffer's flags ask for that
abbrev pub unsafe_to_concat : ℕ → ℕ → Buffer → Buffer
unsafe_to_concat start end b =
    if bit_and b.flags.0 PRODUCE_UNSAFE_TO_CONCAT == PRODUCE_UNSAFE_TO_CONCAT
    then record (with_glyph_flags b) { items = map_range mark_concat start end b.items }
    else b

abbrev pub merge_at : ℕ → ℕ → Buffer → Buffer
merge_at start end b = record b { items = merge start end b.items }

-- the span merged at the monotone levels, marked unsafe to break at level CHARACTERS
abbrev pub merge_clusters : ℕ → ℕ → Buffer → Buffer
merge_clusters start end b = elim b.cluster_level [
  | MonotoneGraphemes ↦ merge_at start end b
  | MonotoneCharacters ↦ merge_at start end b
  | Characters ↦ unsafe_to_break start end b
]

-- the span merged at the monotone levels alone
abbrev pub merge_out_clusters : ℕ → ℕ → Buffer → Buffer
merge_out_clusters start end b = elim b.cluster_level [
  | MonotoneGraphemes ↦ merge_at start end b
  | MonotoneCharacters ↦ merge_at start end b
  | Characters ↦ b
]
