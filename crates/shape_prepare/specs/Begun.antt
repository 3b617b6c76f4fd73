-- How a run begins.
use Rattle.std.specs.Prelude.{ℕ, map, length, replicate}
use Rattle.shape_items.specs.Buffer.{Buffer}
use Rattle.shape_items.specs.Flags.{with_mask}
use Rattle.shape_common.specs.Positions.{zero_position}

-- every mask is the global one, and every position moves nothing
unfoldable pub begun : ℕ → Buffer → Buffer
begun global_mask b = record b {
  items = map (with_mask global_mask) b.items;
  positions = replicate (length b.items) zero_position;
}
