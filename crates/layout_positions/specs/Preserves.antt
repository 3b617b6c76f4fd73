-- What positioning keeps.
use Rattle.std.specs.Prelude.{◌≡◌, length}
use Rattle.shape_items.specs.Buffer.{Buffer}
use Rattle.shape_items.specs.Clusters.{clusters}
use Rattle.shape_items.specs.PreservesFlags.{PreservesFlags}

-- clusters and their number stay, flags are seen, and direction, level and limit stay
pub record Kept (before after : Buffer) : Type 0 where
  pub clusters : clusters after.items ≡ clusters before.items
  pub count : length after.items ≡ length before.items
  pub flags : PreservesFlags before after
  pub direction : after.direction ≡ before.direction
  pub level : after.cluster_level ≡ before.cluster_level
  pub limit : after.length_limit ≡ before.length_limit
