-- What a ligature is charged for the items beside its components whose cluster it merges.
-- A cluster may be as long as the text, and each ligature may take it into another one.
use Rattle.std.specs.Prelude.{ℕ, ◌-◌, ◌*◌}
use Rattle.shape_items.specs.Buffer.{Buffer}
use Rattle.shape_items.specs.Merging.{merged_beside}

-- what an item costs that is merged beside them, since it is written anew
abbrev pub MERGED : ℕ
MERGED = 4

-- so much for each of those; if what is left doesn't suffice, nothing is left
abbrev pub merging_charged : ℕ → ℕ → Buffer → Buffer
merging_charged at last b = record b { max_ops = b.max_ops - merged_beside at last b * MERGED }
