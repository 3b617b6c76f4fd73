-- Steps that go over the items one by one.
use Rattle.std.specs.Prelude.{map}
use Rattle.shape_items.specs.Buffer.{Buffer}
use Rattle.shape_items.specs.Items.{Item}

-- in place of each item what a function makes of it
unfoldable pub items_mapped : (Item → Item) → Buffer → Buffer
items_mapped f b = record b { items = map f b.items }
