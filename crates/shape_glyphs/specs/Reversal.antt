-- The order in which glyphs are handed out.
use Rattle.std.specs.Prelude.{reverse, if◌then◌else◌}
use Rattle.shape_items.specs.Buffer.{Buffer}
use Rattle.shape_common.specs.Direction.{is_backward}

-- glyphs and positions in the other order, if the text runs to the left or to the top
unfoldable pub reversed : Buffer → Buffer
reversed b =
    if is_backward b.direction then record b { items = reverse b.items; positions = reverse b.positions } else b
