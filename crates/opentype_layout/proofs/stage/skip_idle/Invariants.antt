use Rattle.std.proofs.Common.{◌≡◌, List, length}
use Rattle.shape_items.specs.Items.{Item}
use Rattle.layout_context.specs.Digested.{HoldsGlyphs}
use Rattle.opentype_layout.specs.Stage.{SkipsTo}
use Rattle.opentype_layout.proofs.stage.skip_idle.Given as goal

abbrev pub invariant-loop-next : goal.invariant-loop-next
invariant-loop-next l = (items : List Item) → HoldsGlyphs l.run items → length items ≡ l.count
    → SkipsTo l.stage.tables l.stage.maps.now items l.fn.from (record { next = l.next; left = l.left })
