use Rattle.std.proofs.Common.{◌≡◌, pos, drop}
use Rattle.std.specs.List.{fold}
use Rattle.shape_items.specs.GlyphClusters.{advance_along}
use Rattle.shape_common.specs.Wrapping.{◌+ʷ◌}
use Rattle.shape_items.proofs.clusters.glyph_clusters.advance_over.Given as goal

abbrev pub invariant-loop-position : goal.invariant-loop-position
invariant-loop-position l =
    fold (λ total position. total +ʷ advance_along l.direction position) l.total (drop l.position-index l.positions)
    ≡ fold (λ total position. total +ʷ advance_along l.direction position) (pos 0) l.positions
