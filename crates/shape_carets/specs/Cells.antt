-- The cells of a text: what stands from the start of a cluster to that of the next.
use Rattle.std.specs.Prelude.{ℕ, ℤ, pos, ◌&&◌, ◌<◌, Bool, nat_lt, List, [], ◌∷◌, if◌then◌else◌}
use Rattle.shape_common.specs.Wrapping.{◌+ʷ◌, neg_w}
use Rattle.shape_items.specs.declared.clusters.glyph_clusters.GlyphCluster.{GlyphCluster}
use Rattle.shape_carets.specs.declared.cells.Cell.{Cell}

abbrev pub cell : ℕ → ℤ → Cell
cell offset advance = record { offset = offset; advance = advance }

-- how far an advance moves the caret: back, if the text runs backward
abbrev pub move_of : Bool → ℤ → ℤ
move_of backward advance = if backward then neg_w advance else advance

-- A cluster begins a cell if it is past the one before and before the end of the text. What another's glyphs take belongs
-- to the cell before: so cells rise whatever the clusters are.
abbrev pub cells_after : Bool → ℕ → ℕ → ℤ → List GlyphCluster → List Cell
cells_after backward text_end offset advance [] = cell offset advance ∷ []
cells_after backward text_end offset advance (c ∷ clusters) =
    if nat_lt offset c.cluster && nat_lt c.cluster text_end
    then cell offset advance ∷ cells_after backward text_end c.cluster (move_of backward c.advance) clusters
    else cells_after backward text_end offset (advance +ʷ move_of backward c.advance) clusters

-- the cells of the text from an offset up to another: the first begins with the text, and none is in no text
abbrev pub cells_of : Bool → ℕ → ℕ → List GlyphCluster → List Cell
cells_of backward text_start text_end clusters =
    if nat_lt text_start text_end then cells_after backward text_end text_start (pos 0) clusters else []

-- where the text after some cells begins: with the next one, or at the end
abbrev pub start_of : ℕ → List Cell → ℕ
start_of text_end [] = text_end
start_of text_end (c ∷ cells) = c.offset

-- each cell begins before the next, and the last before the end of the text
abbrev pub Rises : ℕ → List Cell → Type 0
Rises text_end [] = Unit {0}
Rises text_end (c ∷ cells) = (c.offset < start_of text_end cells) × Rises text_end cells
