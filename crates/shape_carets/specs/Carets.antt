-- The carets of a text, each with its place on the line.
use Rattle.std.specs.Prelude.{ℕ, ◌+◌, ◌&&◌, Bool, nat_lt, ℤ, pos, int_div, List, [], ◌∷◌, ◌++◌, length, fold, slice_index_or, if◌then◌else◌}
use Rattle.std.specs.List.{filter}
use Rattle.shape_common.specs.Wrapping.{◌+ʷ◌, neg_w}
use Rattle.shape_items.specs.declared.clusters.glyph_clusters.GlyphCluster.{GlyphCluster}
use Rattle.shape_carets.specs.Cells.{cells_of, start_of}
use Rattle.shape_carets.specs.declared.caret.Caret.{Caret}
use Rattle.shape_carets.specs.declared.cells.Cell.{Cell}

abbrev pub caret : ℕ → ℤ → Caret
caret offset x = record { offset = offset; x = x }

-- where the first caret stands: where the glyphs begin; if the text runs backward where they end, since moves are negative
abbrev pub origin_of : Bool → List Cell → ℤ
origin_of backward cells =
    if backward then neg_w (fold (λ total (c : Cell). total +ʷ c.advance) (pos 0) cells) else pos 0

-- a stop inside a cell of the text from an offset up to another
abbrev pub is_inside : ℕ → ℕ → ℕ → Bool
is_inside start end stop = nat_lt start stop && nat_lt stop end

-- the carets at stops, each a step from the one before
abbrev pub spread : ℤ → ℤ → List ℕ → List Caret
spread x step [] = []
spread x step (stop ∷ stops) = caret stop (x +ʷ step) ∷ spread (x +ʷ step) step stops

-- the carets of a cell, whose stops divide its advance into equal parts, towards zero
abbrev pub cell_carets : Cell → ℤ → List ℕ → List Caret
cell_carets c x inside = caret c.offset x ∷ spread x (int_div c.advance (pos (length inside + 1))) inside

-- the carets of cells, the first of them at x, and the one after the text
abbrev pub carets_from : ℕ → List ℕ → ℤ → List Cell → List Caret
carets_from text_end stops x [] = caret text_end x ∷ []
carets_from text_end stops x (c ∷ cells) =
    cell_carets c x (filter (is_inside c.offset (start_of text_end cells)) stops) ++ carets_from text_end stops (x +ʷ c.advance) cells

-- the carets of the text from an offset up to another
abbrev pub carets_of : Bool → ℕ → ℕ → List ℕ → List GlyphCluster → List Caret
carets_of backward text_start text_end stops clusters =
    let cells = cells_of backward text_start text_end clusters in carets_from text_end stops (origin_of backward cells) cells

-- the caret at a place, 0 at 0 past the end
abbrev pub offset_at : List Caret → ℕ → ℕ
offset_at carets k = (slice_index_or carets k (caret 0 (pos 0))).offset

abbrev pub x_at : List Caret → ℕ → ℤ
x_at carets k = (slice_index_or carets k (caret 0 (pos 0))).x
