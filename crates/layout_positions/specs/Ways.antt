-- How far the pen moves over glyphs of a buffer.
use Rattle.std.specs.Prelude.{◌≡◌, ℕ, pos, ◌+◌, min, fold, length, nat_lt, slice_range, if◌then◌else◌}
use Rattle.shape_common.specs.Direction.{is_forward}
use Rattle.shape_common.specs.Wrapping.{◌+ʷ◌}
use Rattle.shape_common.specs.declared.positions.GlyphPosition.{GlyphPosition}
use Rattle.shape_items.specs.Buffer.{Buffer}
use Rattle.layout_positions.specs.declared.ways.Measured.{Measured}
use Rattle.layout_positions.specs.declared.ways.Pen.{Pen}

-- over the glyphs from one place up to another
abbrev pub pen_on : Pen → GlyphPosition → Pen
pen_on pen p = record { x = pen.x +ʷ p.x_advance; y = pen.y +ʷ p.y_advance }

abbrev pub no_way : Pen
no_way = record { x = pos 0; y = pos 0 }

abbrev pub way : Buffer → ℕ → ℕ → Pen
way b from to = let end = min to (length b.items) in
    (if nat_lt from end then fold pen_on no_way (slice_range b.positions from end) else no_way)

-- between a glyph at place `j` and a mark at place `i` the pen goes over the glyph and what follows it; in backward text over
-- what follows it and the mark
abbrev pub way_between : Buffer → ℕ → ℕ → Pen
way_between b i j = if is_forward b.direction then way b j i else way b (j + 1) (i + 1)

-- a way that was measured before
pub record IsMeasured (b : Buffer) (w : Measured) : Type 0 where
  pub pen : w.pen ≡ way b w.from w.to
