-- Laws of a line's carets.
use Rattle.std.specs.Prelude.{◌≡◌, ◌≢◌, ℕ, ◌<◌, ℤ, List, length}
use Rattle.shape_carets.specs.Carets.{offset_at, x_at}
use Rattle.shape_carets.specs.Laws.{OffsetsRise}
use Rattle.shape_carets.specs.Places.{CaretStandsAt, OffsetIsNearest}
use Rattle.line_carets.specs.LineCarets.{line_carets}
use Rattle.text_lines.specs.declared.lines.TextRun.{TextRun}

-- offsets rise over a line, whatever its runs and glyphs are
abbrev pub OffsetsOfLinesRise : Type 0
OffsetsOfLinesRise = (stops : List ℕ) (runs : List TextRun) (logical : List ℕ) → OffsetsRise (line_carets stops runs logical)

-- a click where a caret stands leads to its offset, if no caret of a later offset stands there
abbrev pub ClicksReturn : Type 0
ClicksReturn = (stops : List ℕ) (runs : List TextRun) (logical : List ℕ) (k offset : ℕ) (x : ℤ) → k < length (line_carets stops runs logical)
    → ((j : ℕ) → k < j → j < length (line_carets stops runs logical)
    → x_at (line_carets stops runs logical) j ≢ x_at (line_carets stops runs logical) k)
    → CaretStandsAt (line_carets stops runs logical) (offset_at (line_carets stops runs logical) k) x
    → OffsetIsNearest (line_carets stops runs logical) x offset
    → offset ≡ offset_at (line_carets stops runs logical) k
