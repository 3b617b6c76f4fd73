-- What the cutter goes over: the glyphs in the order of their text, each with its width and whether a line may end
-- before it.
use Rattle.std.specs.Prelude.{◌≡◌, ◌⊎◌, ℕ, zero, suc, ◌^◌, ◌<◌, ◌≤◌, ◌==◌, ◌&&◌, not, Bool, true, ℤ, pos, ◌+ℤ◌, ◌≤ℤ◌, ◌<ℤ◌, List, [], ◌∷◌, length, slice_range}
use Rattle.std.specs.List.{AllByRecursion}
use Rattle.shape_items.specs.Buffer.{Buffer}
use Rattle.shape_lines.specs.Places.{cluster_at}
use Rattle.shape_lines.specs.TextOrder.{Glyph, text_order}
use Rattle.shape_lines.specs.declared.cutting.Line.{Line}
use Rattle.shape_lines.specs.declared.reading.Piece.{Piece}

-- a glyph after one of this cluster: the text may be cut before it if its own is another and it lacks UNSAFE_TO_BREAK
abbrev pub piece_after : ℕ → Glyph → Piece
piece_after before glyph = record { width = glyph.width; cut = not (glyph.cluster == before) && glyph.lacks_break }

abbrev pub pieces_after : ℕ → List Glyph → List Piece
pieces_after before [] = []
pieces_after before (glyph ∷ glyphs) = piece_after before glyph ∷ pieces_after glyph.cluster glyphs

abbrev pub pieces_from : List Glyph → List Piece
pieces_from glyphs = pieces_after (cluster_at glyphs 0) glyphs

abbrev pub pieces_of : Buffer → List Piece
pieces_of b = pieces_from (text_order b)

-- a line may end before this piece, or at the end of the text
abbrev pub is_end : List Piece → ℕ → Bool
is_end [] place = true
is_end (piece ∷ pieces) zero = piece.cut
is_end (piece ∷ pieces) (suc place) = is_end pieces place

-- the exact sum of the widths
abbrev pub total : List Piece → ℤ
total [] = pos 0
total (piece ∷ pieces) = piece.width +ℤ total pieces

-- how wide the pieces from one place up to another are
abbrev pub width_between : List Piece → ℕ → ℕ → ℤ
width_between pieces start end = total (slice_range pieces start end)

-- a place after the start where a line may end
pub record MayEnd (pieces : List Piece) (start end : ℕ) : Type 0 where
  pub after : start < end
  pub within : end ≤ length pieces
  pub is : is_end pieces end ≡ true

abbrev pub Fits : List Piece → ℤ → ℕ → ℕ → Type 0
Fits pieces width start end = width_between pieces start end ≤ℤ width

-- the longest piece from its start that fits
pub record IsLongestThatFits (pieces : List Piece) (width : ℤ) (start end : ℕ) : Type 0 where
  pub may_end : MayEnd pieces start end
  pub fits : Fits pieces width start end
  pub none_longer : (later : ℕ) → end < later → MayEnd pieces start later → width <ℤ width_between pieces start later

-- if none fits, the shortest one
pub record IsShortest (pieces : List Piece) (width : ℤ) (start end : ℕ) : Type 0 where
  pub may_end : MayEnd pieces start end
  pub none_fits : (other : ℕ) → MayEnd pieces start other → width <ℤ width_between pieces start other
  pub none_shorter : (earlier : ℕ) → earlier < end → MayEnd pieces start earlier → ⊥

abbrev pub IsLineEnd : List Piece → ℤ → ℕ → ℕ → Type 0
IsLineEnd pieces width start end = IsLongestThatFits pieces width start end ⊎ IsShortest pieces width start end

-- the lines from a start on, the last one up to the end of the text; `line_of` makes the line of a start and an end
abbrev pub AreLines : List Piece → ℤ → (ℕ → ℕ → Line) → ℕ → List Line → Type 0
AreLines pieces width line_of start [] = start ≡ length pieces
AreLines pieces width line_of start (line ∷ lines) =
    (end : ℕ) × IsLineEnd pieces width start end × (line ≡ line_of start end) × AreLines pieces width line_of end lines

-- a width is that of a glyph: an advance of 32 bits, or its negative
pub record IsNarrow (width : ℤ) : Type 0 where
  pub above : pos 0 ≤ℤ (width +ℤ pos 2147483648)
  pub below : width ≤ℤ pos 2147483648

abbrev pub AreNarrow : List Piece → Type 0
AreNarrow pieces = AllByRecursion (λ piece. IsNarrow piece.width) pieces

-- sums of widths stay far below 2 ^ 127: there are few enough, each narrow
pub record AreSummable (b : Buffer) : Type 0 where
  pub few : length b.items < 2 ^ 64
  pub narrow : AreNarrow (pieces_of b)
