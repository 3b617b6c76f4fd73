-- What the walk of the cutter keeps.
use Rattle.std.specs.Prelude.{◌≡◌, ◌⊎◌, ℕ, ◌-◌, ◌<◌, ◌≤◌, nat_lt, false, ℤ, pos, ◌^◌, ◌+ℤ◌, ◌≤ℤ◌, List, [], ◌∷◌, ◌++◌, length, drop, if◌then◌else◌}
use Rattle.std.specs.Int.{int_min}
use Rattle.shape_items.specs.Buffer.{Buffer}
use Rattle.shape_items.specs.Clusters.{clusters}
use Rattle.shape_lines.specs.Pieces.{is_end, width_between, MayEnd, Fits, AreLines, pieces_of}
use Rattle.shape_lines.specs.Places.{cluster_at}
use Rattle.shape_lines.specs.TextOrder.{falls, text_order}
use Rattle.shape_lines.specs.declared.cutting.Line.{Line}
use Rattle.shape_lines.specs.declared.cutting.Walk.{Walk}
use Rattle.shape_lines.specs.declared.reading.Piece.{Piece}

-- where the text of a place begins: at the cluster of the glyph there, or at the end of all text
abbrev pub text_at : Buffer → ℕ → ℕ → ℕ
text_at b text_end place = if nat_lt place (length b.items) then cluster_at (text_order b) place else text_end

-- the line of the glyphs from a place of the text up to another
abbrev pub line_of : Buffer → ℕ → ℕ → ℕ → Line
line_of b text_end start end = record {
  glyph_start = if falls (clusters b.items) then length b.items - end else start;
  glyph_end = if falls (clusters b.items) then length b.items - start else end;
  text_start = text_at b text_end start;
  text_end = text_at b text_end end;
}

-- the least width from the start of these pieces to a place in them where a line may end, the start among them
abbrev pub least : List Piece → ℤ
least [] = pos 0
least (piece ∷ pieces) = let on = piece.width +ℤ least pieces in if piece.cut then int_min (pos 0) on else on

abbrev pub least_from : List Piece → ℕ → ℤ
least_from pieces place = least (drop place pieces)

-- that of each place, in order
abbrev pub leasts : List Piece → List ℤ
leasts [] = []
leasts (piece ∷ pieces) = least (piece ∷ pieces) ∷ leasts pieces

-- a sum of widths of fewer than 2 ^ 64 pieces
pub record IsSmall (z : ℤ) : Type 0 where
  pub above : pos 0 ≤ℤ (z +ℤ pos (2 ^ 95))
  pub below : z ≤ℤ pos (2 ^ 95)

-- the line was taken up to a place where it may end: a piece from its start to that place or past it fits, or no shorter
-- piece may end
pub record IsTaken (pieces : List Piece) (width : ℤ) (start taken : ℕ) : Type 0 where
  pub may_end : MayEnd pieces start taken
  pub for : ((end : ℕ) × (taken ≤ end) × MayEnd pieces start end × Fits pieces width start end)
      ⊎ ((earlier : ℕ) → earlier < taken → MayEnd pieces start earlier → ⊥)

-- the ends before `seen` were looked at, and the sums go up to `place`: the lines before `start` stand, a line begins
-- there, and was taken up to `taken`, or has met no end yet
pub record IsWalked (pieces : List Piece) (width : ℤ) (cut : ℕ → ℕ → Line) (lines : List Line) (start taken : ℕ) (so_far beyond : ℤ)
    (place seen : ℕ) : Type 0 where
  pub lines_on : (rest : List Line) → AreLines pieces width cut start rest → AreLines pieces width cut 0 (lines ++ rest)
  pub order : start ≤ taken
  pub ahead : taken < seen
  pub near : place ≤ seen
  pub within : taken ≤ place
  pub none_since : (end : ℕ) → taken < end → end < seen → is_end pieces end ≡ false
  pub so_far_is : so_far ≡ width_between pieces start place
  pub beyond_is : beyond ≡ width_between pieces taken place
  pub line : (taken ≡ start) ⊎ IsTaken pieces width start taken

abbrev pub HasWalked : Buffer → ℕ → ℤ → ℕ → ℕ → Walk → Type 0
HasWalked b text_end width place seen walk =
    IsWalked (pieces_of b) width (line_of b text_end) walk.lines.items walk.start walk.taken walk.so_far walk.beyond place seen
