-- Lines of a shaped text: each the longest piece from its start that fits, and if none fits the shortest one.
use Rattle.std.specs.Prelude.{◌≡◌, ◌⊎◌, ℕ, ◌-◌, ◌<◌, ◌≤◌, ℤ, pos, ◌+ℤ◌, ◌≤ℤ◌, ◌<ℤ◌, List, [], ◌∷◌, length, slice_range, if◌then◌else◌}
use Rattle.shape_items.specs.Buffer.{Buffer}
use Rattle.shape_items.specs.Clusters.{clusters}
use Rattle.shape_lines.specs.Places.{cluster_at, IsPlaceOfCut}
use Rattle.shape_lines.specs.TextOrder.{Glyph, falls, text_order}
use Rattle.shape_lines.specs.declared.cutting.Line.{Line}

-- a line that begins at a place may end there: at a place of a cut after it, or at the end of the text
pub record MayEndAt (glyphs : List Glyph) (start end : ℕ) : Type 0 where
  pub after : start < end
  pub is : (end ≡ length glyphs) ⊎ IsPlaceOfCut glyphs end

-- the exact sum of the widths
abbrev pub total_width : List Glyph → ℤ
total_width [] = pos 0
total_width (glyph ∷ glyphs) = glyph.width +ℤ total_width glyphs

-- how wide the glyphs from a place up to another are
abbrev pub width_from : List Glyph → ℕ → ℕ → ℤ
width_from glyphs start end = total_width (slice_range glyphs start end)

-- the longest piece from its start that fits
pub record IsLongest (glyphs : List Glyph) (width : ℤ) (start end : ℕ) : Type 0 where
  pub may_end : MayEndAt glyphs start end
  pub fits : width_from glyphs start end ≤ℤ width
  pub none_longer : (later : ℕ) → end < later → MayEndAt glyphs start later → width <ℤ width_from glyphs start later

-- the shortest piece, if none fits
pub record IsShortestAsNoneFits (glyphs : List Glyph) (width : ℤ) (start end : ℕ) : Type 0 where
  pub may_end : MayEndAt glyphs start end
  pub none_fits : (other : ℕ) → MayEndAt glyphs start other → width <ℤ width_from glyphs start other
  pub none_shorter : (earlier : ℕ) → earlier < end → MayEndAt glyphs start earlier → ⊥

-- the least cluster of the glyphs from a place up to another
pub record IsLeastCluster (glyphs : List Glyph) (start end least : ℕ) : Type 0 where
  pub is_one : (k : ℕ) × (start ≤ k) × (k < end) × (cluster_at glyphs k ≡ least)
  pub none_less : (k : ℕ) → start ≤ k → k < end → least ≤ cluster_at glyphs k

-- where a line begins and where it ends in the order of the text: from the end of the list if clusters fall
abbrev pub first_place : Buffer → Line → ℕ
first_place b line = if falls (clusters b.items) then length b.items - line.glyph_end else line.glyph_start

abbrev pub end_place : Buffer → Line → ℕ
end_place b line = if falls (clusters b.items) then length b.items - line.glyph_start else line.glyph_end

-- a line that begins at a place of the text
pub record IsRightLine (b : Buffer) (width : ℤ) (start : ℕ) (line : Line) : Type 0 where
  pub within : line.glyph_end ≤ length b.items
  pub begins : first_place b line ≡ start
  pub ends : IsLongest (text_order b) width start (end_place b line) ⊎ IsShortestAsNoneFits (text_order b) width start (end_place b line)
  pub text_start : IsLeastCluster (text_order b) start (end_place b line) line.text_start

-- where the text of the next line begins, or all text ends
abbrev pub next_text : ℕ → List Line → ℕ
next_text text_end [] = text_end
next_text text_end (line ∷ lines) = line.text_start

-- the lines from a place of the text on: each begins where the one before it ends, and the last one ends with the text
abbrev pub AreRightFrom : Buffer → ℕ → ℤ → ℕ → List Line → Type 0
AreRightFrom b text_end width start [] = start ≡ length b.items
AreRightFrom b text_end width start (line ∷ lines) =
    IsRightLine b width start line × (line.text_end ≡ next_text text_end lines) × AreRightFrom b text_end width (end_place b line) lines

-- Right lines: the lines of a text that ends at `text_end`, at most this wide as far as they can be, in the order of
-- the text
abbrev pub AreRightLines : Buffer → ℕ → ℤ → List Line → Type 0
AreRightLines b text_end width lines = AreRightFrom b text_end width 0 lines
