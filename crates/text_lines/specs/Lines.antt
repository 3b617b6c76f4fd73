-- A text in lines, and a line in runs.
use Rattle.std.specs.Prelude.{◌≡◌, ℕ, ◌+◌, ◌%◌, ◌==◌, ◌<◌, ◌≤◌, nat_le, ℤ, pos, ◌+ℤ◌, ◌-ℤ◌, Bool, true, List, [], ◌∷◌, map, length, slice_index_or}
use Rattle.std.specs.Prelude.{if◌then◌else◌}
use Rattle.bidi.specs.Lines.{visual_order, visual_places}
use Rattle.line_breaks.specs.Breaks.{AreLineBreaks}
use Rattle.line_breaks.specs.declared.breaking.LineBreaks.{LineBreaks}
use Rattle.shape_items.specs.Buffer.{Buffer}
use Rattle.shape_lines.specs.LinesAt.{AreLinesAt}
use Rattle.shape_lines.specs.declared.allowed.LineAt.{LineAt}
use Rattle.text_lines.specs.declared.lines.Glyph.{Glyph}
use Rattle.text_lines.specs.declared.lines.TextLine.{TextLine}
use Rattle.text_lines.specs.declared.lines.TextRun.{TextRun}

-- a part of a line: its text and its level
pub record Shown : Type 0 where
  pub start : ℕ
  pub end : ℕ
  pub level : ℕ

abbrev pub level_of : Shown → ℕ
level_of part = part.level

abbrev pub nothing : Shown
nothing = record { start = 0; end = 0; level = 0 }

-- parts in the order of the text, from one place up to another: each begins where the one before it ends
abbrev pub AreParts : ℕ → ℕ → List Shown → Type 0
AreParts start end [] = start ≡ end
AreParts start end (part ∷ parts) = (part.start ≡ start) × (start ≤ part.end) × AreParts part.end end parts

-- L2: parts from left to right, by their levels
abbrev pub in_order : List Shown → List Shown
in_order parts = map (λ k. slice_index_or parts k nothing) (visual_order (map level_of parts))

abbrev pub run_shown : TextRun → Shown
run_shown run = record { start = run.start; end = run.end; level = run.level }

-- the runs of a line are its parts from left to right, and `logical` has where each stands in the order of the text
pub record IsInOrder (line : TextLine) : Type 0 where
  pub parts : List Shown
  pub follow : AreParts line.start line.end parts
  pub runs : map run_shown line.runs.items ≡ in_order parts
  pub logical : line.logical.items ≡ visual_places (visual_order (map level_of parts))

abbrev pub is_backward : ℕ → Bool
is_backward level = level % 2 == 1

-- Glyphs from left to right lead to the text from one place up to another, in its order: from left to right or, if it runs
-- backward, from right to left.
abbrev pub Lead : Bool → ℕ → ℕ → List Glyph → Type 0
Lead backward start end [] = Unit {0}
Lead backward start end (glyph ∷ glyphs) =
    (start ≤ glyph.cluster) × (glyph.cluster < end)
    × Lead backward (if backward then start else glyph.cluster) (if backward then glyph.cluster + 1 else end) glyphs

-- the glyphs of a run lead back to its text
abbrev pub LeadsBack : TextRun → Type 0
LeadsBack run = Lead (is_backward run.level) run.start run.end run.glyphs.items

-- where the pen stands after the glyphs whose text begins at an offset or after it
abbrev pub pen_after : ℕ → ℤ → List Glyph → ℤ
pen_after from x [] = x
pen_after from x (glyph ∷ glyphs) = pen_after from (if nat_le from glyph.cluster then x +ℤ glyph.x_advance else x) glyphs

abbrev pub pen_after_runs : ℕ → ℤ → List TextRun → ℤ
pen_after_runs from x [] = x
pen_after_runs from x (run ∷ runs) = pen_after_runs from (pen_after from x run.glyphs.items) runs

-- runs from left to right lead back to their text, and each begins where the pen stands after those before it
abbrev pub Follow : ℤ → ℤ → List TextRun → Type 0
Follow x end [] = x ≡ end
Follow x end (run ∷ runs) = (run.x ≡ x) × LeadsBack run × Follow (pen_after 0 x run.glyphs.items) end runs

-- a line from right to left begins as far before its left edge as the spaces reach that stand last in it
abbrev pub left_of : ℕ → ℤ → ℤ
left_of level hanging = if is_backward level then pos 0 -ℤ hanging else pos 0

-- the width of a line is that of its runs but for the glyphs of the text from `hang` on: the spaces that stand last in it
pub record IsMeasured (line : TextLine) : Type 0 where
  pub whole : ℤ
  pub hang : ℕ
  pub follow : Follow (pos 0) whole line.runs.items
  pub width : line.width ≡ whole -ℤ pen_after_runs hang (pos 0) line.runs.items
  pub left : line.left ≡ left_of line.level (pen_after_runs hang (pos 0) line.runs.items)

-- lines in the order of the text, from one place up to another: each begins where the one before it ends
abbrev pub AreLines : ℕ → ℕ → List TextLine → Type 0
AreLines start end [] = start ≡ end
AreLines start end (line ∷ lines) =
    (line.start ≡ start) × (start ≤ line.end) × IsInOrder line × IsMeasured line × AreLines line.end end lines

-- the text of a line
abbrev pub line_text : TextLine → ℕ × ℕ
line_text line = (line.start, line.end)

abbrev pub cut_text : LineAt → ℕ × ℕ
cut_text at = (at.line.text_start, at.line.text_end)

-- lines end where the glyphs of a text let them: at the places of UAX 14 each is the longest that is at most this wide
pub record AreCutBy (text : List ℕ) (width : ℕ) (lines : List TextLine) : Type 0 where
  pub glyphs : Buffer
  pub breaks : LineBreaks
  pub spaces : List ℕ
  pub cut : List LineAt
  pub breaks_of : AreLineBreaks text breaks
  pub lines_at : AreLinesAt glyphs (length text) breaks.allowed.items breaks.mandatory.items spaces true (pos width) cut
  pub texts : map line_text lines ≡ map cut_text cut
