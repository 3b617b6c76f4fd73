-- How far lines reach above and below their baseline, in the size of a paragraph.
use Rattle.std.specs.Prelude.{◌≡◌, ℕ, zero, suc, ◌*◌, ◌/◌, ℤ, pos, ◌+ℤ◌, ◌*ℤ◌, List, [], ◌∷◌, map, Option, None, Some, int_lt, slice_index_or, if◌then◌else◌}
use Rattle.std.specs.Int.{int_shr}
use Rattle.text_lines.specs.declared.lines.TextLine.{TextLine}
use Rattle.text_lines.specs.declared.lines.TextRun.{TextRun}

-- a font of a list: the side of its em square, and how far a line in it reaches above its baseline and, as a number that is
-- never positive, below it
pub record FontReach : Type 0 where
  pub units : ℕ
  pub above : ℤ
  pub below : ℤ

abbrev pub no_font : FontReach
no_font = record { units = 0; above = pos 0; below = pos 0 }

-- what numbers of a font are multiplied by, in 2^-16ths: a size over the side of its em square
abbrev pub factor_of : ℕ → ℕ → ℕ
factor_of size zero = 0
factor_of size (suc units) = size * 65536 / suc units

-- a number times a factor, halves upwards
abbrev pub scaled : ℕ → ℤ → ℤ
scaled factor number = int_shr (number *ℤ pos factor +ℤ pos 32768) 16

abbrev pub reach_in : ℕ → FontReach → ℤ × ℤ
reach_in size font =
    (scaled (factor_of size font.units) font.above, scaled (factor_of size font.units) font.below)

-- a size, that of the first font if none is asked for
abbrev pub size_of : Option ℕ → List FontReach → ℕ
size_of None fonts = (slice_index_or fonts 0 no_font).units
size_of (Some size) fonts = size

-- how far the fonts of a list reach in a size
abbrev pub reaches_in : ℕ → List FontReach → List (ℤ × ℤ)
reaches_in size fonts = map (reach_in size) fonts

abbrev pub reach_at : List (ℤ × ℤ) → ℕ → ℤ × ℤ
reach_at reaches font = slice_index_or reaches font (pos 0, pos 0)

-- the most of a number and of what fonts reach above the baseline
abbrev pub highest : List (ℤ × ℤ) → ℤ → List ℕ → ℤ
highest reaches most [] = most
highest reaches most (font ∷ fonts) =
    highest reaches (if int_lt most (reach_at reaches font).0 then (reach_at reaches font).0 else most) fonts

-- the least of a number and of what they reach below it
abbrev pub lowest : List (ℤ × ℤ) → ℤ → List ℕ → ℤ
lowest reaches least [] = least
lowest reaches least (font ∷ fonts) =
    lowest reaches (if int_lt (reach_at reaches font).1 least then (reach_at reaches font).1 else least) fonts

abbrev pub font_of : TextRun → ℕ
font_of run = run.font

-- the ascent of a line is the greatest ascender of the fonts of its runs, and its descent the
-- lowest descender, where these pass the baseline
abbrev pub Reaches : List (ℤ × ℤ) → TextLine → Type 0
Reaches reaches line =
    (line.ascent ≡ highest reaches (pos 0) (map font_of line.runs.items))
    × (line.descent ≡ lowest reaches (pos 0) (map font_of line.runs.items))
