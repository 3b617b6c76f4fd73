-- Lines and their runs in small cases, by hand.
use Rattle.std.specs.Prelude.{◌≡◌, ℕ, true, false, ℤ, pos, negsuc, List, [], ◌∷◌, None, Some, map}
use Rattle.text_lines.specs.Lines.{Shown, AreParts, AreLines, Lead, in_order, left_of, pen_after}
use Rattle.text_lines.specs.Reach.{FontReach, Reaches, factor_of, font_of, highest, lowest, reach_at, reach_in, reaches_in, scaled, size_of}
use Rattle.text_lines.specs.declared.lines.Glyph.{Glyph}
use Rattle.text_lines.specs.declared.lines.TextLine.{TextLine}

abbrev pub part : ℕ → ℕ → ℕ → Shown
part start end level = record { start = start; end = end; level = level }

-- a glyph of the text from a place on, so wide
abbrev pub wide : ℕ → ℤ → Glyph
wide cluster advance =
    record { glyph = 7; cluster = cluster; x_advance = advance; y_advance = pos 0; x_offset = pos 99; y_offset = pos 0 }

abbrev pub at : ℕ → Glyph
at cluster = wide cluster (pos 10)

pub record WorkedParts : Type 0 where
  pub two : AreParts 2 9 (part 2 4 0 ∷ part 4 9 1 ∷ [])
  pub none : AreParts 2 2 []
  pub gap : AreParts 2 9 (part 2 4 0 ∷ part 5 9 1 ∷ []) → ⊥
  pub overlap : AreParts 2 9 (part 2 4 0 ∷ part 3 9 1 ∷ []) → ⊥
  pub too_short : AreParts 2 9 (part 2 4 0 ∷ []) → ⊥
  pub no_lines : AreLines 3 3 []
  pub lines_missing : AreLines 3 4 [] → ⊥

pub record WorkedOrder : Type 0 where
  -- from left to right a number after Hebrew stands at its left
  pub number : in_order (part 0 3 0 ∷ part 3 8 1 ∷ part 8 10 2 ∷ []) ≡ part 0 3 0 ∷ part 8 10 2 ∷ part 3 8 1 ∷ []
  -- from right to left a Latin word after Hebrew stands at its left
  pub word : in_order (part 0 3 1 ∷ part 3 5 2 ∷ []) ≡ part 3 5 2 ∷ part 0 3 1 ∷ []
  pub forward : in_order (part 0 3 0 ∷ part 3 5 0 ∷ []) ≡ part 0 3 0 ∷ part 3 5 0 ∷ []
  pub none : in_order [] ≡ []

pub record WorkedLeads : Type 0 where
  -- from left to right clusters never fall, from right to left they never rise
  pub forward : Lead false 2 6 (at 2 ∷ at 2 ∷ at 5 ∷ [])
  pub backward : Lead true 2 6 (at 5 ∷ at 2 ∷ at 2 ∷ [])
  pub none : Lead false 2 2 []
  pub not_back : Lead false 2 6 (at 5 ∷ at 2 ∷ []) → ⊥
  pub not_forward : Lead true 2 6 (at 2 ∷ at 5 ∷ []) → ⊥
  pub not_before : Lead false 2 6 (at 1 ∷ []) → ⊥
  pub not_past : Lead false 2 6 (at 6 ∷ []) → ⊥
  pub not_past_backward : Lead true 2 6 (at 6 ∷ []) → ⊥

pub record WorkedPens : Type 0 where
  pub all : pen_after 0 (pos 5) (wide 0 (pos 10) ∷ wide 3 (negsuc 1) ∷ []) ≡ pos 13
  pub from_three : pen_after 3 (pos 0) (wide 0 (pos 10) ∷ wide 3 (pos 7) ∷ wide 4 (pos 1) ∷ []) ≡ pos 8
  pub none : pen_after 0 (negsuc 4) [] ≡ negsuc 4
  pub left_to_right : left_of 0 (pos 10) ≡ pos 0
  pub right_to_left : left_of 1 (pos 10) ≡ negsuc 9
  pub right_to_left_inside : left_of 2 (pos 10) ≡ pos 0

-- a font of 100 units that reaches 80 above and 20 below, and one of 50 that reaches 45 and 5
abbrev pub two_fonts : List FontReach
two_fonts = record { units = 100; above = pos 80; below = negsuc 19 } ∷ record { units = 50; above = pos 45; below = negsuc 4 } ∷ []

pub record WorkedReach : Type 0 where
  -- twice as large, and a third as large: 10 * 21845 / 2^16 is 3.33, 5 * 21845 / 2^16 is 1.67
  pub twice : factor_of 100 50 ≡ 131072
  pub a_third : factor_of 1 3 ≡ 21845
  pub no_square : factor_of 7 0 ≡ 0
  pub doubled : scaled 131072 (negsuc 19) ≡ negsuc 39
  pub nearest_below : scaled 21845 (pos 10) ≡ pos 3
  pub nearest_above : scaled 21845 (pos 5) ≡ pos 2
  -- halves upwards
  pub half : scaled 32768 (pos 3) ≡ pos 2
  pub minus_half : scaled 32768 (negsuc 2) ≡ negsuc 0
  pub first : size_of None two_fonts ≡ 100
  pub asked : size_of (Some 7) two_fonts ≡ 7
  pub no_first : size_of None [] ≡ 0
  pub in_size : reaches_in 100 two_fonts ≡ (pos 80, negsuc 19) ∷ (pos 90, negsuc 9) ∷ []
  pub above : highest (reaches_in 100 two_fonts) (pos 0) (0 ∷ 1 ∷ 0 ∷ []) ≡ pos 90
  pub below : lowest (reaches_in 100 two_fonts) (pos 0) (1 ∷ 0 ∷ 1 ∷ []) ≡ negsuc 19
  pub second_alone : lowest (reaches_in 100 two_fonts) (pos 0) (1 ∷ []) ≡ negsuc 9
  pub no_such_font : highest (reaches_in 100 two_fonts) (pos 0) (2 ∷ []) ≡ pos 0
  -- the second font in a size of 100, and as it is
  pub twice_as_large : reach_in 100 (record { units = 50; above = pos 45; below = negsuc 4 }) ≡ (pos 90, negsuc 9)
  pub as_it_is : reach_in 50 (record { units = 50; above = pos 45; below = negsuc 4 }) ≡ (pos 45, negsuc 4)
  pub of_second : reach_at ((pos 80, negsuc 19) ∷ (pos 90, negsuc 9) ∷ []) 1 ≡ (pos 90, negsuc 9)
  pub of_none : reach_at ((pos 80, negsuc 19) ∷ []) 1 ≡ (pos 0, pos 0)
  -- a line in both fonts is as high as the second lets it be, and as deep as the first
  pub of_both : (line : TextLine) → map font_of line.runs.items ≡ 0 ∷ 1 ∷ [] → line.ascent ≡ pos 90 → line.descent ≡ negsuc 19
      → Reaches (reaches_in 100 two_fonts) line
  pub no_higher : (line : TextLine) → map font_of line.runs.items ≡ 0 ∷ 1 ∷ [] → line.ascent ≡ pos 91
      → Reaches (reaches_in 100 two_fonts) line → ⊥
  pub no_deeper : (line : TextLine) → map font_of line.runs.items ≡ 0 ∷ 1 ∷ [] → line.descent ≡ negsuc 20
      → Reaches (reaches_in 100 two_fonts) line → ⊥
