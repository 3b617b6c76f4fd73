-- `COLR` on bytes that were read by hand.
use Rattle.std.specs.Prelude.{◌≡◌, ℕ, ℤ, pos, negsuc, List, [], ◌∷◌, ◌++◌, Some, None, true, false, refl}
use Rattle.std.specs.Float.{round_with}
use Rattle.std.specs.Int.{int_wrap}
use lib.Count.{count_trailing_zeros}
use lib.Ieee.{round, size, span, climb, units, odd, of_bits, of_fields, of_int, div, mul, add, sub, sum, eq, lt, to_signed}
use Rattle.font_bytes.specs.Bytes as numbers
use Rattle.font_sizes.specs.Scales.{scale_of, real_factor}
use Rattle.font_sizes.specs.Factors.{quotient}
use Rattle.font_variations.specs.Deltas.{delta_of, part_of, delta_in, rounded}
use Rattle.font_variations.specs.Regions.{axis_scalar, region_scalar}
use Rattle.font_variations.specs.Tents.{ratio, tent}
use Rattle.font_variations.specs.Worked.Deltas.{store, there}
use Rattle.shape_common.specs.Wrapping.{◌+ʷ◌, ◌-ʷ◌}
use Rattle.shape_common.specs.declared.face.hb_glyph_extents_t.{hb_glyph_extents_t}
use Rattle.shape_font.specs.Bytes.{i16_of}
use Rattle.shape_font.specs.Colors.{coloring_of, layer_glyph, no_box}
use Rattle.shape_font.specs.Layers.{corners, with_layer, covered, whole_box}
use Rattle.shape_font.specs.PlacesAt.{widened}
use Rattle.shape_font.specs.declared.colors.Coloring.TheVariants.{Plain, Clipped, Layered, Painted}

abbrev box : ℤ → ℤ → ℤ → ℤ → hb_glyph_extents_t
box x y width height = record { x_bearing = x; y_bearing = y; width = width; height = height }

-- version 0: glyph 3 has layers 0 and 1, glyph 5 layer 2 and one that isn't there, glyph 7 none; the layers are glyphs 8, 9 and 300
abbrev bases : List ℕ
bases = 0 ∷ 3 ∷ 0 ∷ 0 ∷ 0 ∷ 2 ∷ 0 ∷ 5 ∷ 0 ∷ 2 ∷ 0 ∷ 2 ∷ 0 ∷ 7 ∷ 0 ∷ 9 ∷ 0 ∷ 1 ∷ []

abbrev layers : List ℕ
layers = 0 ∷ 8 ∷ 0 ∷ 0 ∷ 0 ∷ 9 ∷ 0 ∷ 1 ∷ 1 ∷ 44 ∷ 0xFF ∷ 0xFF ∷ []

abbrev plain : List ℕ
plain = 0 ∷ 0 ∷ 0 ∷ 3 ∷ 0 ∷ 0 ∷ 0 ∷ 14 ∷ 0 ∷ 0 ∷ 0 ∷ 32 ∷ 0 ∷ 3 ∷ (bases ++ layers)

-- version 1: the same, from 34 on; glyph 6 is a graph of paints, and glyph 3, too; a list of clips at 80, a store at 135
abbrev head : ℕ → ℕ → List ℕ
head version clips = 0 ∷ version ∷ 0 ∷ 3 ∷ 0 ∷ 0 ∷ 0 ∷ 34 ∷ 0 ∷ 0 ∷ 0 ∷ 52 ∷ 0 ∷ 3 ∷ 0 ∷ 0 ∷ 0 ∷ 64 ∷ 0 ∷ 0 ∷ 0 ∷ 0
    ∷ 0 ∷ 0 ∷ 0 ∷ clips ∷ 0 ∷ 0 ∷ 0 ∷ 0 ∷ 0 ∷ 0 ∷ 0 ∷ 135 ∷ []

abbrev graphs : List ℕ
graphs = 0 ∷ 0 ∷ 0 ∷ 2 ∷ 0 ∷ 3 ∷ 0 ∷ 0 ∷ 0 ∷ 90 ∷ 0 ∷ 6 ∷ 0 ∷ 0 ∷ 0 ∷ 90 ∷ []

-- clips of glyphs 5 to 9, 11, 12 (of no format) and 13 (at NULL); their boxes at 33 and 42 of the list, and a byte 0 at 32
abbrev clips : List ℕ
clips = 1 ∷ 0 ∷ 0 ∷ 0 ∷ 4 ∷ 0 ∷ 5 ∷ 0 ∷ 9 ∷ 0 ∷ 0 ∷ 33 ∷ 0 ∷ 11 ∷ 0 ∷ 11 ∷ 0 ∷ 0 ∷ 42 ∷ 0 ∷ 12 ∷ 0 ∷ 12 ∷ 0 ∷ 0 ∷ 32
    ∷ 0 ∷ 13 ∷ 0 ∷ 13 ∷ 0 ∷ 0 ∷ 0 ∷ 1 ∷ 0xFF ∷ 0xF6 ∷ 0xFF ∷ 0x9C ∷ 2 ∷ 88 ∷ 2 ∷ 188
    ∷ 2 ∷ 0 ∷ 0 ∷ 0 ∷ 0 ∷ 0 ∷ 100 ∷ 0 ∷ 200 ∷ []

abbrev varied : ℕ → List ℕ
varied base = head 1 80 ++ bases ++ layers ++ graphs ++ clips ++ (base ∷ base ∷ base ∷ base ∷ []) ++ store

pub record WorkedColors : Type 0 where
  pub layered : coloring_of plain [] 3 ≡ Layered (record { first = 0; count = 2 })
  pub cut_to_those_there_are : coloring_of plain [] 5 ≡ Layered (record { first = 2; count = 1 })
  pub no_layers : coloring_of plain [] 7 ≡ Layered (record { first = 9; count = 0 })
  pub in_one_colour : coloring_of plain [] 4 ≡ Plain
  pub no_table : coloring_of [] [] 0 ≡ Plain
  pub first_layer : layer_glyph plain 0 ≡ 8
  pub second_layer : layer_glyph plain 1 ≡ 9
  pub third_layer : layer_glyph plain 2 ≡ 300
  pub painted : coloring_of (head 1 0 ++ bases ++ layers ++ graphs) [] 6 ≡ Painted
  pub painted_before_layers : coloring_of (head 1 0 ++ bases ++ layers ++ graphs) [] 3 ≡ Painted
  pub layers_in_version_1 : coloring_of (head 1 0 ++ bases ++ layers ++ graphs) [] 5 ≡ Layered (record { first = 2; count = 1 })
  pub no_lists_in_version_0 : coloring_of (head 0 80 ++ bases ++ layers ++ graphs ++ clips) [] 6 ≡ Plain
  -- from -10 to 600, and from -100 to 700
  pub clipped : coloring_of (varied 0) [] 6 ≡ Clipped (box (negsuc 9) (pos 700) (pos 610) (negsuc 799))
  pub last_of_a_range : coloring_of (varied 0) [] 9 ≡ Clipped (box (negsuc 9) (pos 700) (pos 610) (negsuc 799))
  pub behind_a_range : coloring_of (varied 0) [] 10 ≡ Plain
  pub varied_at_the_default : coloring_of (varied 0) [] 11 ≡ Clipped (box (pos 0) (pos 200) (pos 100) (negsuc 199))
  -- -98.75 and 127.375 by the two sets of the store, and nothing by others
  pub varied_there : coloring_of (varied 0) there 11 ≡ Clipped (box (negsuc 98) (pos 200) (pos 199) (negsuc 72))
  pub no_variation : coloring_of (varied 0xFF) there 11 ≡ Clipped (box (pos 0) (pos 200) (pos 100) (negsuc 199))
  pub at_null : coloring_of (varied 0) [] 13 ≡ Plain
  pub of_another_format : coloring_of (varied 0) [] 12 ≡ Clipped no_box

pub worked_colors : WorkedColors
unfolding i16_of ◌+ʷ◌ ◌-ʷ◌ int_wrap numbers.i8_of numbers.i16_of numbers.i32_of delta_of part_of delta_in rounded round_with
    region_scalar axis_scalar tent ratio div mul add sum eq to_signed of_int round size span climb units odd count_trailing_zeros
    of_bits of_fields
worked_colors = record {
  layered = refl;
  cut_to_those_there_are = refl;
  no_layers = refl;
  in_one_colour = refl;
  no_table = refl;
  first_layer = refl;
  second_layer = refl;
  third_layer = refl;
  painted = refl;
  painted_before_layers = refl;
  layers_in_version_1 = refl;
  no_lists_in_version_0 = refl;
  clipped = refl;
  last_of_a_range = refl;
  behind_a_range = refl;
  varied_at_the_default = refl;
  varied_there = refl;
  no_variation = refl;
  at_null = refl;
  of_another_format = refl;
}

pub record WorkedLayers : Type 0 where
  -- from 10 to 110 and from -20 to 80; from 50 to 150 and from 30 to 130
  pub together : covered None (with_layer (with_layer None (Some (corners (box (pos 10) (pos 80) (pos 100) (negsuc 99)))))
      (Some (corners (box (pos 50) (pos 130) (pos 100) (negsuc 99))))) ≡ box (pos 10) (pos 130) (pos 140) (negsuc 149)
  pub one_inside_another : covered None (with_layer (with_layer None (Some (corners (box (pos 10) (pos 80) (pos 100) (negsuc 99)))))
      (Some (corners (box (pos 20) (pos 30) (pos 5) (negsuc 4))))) ≡ box (pos 10) (pos 80) (pos 100) (negsuc 99)
  pub without_an_area : covered None (with_layer None (Some (corners (box (pos 10) (pos 80) (pos 0) (negsuc 99))))) ≡ no_box
  pub without_a_height : covered None (with_layer None (Some (corners (box (pos 10) (pos 80) (pos 9) (pos 0))))) ≡ no_box
  pub no_layer : covered None None ≡ no_box
  -- at half the size from 1.5 to 6.5 and from -2.5 to 3.5: towards 0
  pub at_a_size : covered (Some (scale_of (record { x = pos 500; y = pos 500 }) 1000))
      (Some (corners (box (pos 3) (pos 7) (pos 10) (negsuc 11)))) ≡ box (pos 1) (pos 3) (pos 5) (negsuc 5)
  -- mirrored from -6.5 to -1.5 and from -3.5 to 2.5
  pub mirrored : covered (Some (scale_of (record { x = negsuc 499; y = negsuc 499 }) 1000))
      (Some (corners (box (pos 3) (pos 7) (pos 10) (negsuc 11)))) ≡ box (negsuc 5) (pos 2) (pos 5) (negsuc 5)

pub worked_layers : WorkedLayers
unfolding widened whole_box real_factor quotient ◌+ʷ◌ int_wrap round_with div mul sub add sum lt to_signed of_int round size span climb units odd
    count_trailing_zeros
worked_layers = record {
  together = refl;
  one_inside_another = refl;
  without_an_area = refl;
  without_a_height = refl;
  no_layer = refl;
  at_a_size = refl;
  mirrored = refl;
}
