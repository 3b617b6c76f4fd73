-- A face at a size, computed by hand: its em square of 1,000 units is 500 wide, and 500 or 2,000 high.
use Rattle.std.specs.Prelude.{◌≡◌, ℤ, pos, negsuc, [], ◌∷◌, Some, None, true, false, refl}
use Rattle.std.specs.Float.{round_with}
use Rattle.std.specs.Int.{int_wrap}
use lib.Count.{count_trailing_zeros}
use lib.Ieee.{round, size, span, climb, units, odd, of_bits, of_fields, of_int, div, mul, add, sub, sum, lt, to_signed}
use Rattle.font_sizes.specs.Factors.{quotient, nearest, if_short}
use Rattle.font_sizes.specs.Scales.{scale_of, real_factor, floor_of, ceiling_of}
use Rattle.font_sizes.specs.declared.scales.Scale.{Scale}
use Rattle.font_variations.specs.Deltas.{rounded}
use Rattle.shape_common.specs.Wrapping.{◌+ʷ◌, ◌-ʷ◌, neg_w}
use Rattle.shape_font.specs.Bytes.{i16_of}
use Rattle.shape_font.specs.Face.{font_face, width_in, inked_of, sized_h_advance, sized_box, at_size, listed_height, box_there, bearing_above}
use Rattle.shape_font.specs.Face.{origin_above_at}
use Rattle.shape_font.specs.LinesAt.{ascent_of, descent_of, sized_ascender, sized_descender, sized_gap, ascender_at, descender_at, gap_at}
use Rattle.shape_font.specs.Metrics.{as_short}
use Rattle.shape_font.specs.Worked.Face.{box}
use Rattle.shape_font.specs.Worked.Glyphs.{words}
use Rattle.shape_font.specs.Worked.Lines.{plain_line}
use Rattle.shape_font.specs.declared.face.FontFace.{FontFace}

abbrev half : Scale
half = scale_of (record { x = pos 500; y = pos 500 }) 1000

abbrev half_and_twice : Scale
half_and_twice = scale_of (record { x = pos 500; y = pos 2000 }) 1000

pub record WorkedSizes : Type 0 where
  -- 250.5
  pub advance : (f : FontFace) → f.scale ≡ Some half_and_twice → f.coordinates.now ≡ [] → f.glyph_count ≡ 7 → f.h_count ≡ 1
      → f.hmtx.now ≡ words (501 ∷ 50 ∷ []) → (font_face f).h_advance (record { 0 = 6 }) ≡ pos 251
  pub half_of_the_advance : (f : FontFace) → f.scale ≡ Some half_and_twice → f.coordinates.now ≡ [] → f.glyph_count ≡ 7 → f.h_count ≡ 1
      → f.hmtx.now ≡ words (501 ∷ 50 ∷ []) → (font_face f).h_origin (record { 0 = 6 }) ≡ pos 125
  -- 800 up and 200 down
  pub a_line_down : (f : FontFace) → f.scale ≡ Some half_and_twice → f.coordinates.now ≡ [] → f.v_count ≡ 0 → f.os2.now ≡ []
      → f.hhea.now ≡ plain_line → (font_face f).v_advance (record { 0 = 6 }) ≡ negsuc 1999
  pub up : (f : FontFace) → f.scale ≡ Some half → f.coordinates.now ≡ [] → f.os2.now ≡ [] → f.hhea.now ≡ plain_line → sized_ascender f ≡ pos 400
  pub down : (f : FontFace) → f.scale ≡ Some half → f.coordinates.now ≡ [] → f.os2.now ≡ [] → f.hhea.now ≡ plain_line → sized_descender f ≡ negsuc 99
  pub gap : (f : FontFace) → f.scale ≡ Some half → f.coordinates.now ≡ [] → f.os2.now ≡ [] → f.hhea.now ≡ plain_line → sized_gap f ≡ pos 45
  pub as_listed : (f : FontFace) → f.scale ≡ Some half_and_twice → f.coordinates.now ≡ [] → f.vorg.now ≡ words (1 ∷ 0 ∷ 880 ∷ 0 ∷ [])
      → (font_face f).v_origin (record { 0 = 3 }) ≡ pos 1760
  pub without_a_box : (f : FontFace) → f.scale ≡ Some half → f.coordinates.now ≡ [] → f.vorg.now ≡ [] → f.outlines ≡ false → f.os2.now ≡ []
      → f.hhea.now ≡ plain_line → (font_face f).v_origin (record { 0 = 6 }) ≡ pos 400
  -- its upper side at 350, and half of 60 above it
  pub by_its_bearing : (f : FontFace) → f.coordinates.now ≡ [] → f.v_count ≡ 1 → f.vmtx.now ≡ words (900 ∷ 50 ∷ 60 ∷ []) → inked_of f 1 ≡ box
      → origin_above_at f half 1 ≡ pos 380
  -- 352 of 500 high: 148 is left
  pub in_the_middle : (f : FontFace) → f.scale ≡ Some half → f.coordinates.now ≡ [] → f.v_count ≡ 0 → f.os2.now ≡ [] → f.hhea.now ≡ plain_line
      → inked_of f 1 ≡ box → origin_above_at f half 1 ≡ pos 424
  pub a_box : (f : FontFace) → f.scale ≡ Some half → sized_box f box
      ≡ record { x_bearing = pos 10; y_bearing = pos 350; width = pos 150; height = negsuc 351 }
  pub width_of_the_em : (f : FontFace) → (font_face (at_size f (record { x = negsuc 11; y = pos 40 }))).x_scale ≡ negsuc 11
  pub height_of_the_em : (f : FontFace) → (font_face (at_size f (record { x = negsuc 11; y = pos 40 }))).y_scale ≡ pos 40
  pub at_no_size : (f : FontFace) → f.scale ≡ None → f.units_per_em ≡ 1000 → (font_face f).x_scale ≡ pos 1000

pub worked_sizes : WorkedSizes
unfolding width_in inked_of i16_of as_short listed_height box_there bearing_above origin_above_at ascent_of descent_of ascender_at descender_at gap_at
    ◌+ʷ◌ ◌-ʷ◌ neg_w int_wrap
    quotient nearest if_short real_factor floor_of ceiling_of rounded round_with div mul add sub sum lt to_signed of_int round size span climb units
    odd count_trailing_zeros of_bits of_fields
worked_sizes = record {
  advance = λ f s c e h t. rw (s, c, e, h, t) refl;
  half_of_the_advance = λ f s c e h t. rw (s, c, e, h, t) refl;
  a_line_down = λ f s c v o h. rw (s, c, v, o, h) refl;
  up = λ f s c o h. rw (s, c, o, h) refl;
  down = λ f s c o h. rw (s, c, o, h) refl;
  gap = λ f s c o h. rw (s, c, o, h) refl;
  as_listed = λ f s c v. rw (s, c, v) refl;
  without_a_box = λ f s c v o t h. rw (s, c, v, o, t, h) refl;
  by_its_bearing = λ f c v t b. rw (c, v, t, b) refl;
  in_the_middle = λ f s c v o h b. rw (s, c, v, o, h, b) refl;
  a_box = λ f s. rw s refl;
  width_of_the_em = λ f. refl;
  height_of_the_em = λ f. refl;
  at_no_size = λ f s u. rw (s, u) refl;
}
