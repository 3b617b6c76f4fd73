-- What a face returns at coordinates. `HVAR` and `VVAR` add -99 for glyph 0 there and 127 for glyph 1 and, by a map, for origins.
use Rattle.std.specs.Prelude.{◌≡◌, pos, negsuc, [], None, ◌∷◌, true, false, refl}
use Rattle.std.specs.Float.{fin, round_with}
use Rattle.std.specs.Int.{int_wrap}
use lib.Count.{count_trailing_zeros}
use lib.Ieee.{round, size, span, climb, units, odd, of_bits, of_fields, of_int, div, mul, add, sub, sum, eq, lt, to_signed}
use Rattle.font_bytes.specs.Bytes as numbers
use Rattle.font_variations.specs.Deltas.{delta_in, part_of, delta_of, rounded}
use Rattle.font_variations.specs.Metrics.{metric_delta}
use Rattle.font_variations.specs.Regions.{axis_scalar, region_scalar}
use Rattle.font_variations.specs.Tents.{tent, ratio}
use Rattle.font_variations.specs.Lines.{line_delta}
use Rattle.font_variations.specs.Worked.Deltas.{table_of, lines_of, there}
use Rattle.shape_common.specs.Wrapping.{◌+ʷ◌, neg_w}
use Rattle.shape_font.specs.Bytes.{i16_of}
use Rattle.shape_font.specs.Face.{font_face, width_there, width_in, depth_there, depth_in, h_advance_of, v_advance_of, v_origin_of}
use Rattle.shape_font.specs.LinesAt.{ascent_of, descent_of, gap_of, reach_of, upwards, downwards}
use Rattle.shape_font.specs.Metrics.{as_short}
use Rattle.shape_font.specs.Worked.Glyphs.{words}
use Rattle.shape_font.specs.Worked.Lines.{plain_line}
use Rattle.shape_font.specs.declared.face.FontFace.{FontFace}

pub record WorkedInstances : Type 0 where
  pub advance : (f : FontFace) → f.coordinates.now ≡ there → f.hvar.now ≡ table_of 0 0 0 → f.glyph_count ≡ 7 → f.h_count ≡ 2
      → f.hmtx.now ≡ words (500 ∷ 50 ∷ 600 ∷ 60 ∷ []) → h_advance_of f (record { 0 = 0 }) ≡ pos 401
  pub of_the_next_glyph : (f : FontFace) → f.coordinates.now ≡ there → f.hvar.now ≡ table_of 0 0 0 → f.glyph_count ≡ 7 → f.h_count ≡ 2
      → f.hmtx.now ≡ words (500 ∷ 50 ∷ 600 ∷ 60 ∷ []) → h_advance_of f (record { 0 = 1 }) ≡ pos 727
  -- glyph 2 has no bearing
  pub no_bearing : (f : FontFace) → f.coordinates.now ≡ there → f.glyph_count ≡ 7 → f.h_count ≡ 2
      → f.hmtx.now ≡ words (500 ∷ 50 ∷ 600 ∷ 60 ∷ []) → h_advance_of f (record { 0 = 2 }) ≡ pos 600
  pub half_of_the_em : (f : FontFace) → f.glyph_count ≡ 7 → f.h_count ≡ 0 → f.units_per_em ≡ 1000
      → h_advance_of f (record { 0 = 0 }) ≡ pos 500
  pub half_of_the_advance : (f : FontFace) → f.scale ≡ None → f.coordinates.now ≡ there → f.hvar.now ≡ table_of 0 0 0 → f.glyph_count ≡ 7 → f.h_count ≡ 2
      → f.hmtx.now ≡ words (500 ∷ 50 ∷ 600 ∷ 60 ∷ []) → (font_face f).h_origin (record { 0 = 0 }) ≡ pos 200
  pub down : (f : FontFace) → f.coordinates.now ≡ there → f.vvar.now ≡ table_of 0 0 0 → f.glyph_count ≡ 7 → f.v_count ≡ 1
      → f.vmtx.now ≡ words (900 ∷ 50 ∷ 60 ∷ []) → v_advance_of f (record { 0 = 1 }) ≡ negsuc 1026
  -- 32700 and 127 are 32827, which as a number of 16 bits with a sign is -32709; downwards that is 32709
  pub wraps : (f : FontFace) → f.coordinates.now ≡ there → f.hvar.now ≡ table_of 0 0 0 → f.glyph_count ≡ 7 → f.h_count ≡ 2
      → f.hmtx.now ≡ words (500 ∷ 50 ∷ 32700 ∷ 60 ∷ []) → h_advance_of f (record { 0 = 1 }) ≡ negsuc 32708
  pub wraps_down : (f : FontFace) → f.coordinates.now ≡ there → f.vvar.now ≡ table_of 0 0 0 → f.glyph_count ≡ 7 → f.v_count ≡ 1
      → f.vmtx.now ≡ words (32700 ∷ 50 ∷ 60 ∷ []) → v_advance_of f (record { 0 = 1 }) ≡ pos 32709
  -- the map leads glyph 0 to the second row
  pub listed_origin : (f : FontFace) → f.coordinates.now ≡ there → f.vvar.now ≡ table_of 0 0 80 → f.vorg.now ≡ words (1 ∷ 0 ∷ 880 ∷ 0 ∷ [])
      → v_origin_of f (record { 0 = 0 }) ≡ pos 1007
  pub no_map_of_origins : (f : FontFace) → f.coordinates.now ≡ there → f.vvar.now ≡ table_of 80 80 0 → f.vorg.now ≡ words (1 ∷ 0 ∷ 880 ∷ 0 ∷ [])
      → v_origin_of f (record { 0 = 0 }) ≡ pos 880
  -- 800 - 98.75, and 200 - 127.375 downwards; no record is for the gap
  pub ascent : (f : FontFace) → f.coordinates.now ≡ there → f.mvar.now ≡ lines_of 8 2 → f.os2.now ≡ [] → f.hhea.now ≡ plain_line
      → ascent_of f ≡ 701
  pub descent : (f : FontFace) → f.coordinates.now ≡ there → f.mvar.now ≡ lines_of 8 2 → f.os2.now ≡ [] → f.hhea.now ≡ plain_line
      → descent_of f ≡ 73
  pub gap : (f : FontFace) → f.coordinates.now ≡ there → f.mvar.now ≡ lines_of 8 2 → f.os2.now ≡ [] → f.hhea.now ≡ plain_line
      → gap_of f ≡ pos 90
  pub default_ascent : (f : FontFace) → f.coordinates.now ≡ [] → f.os2.now ≡ [] → f.hhea.now ≡ plain_line → ascent_of f ≡ 800
  pub no_measures : (f : FontFace) → f.coordinates.now ≡ there → f.mvar.now ≡ [] → f.os2.now ≡ [] → f.hhea.now ≡ plain_line
      → ascent_of f ≡ 800
  -- 72.5 and its negative, both ways
  pub half_up : reach_of (upwards (fin false 145 (negsuc 0))) ≡ 73
  pub half_up_negative : reach_of (upwards (fin true 145 (negsuc 0))) ≡ 73
  pub half_down : reach_of (downwards (fin true 145 (negsuc 0))) ≡ 72
  pub half_down_positive : reach_of (downwards (fin false 145 (negsuc 0))) ≡ 72
  pub farthest : reach_of (fin false 1 (pos 16)) ≡ 32768

pub worked_instances : WorkedInstances
unfolding ascent_of descent_of gap_of line_delta width_there width_in depth_there depth_in ◌+ʷ◌ neg_w int_wrap
    as_short i16_of metric_delta delta_of part_of delta_in rounded round_with region_scalar axis_scalar
    numbers.i8_of numbers.i16_of numbers.i32_of tent ratio div mul add sub sum eq lt to_signed of_int round size span climb units odd count_trailing_zeros
    of_bits of_fields
worked_instances = record {
  advance = λ f c v e h t. rw (e, h, t, c, v) refl;
  of_the_next_glyph = λ f c v e h t. rw (e, h, t, c, v) refl;
  no_bearing = λ f c e h t. rw (e, h, t, c) refl;
  half_of_the_em = λ f e h u. rw (e, h, u) refl;
  half_of_the_advance = λ f sizeless c v e h t. rw (sizeless, e, h, t, c, v) refl;
  down = λ f c v e h t. rw (e, h, t, c, v) refl;
  wraps = λ f c v e h t. rw (e, h, t, c, v) refl;
  wraps_down = λ f c v e h t. rw (e, h, t, c, v) refl;
  listed_origin = λ f c v o. rw (o, c, v) refl;
  no_map_of_origins = λ f c v o. rw (o, c, v) refl;
  ascent = λ f c m o h. rw (c, m, o, h) refl;
  descent = λ f c m o h. rw (c, m, o, h) refl;
  gap = λ f c m o h. rw (c, m, o, h) refl;
  default_ascent = λ f c o h. rw (c, o, h) refl;
  no_measures = λ f c m o h. rw (c, m, o, h) refl;
  half_up = refl;
  half_up_negative = refl;
  half_down = refl;
  half_down_positive = refl;
  farthest = refl;
}
