-- The measures of a line at coordinates: those of the default instance, to which `MVAR` adds (OpenType, "MVAR"), in binary32 and then
-- rounded, as HarfBuzz computes them.
use Rattle.std.specs.Prelude.{ℕ, ℤ, pos, neg_ℤ, ◌+◌, min, nat_eq, length, unsigned_abs, if◌then◌else◌}
use Rattle.std.specs.Option.{option_map_or}
use Rattle.std.specs.Float.{Float, binary32}
use lib.Ieee.{add, sub, lt, of_int}
use Rattle.font_sizes.specs.Scales.{stretched}
use Rattle.font_sizes.specs.declared.scales.Scale.{Scale}
use Rattle.font_variations.specs.Deltas.{rounded}
use Rattle.font_variations.specs.Lines.{line_delta}
use Rattle.font_variations.specs.Tents.{nothing}
use Rattle.shape_common.specs.Wrapping.{◌-ʷ◌}
use Rattle.shape_font.specs.Metrics.{ascender_in, descender_in, ascender_of, descender_of, line_gap_of}
use Rattle.shape_font.specs.declared.face.FontFace.{FontFace}

-- a number with what is added to it
abbrev pub varied : FontFace → ℕ → ℤ → Float
varied f tag n = add binary32 (of_int binary32 n) (line_delta f.mvar.now f.coordinates.now tag)

-- upwards or downwards, whatever its sign
abbrev pub upwards : Float → Float
upwards x = if lt x nothing then sub binary32 nothing x else x

abbrev pub downwards : Float → Float
downwards x = if lt x nothing then x else sub binary32 nothing x

-- how far a line reaches: at most as far as a number of 16 bits says
abbrev pub reach_of : Float → ℕ
reach_of x = min 32768 (unsigned_abs (rounded x))

-- `hasc`, `hdsc` and `hlgp`; a half is rounded upwards, below the baseline too
unfoldable pub ascent_of : FontFace → ℕ
ascent_of f = if nat_eq (length f.coordinates.now) 0 then ascender_of f.os2.now f.hhea.now
    else reach_of (upwards (varied f 0x68617363 (ascender_in f.os2.now f.hhea.now)))

unfoldable pub descent_of : FontFace → ℕ
descent_of f = if nat_eq (length f.coordinates.now) 0 then descender_of f.os2.now f.hhea.now
    else reach_of (downwards (varied f 0x68647363 (descender_in f.os2.now f.hhea.now)))

unfoldable pub gap_of : FontFace → ℤ
gap_of f = if nat_eq (length f.coordinates.now) 0 then line_gap_of f.os2.now f.hhea.now
    else rounded (varied f 0x686c6770 (line_gap_of f.os2.now f.hhea.now))

-- how high a line is
abbrev pub line_height : FontFace → ℕ
line_height f = ascent_of f + descent_of f

-- ---- at a size a measure is scaled in binary32 and then rounded

abbrev pub measure : FontFace → ℕ → ℤ → Float
measure f tag n = if nat_eq (length f.coordinates.now) 0 then of_int binary32 n else varied f tag n

unfoldable pub ascender_at : FontFace → Scale → ℤ
ascender_at f s = rounded (stretched s.up (upwards (measure f 0x68617363 (ascender_in f.os2.now f.hhea.now))))

unfoldable pub descender_at : FontFace → Scale → ℤ
descender_at f s = rounded (stretched s.up (downwards (measure f 0x68647363 (descender_in f.os2.now f.hhea.now))))

unfoldable pub gap_at : FontFace → Scale → ℤ
gap_at f s = rounded (stretched s.up (measure f 0x686c6770 (line_gap_of f.os2.now f.hhea.now)))

-- what the face says, at its size if it has one
abbrev pub sized_ascender : FontFace → ℤ
sized_ascender f = option_map_or (ascender_at f) f.scale (pos (ascent_of f))

abbrev pub sized_descender : FontFace → ℤ
sized_descender f = option_map_or (descender_at f) f.scale (neg_ℤ (pos (descent_of f)))

abbrev pub sized_gap : FontFace → ℤ
sized_gap f = option_map_or (gap_at f) f.scale (gap_of f)

abbrev pub sized_height : FontFace → ℤ
sized_height f = sized_ascender f -ʷ sized_descender f
