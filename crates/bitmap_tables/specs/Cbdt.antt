-- boxes of the bitmaps in `CBDT` (OpenType, "CBDT")
use Rattle.std.specs.Prelude.{ℕ, ℤ, pos, List, Bool, false, Option, Some, None, ◌+◌, neg_ℤ, not, ◌&&◌, ◌||◌, nat_eq, nat_le, length, if◌then◌else◌, slice_index}
use Rattle.std.specs.Option.{option_map, option_map_or, option_and_then}
use Rattle.font_bytes.specs.Bytes.{i8_of}
use Rattle.shape_common.specs.declared.face.hb_glyph_extents_t.{hb_glyph_extents_t}
use Rattle.bitmap_tables.specs.Boxes.{in_units}
use Rattle.bitmap_tables.specs.Cblc.{is_read, strike_count, largest_strike, pixels_across, pixels_upwards, image_of}
use Rattle.bitmap_tables.specs.declared.cblc.Image.{Image}

-- formats 17 and 18 begin with metrics, of five and of eight bytes, and the length of the image; format 19 has no metrics
abbrev pub header_size : ℕ → Option ℕ
header_size format = if nat_eq format 17 then Some 9 else (if nat_eq format 18 then Some 12 else None)

abbrev pub is_whole : List ℕ → Image → Bool
is_whole t image = option_map_or (λ size. nat_le size image.length && nat_le (image.start + image.length) (length t))
    (header_size image.format) false

-- metrics: height, width, and the two bearings, which have a sign
abbrev pub metrics_box : List ℕ → ℕ → hb_glyph_extents_t
metrics_box t at = record {
  x_bearing = i8_of t (at + 2);
  y_bearing = i8_of t (at + 3);
  width = pos (slice_index t (at + 1));
  height = neg_ℤ (pos (slice_index t at));
}

abbrev pub box_if_whole : List ℕ → Image → Option hb_glyph_extents_t
box_if_whole t image = if is_whole t image then Some (metrics_box t image.start) else None

abbrev pub strike_box : List ℕ → List ℕ → ℕ → ℕ → Option hb_glyph_extents_t
strike_box cblc cbdt i glyph = option_and_then (box_if_whole cbdt) (image_of cblc i glyph)

-- by the strike with the most pixels; none in a strike without pixels
abbrev pub box_in : List ℕ → List ℕ → ℕ → ℕ → ℕ → Option hb_glyph_extents_t
box_in cblc cbdt units_per_em glyph i = let across = pixels_across cblc i in let upwards = pixels_upwards cblc i in
    (if nat_eq across 0 || nat_eq upwards 0 then None
    else option_map (in_units units_per_em across upwards) (strike_box cblc cbdt i glyph))

abbrev pub cbdt_box : List ℕ → List ℕ → ℕ → ℕ → Option hb_glyph_extents_t
cbdt_box cblc cbdt units_per_em glyph = if not (is_read cblc) || not (is_read cbdt) || nat_eq (strike_count cblc) 0 then None
    else box_in cblc cbdt units_per_em glyph (largest_strike cblc)
