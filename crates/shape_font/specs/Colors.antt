-- What `COLR` says of a glyph (OpenType, "COLR").
use Rattle.std.specs.Prelude.{ℕ, ℤ, pos, List, Bool, Option, Some, None, ◌+◌, ◌-◌, ◌*◌, ◌&&◌, ◌||◌, false, not, min, is_some}
use Rattle.std.specs.Prelude.{length, nat_eq, if◌then◌else◌, slice_index}
use Rattle.std.specs.Option.{option_map, option_map_or, option_and_then, unwrap_or}
use Rattle.std.specs.declared.cmp.Ordering.{Ordering}
use Rattle.font_bytes.specs.Bytes.{u24_of}
use Rattle.font_variations.specs.Deltas.{delta_within, rounded}
use Rattle.font_variations.specs.IndexMaps.{mapped}
use Rattle.font_variations.specs.Parts.{part_at}
use Rattle.font_variations.specs.declared.metrics.TheConstants.{MOST_ROW_STEPS}
use Rattle.shape_common.specs.Wrapping.{◌+ʷ◌, ◌-ʷ◌}
use Rattle.shape_common.specs.declared.face.hb_glyph_extents_t.{hb_glyph_extents_t}
use Rattle.shape_font.specs.Bytes.{u16_of, u32_of, i16_of, fitting}
use Rattle.shape_font.specs.Search.{side_of, found_by}
use Rattle.shape_font.specs.declared.colors.Coloring.{Coloring}
use Rattle.shape_font.specs.declared.colors.Coloring.TheVariants.{Plain, Clipped, Layered, Painted}
use Rattle.shape_font.specs.declared.colors.Layers.{Layers}

-- ---- version 0: how many base glyphs (16 bits at 2), where they and the layers stand (32 bits at 4 and 8), how many layers (at 12)

-- records of 6 bytes, in the order of the glyphs that they begin with
abbrev pub base_side : List ℕ → ℕ → ℕ → ℕ → Ordering
base_side t at glyph i = let there = u16_of t (at + 6 * i) in side_of glyph there there

abbrev pub base_in : List ℕ → ℕ → ℕ → ℕ → Option ℕ
base_in t at said glyph = found_by (base_side t at glyph) (fitting t said at 6)

-- a base glyph has a number of layers (at 4), from a first one on (at 2), as far as there are so many
abbrev pub layers_at : List ℕ → ℕ → Layers
layers_at t at = let first = u16_of t (at + 2) in
    record { first = first; count = min (fitting t (u16_of t 12) (u32_of t 8) 4 - first) (u16_of t (at + 4)) }

abbrev pub layers_of : List ℕ → ℕ → Option Layers
layers_of t glyph = let bases = u32_of t 4 in option_map (λ i. layers_at t (bases + 6 * i)) (base_in t bases (u16_of t 2) glyph)

-- a layer is a glyph, and a colour
abbrev pub layer_glyph : List ℕ → ℕ → ℕ
layer_glyph t i = u16_of t (u32_of t 8 + 4 * i)

-- ---- version 1 has lists more, whose offsets are 0 if they are not there: of graphs of paints (at 14), of clips (22), a map of
-- ---- indexes (26), and a store of deltas (30)

abbrev pub has_lists : List ℕ → Bool
has_lists t = not (nat_eq (u16_of t 0) 0)

abbrev pub list_at : List ℕ → ℕ → Option ℕ
list_at t at = if has_lists t && not (nat_eq (u32_of t at) 0) then Some (u32_of t at) else None

abbrev pub is_painted : List ℕ → ℕ → Bool
is_painted t glyph = option_map_or (λ list. is_some (base_in t (list + 4) (u32_of t list) glyph)) (list_at t 14) false

-- a clip is for the glyphs from a first one up to a last one, and has the offset of its box (24 bits), which counts from the list;
-- one at 0 is none
abbrev pub clip_side : List ℕ → ℕ → ℕ → ℕ → Ordering
clip_side t list glyph i = let at = list + 5 + 7 * i in side_of glyph (u16_of t at) (u16_of t (at + 2))

abbrev pub box_of_clip : List ℕ → ℕ → ℕ → Option ℕ
box_of_clip t list i = let offset = u24_of t (list + 9 + 7 * i) in if nat_eq offset 0 then None else Some (list + offset)

abbrev pub clip_in : List ℕ → ℕ → ℕ → Option ℕ
clip_in t glyph list = option_and_then (box_of_clip t list)
    (found_by (clip_side t list glyph) (fitting t (u32_of t (list + 1)) (list + 5) 7))

abbrev pub clip_at : List ℕ → ℕ → Option ℕ
clip_at t glyph = option_and_then (clip_in t glyph) (list_at t 22)

-- a box has a format, and its left, lower, right and upper sides; to those of format 2 deltas are added, whose indexes follow each
-- other from the one at 9 on; 0xFFFFFFFF is none, and has no next one
abbrev pub part : List ℕ → ℕ → List ℕ
part t at = part_at t (unwrap_or (list_at t at) 0)

abbrev pub clip_delta : List ℕ → List ℤ → ℕ → ℕ → ℤ
clip_delta t coordinates at k = if not (nat_eq (slice_index t at) 2) || nat_eq (length coordinates) 0 then pos 0
    else rounded (delta_within MOST_ROW_STEPS (part t 30) coordinates (mapped (part t 26) (min (u32_of t (at + 9) + k) 0xFFFFFFFF)))

abbrev pub clip_number : List ℕ → List ℤ → ℕ → ℕ → ℤ
clip_number t coordinates at k = i16_of t (at + 1 + 2 * k) +ʷ clip_delta t coordinates at k

-- a box of another format is empty
abbrev pub no_box : hb_glyph_extents_t
no_box = record { x_bearing = pos 0; y_bearing = pos 0; width = pos 0; height = pos 0 }

abbrev pub has_sides : List ℕ → ℕ → Bool
has_sides t at = nat_eq (slice_index t at) 1 || nat_eq (slice_index t at) 2

abbrev pub sides_box : List ℕ → List ℤ → ℕ → hb_glyph_extents_t
sides_box t coordinates at = let number = clip_number t coordinates at in record {
  x_bearing = number 0;
  y_bearing = number 3;
  width = number 2 -ʷ number 0;
  height = number 1 -ʷ number 3;
}

abbrev pub clip_box : List ℕ → List ℤ → ℕ → hb_glyph_extents_t
clip_box t coordinates at = if has_sides t at then sides_box t coordinates at else no_box

-- ---- a clip counts before all else, and a graph of paints before layers

abbrev pub unclipped : List ℕ → ℕ → Coloring
unclipped t glyph = if is_painted t glyph then Painted else option_map_or Layered (layers_of t glyph) Plain

abbrev pub coloring_of : List ℕ → List ℤ → ℕ → Coloring
coloring_of t coordinates glyph = option_map_or (λ at. Clipped (clip_box t coordinates at)) (clip_at t glyph) (unclipped t glyph)
