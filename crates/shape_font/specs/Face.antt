-- what the bytes of a font say as a face
use Prim.Native.Nat.{zero}
use Rattle.std.specs.Prelude.{ℕ, suc, ℤ, List, [], ◌∷◌, true, false, pos, neg_ℤ, ◌+ℤ◌, int_div, Bool, not, Option}
use Rattle.std.specs.Prelude.{Some, None, is_some, length, ◌+◌, ◌&&◌, ◌/◌, nat_lt, nat_le, nat_eq}
use Rattle.std.specs.Prelude.{if◌then◌else◌}
use Rattle.std.specs.Option.{option_map, option_map_or, option_and_then, unwrap_or}
use Rattle.std.specs.Float.{Float, binary32}
use lib.Ieee.{add, of_int}
use Rattle.std.specs.Ordering.{int_eq}
use Rattle.cff_tables.specs.declared.font.CffFont.{CffFont}
use Rattle.shape_common.specs.Face.{FaceMeaning}
use Rattle.font_sizes.specs.Scales.{scale_of, times, stretched, across, extents_at}
use Rattle.font_sizes.specs.declared.scales.Scale.{Scale}
use Rattle.font_sizes.specs.declared.scales.Size.{Size}
use Rattle.font_variations.specs.Deltas.{rounded}
use Rattle.font_variations.specs.Metrics.{advance_delta, origin_delta, origin_shift}
use Rattle.shape_common.specs.Wrapping.{◌+ʷ◌, ◌-ʷ◌, neg_w}
use Rattle.shape_common.specs.declared.text_types.GlyphId.{GlyphId}
use Rattle.shape_common.specs.declared.face.hb_glyph_extents_t.{hb_glyph_extents_t}
use Rattle.shape_font.specs.Bytes.{u32_of}
use Rattle.shape_font.specs.Cmap.{mapped_glyph}
use Rattle.shape_font.specs.Metrics.{advance_of, as_short, bearing_of, listed_origin, place_of, box_of, half_down}
use Rattle.shape_font.specs.BoxesAt.{box_at, bounds_there}
use Rattle.shape_font.specs.Colors.{layer_glyph, coloring_of}
use Rattle.shape_font.specs.Layers.{corners, with_layer, covered}
use Rattle.shape_font.specs.Cff.{drawn_extents, charset_name}
use Rattle.bitmap_tables.specs.Tables.{bitmap_box}
use Rattle.shape_font.specs.PointsAt.{width_of, depth_of, height_of, metrics_glyph, or_default}
use Rattle.shape_font.specs.LinesAt.{ascent_of, sized_ascender, line_height, sized_height}
use Rattle.shape_font.specs.Names.{glyph_name}
use Rattle.shape_font.specs.declared.names.TheConstants.{STANDARD}
use Rattle.shape_font.specs.Variations.{variation_of}
use Rattle.shape_font.specs.declared.colors.Coloring.{Coloring}
use Rattle.shape_font.specs.declared.colors.Coloring.TheVariants.{Plain, Clipped, Layered, Painted}
use Rattle.shape_font.specs.declared.colors.Layers.{Layers}
use Rattle.shape_font.specs.declared.face.FontFace.{FontFace}
use Rattle.shape_font.specs.declared.face.boxes.TheConstants.{MOST_BOX_STEPS}
use Rattle.shape_font.specs.declared.face.boxes.Walked.{Walked}
use Rattle.shape_font.specs.declared.face.layers.TheConstants.{MOST_LAYERS, MOST_WALKED}
use Rattle.shape_font.specs.declared.variations.GlyphVariant.{GlyphVariant}
use Rattle.shape_font.specs.declared.variations.GlyphVariant.TheVariants.{Missing, Default, Own}

-- the glyph with this number, whether the font has so many or not; 0 is none
abbrev pub numbered : ℕ → Option GlyphId
numbered g = if nat_lt 0 g then Some (record { 0 = g }) else None

-- the glyph of a character by `cmap`
abbrev pub glyph_of : FontFace → ℕ → Option GlyphId
glyph_of f c = numbered (mapped_glyph f.cmap.now f.font_page c)

-- its glyph before a selector: the one that it has alone, or one of its own; none if the font says nothing
abbrev pub varied : FontFace → ℕ → GlyphVariant → Option GlyphId
varied f c Missing = None
varied f c Default = glyph_of f c
varied f c (Own g) = numbered g

abbrev pub variant_of : FontFace → ℕ → ℕ → Option GlyphId
variant_of f c selector = varied f c (variation_of f.sequences.now c selector)

-- whether the metrics of a glyph vary: away from the default instance, if it has a bearing
abbrev pub varies : FontFace → Option ℤ → Bool
varies f bearing = not (nat_eq (length f.coordinates.now) 0) && is_some bearing

-- the advance along the line at coordinates, to which `HVAR` adds; without that table the one by `gvar`
unfoldable pub width_there : FontFace → ℕ → ℕ → ℤ
width_there f glyph advance = if nat_eq (length f.hvar.now) 0 then or_default (width_of f (metrics_glyph f glyph)) advance
    else pos advance +ʷ advance_delta f.hvar.now f.coordinates.now glyph

-- the advance along the line, by `hmtx`
unfoldable pub width_in : FontFace → ℕ → ℤ
width_in f glyph = if varies f (bearing_of f.hmtx.now f.h_count glyph)
    then width_there f glyph (advance_of f.hmtx.now f.h_count glyph) else pos (advance_of f.hmtx.now f.h_count glyph)

-- down the page: `VVAR`, and `vmtx`
unfoldable pub depth_there : FontFace → ℕ → ℕ → ℤ
depth_there f glyph advance = if nat_eq (length f.vvar.now) 0 then or_default (depth_of f (metrics_glyph f glyph)) advance
    else pos advance +ʷ advance_delta f.vvar.now f.coordinates.now glyph

unfoldable pub depth_in : FontFace → ℕ → ℤ
depth_in f glyph = if varies f (bearing_of f.vmtx.now f.v_count glyph)
    then depth_there f glyph (advance_of f.vmtx.now f.v_count glyph) else pos (advance_of f.vmtx.now f.v_count glyph)

-- its advance, half of the em square in a font without advances, 0 past the last glyph; one above 32767 is negative
abbrev pub h_advance_of : FontFace → GlyphId → ℤ
h_advance_of f glyph = if nat_lt glyph.0 f.glyph_count
    then (if nat_eq f.h_count 0 then pos (f.units_per_em / 2) else as_short (width_in f glyph.0))
    else pos 0

-- its advance downwards, the height of a line in a font without such advances
abbrev pub v_advance_of : FontFace → GlyphId → ℤ
v_advance_of f glyph = if nat_eq f.v_count 0 then neg_ℤ (pos (line_height f))
    else (if nat_lt glyph.0 f.glyph_count then as_short (neg_w (depth_in f glyph.0)) else pos 0)

-- the box of its outline
unfoldable pub inked_of : FontFace → ℕ → hb_glyph_extents_t
inked_of f glyph = box_of f.glyf.now (place_of f.loca.now f.long_places glyph) (place_of f.loca.now f.long_places (glyph + 1))
    (bearing_of f.hmtx.now f.h_count glyph)

-- the box by `glyf` in the default instance: none in a font without it, and none past the last glyph
abbrev pub inked_extents : FontFace → GlyphId → Option hb_glyph_extents_t
inked_extents f glyph = if f.outlines && nat_lt glyph.0 f.glyph_count then Some (inked_of f glyph.0) else None

-- at coordinates that of its points there
abbrev pub inked_there : FontFace → ℕ → Option hb_glyph_extents_t
inked_there f glyph = if nat_eq (length f.coordinates.now) 0 then Some (inked_of f glyph) else box_at f glyph

-- charstrings of `CFF2` vary, and are run as those of the default instance: away from it their glyphs have no box
abbrev pub is_default : List ℤ → Bool
is_default [] = true
is_default (c ∷ cs) = int_eq c (pos 0) && is_default cs

abbrev pub varies_drawn : FontFace → Bool
varies_drawn f = option_map_or (λ (c : CffFont). c.layout.wide && not (is_default f.coordinates.now)) f.cff false

abbrev pub drawn_there : FontFace → ℕ → Option hb_glyph_extents_t
drawn_there f glyph = if varies_drawn f then None else drawn_extents f.cff glyph

-- the box of a glyph's outline: by `glyf`, or else by the charstrings of `CFF2` or `CFF `
abbrev pub outlined_extents : FontFace → GlyphId → Option hb_glyph_extents_t
outlined_extents f glyph = if f.outlines && nat_lt glyph.0 f.glyph_count then inked_there f glyph.0 else drawn_there f glyph.0

-- the name of a glyph: by `post`, or else by the charset of `CFF `
abbrev pub name_of_glyph : FontFace → ℕ → Option (List ℕ)
name_of_glyph f glyph = elim (glyph_name STANDARD.now f.post.now glyph) [ Some name ↦ Some name | None ↦ charset_name f.cff glyph ]

-- half of the room that a box leaves in a line; its height is negative as a rule
abbrev pub half_room : FontFace → ℤ → ℤ
half_room f height = half_down (pos (line_height f) +ℤ height)

-- the height of the origin over a box: above its upper side by the bearing of `vmtx`, or by what puts the box into the
-- middle of a line
abbrev pub origin_over : FontFace → ℕ → hb_glyph_extents_t → ℤ
origin_over f glyph box = box.y_bearing +ʷ option_map_or (λ bearing. bearing) (bearing_of f.vmtx.now f.v_count glyph)
    (half_room f box.height)

-- the height of the origin of a glyph with a box: at coordinates that of its top point
unfoldable pub origin_above : FontFace → ℕ → ℤ
origin_above f glyph = if nat_eq (length f.coordinates.now) 0 then origin_over f glyph (inked_of f glyph)
    else option_map_or (λ height. height) (height_of f (metrics_glyph f glyph)) (origin_over f glyph (inked_of f glyph))

-- a height by `VORG` at some coordinates, to which `VVAR` adds if it has a map for origins
abbrev pub listed_origin_at : List ℤ → List ℕ → ℕ → ℤ → ℤ
listed_origin_at coordinates vvar glyph height = if nat_eq (length coordinates) 0 then height
    else option_map_or (λ delta. height +ʷ delta) (origin_delta vvar coordinates glyph) height

-- the height of the origin of vertical lines: by `VORG`, by the box of `glyf` (not that of a charstring, as HarfBuzz has it), or at
-- the top of a line
abbrev pub v_origin_of : FontFace → GlyphId → ℤ
v_origin_of f glyph = if nat_lt 0 (u32_of f.vorg.now 0)
    then listed_origin_at f.coordinates.now f.vvar.now glyph.0 (listed_origin f.vorg.now glyph.0)
    else (if f.outlines && nat_lt glyph.0 f.glyph_count then origin_above f glyph.0 else pos (ascent_of f))

-- ---- at a size: each number of the font is scaled by itself

abbrev pub at_size : FontFace → Size → FontFace
at_size f size = record f { scale = Some (scale_of size f.units_per_em) }

abbrev pub sized_em : FontFace → Size
sized_em f = option_map_or (λ (s : Scale). s.size) f.scale (record { x = pos f.units_per_em; y = pos f.units_per_em })

abbrev pub sized_h_advance : FontFace → GlyphId → ℤ
sized_h_advance f glyph = across f.scale (h_advance_of f glyph)

-- the height of a line is what its two measures come to there
abbrev pub v_advance_at : FontFace → GlyphId → Scale → ℤ
v_advance_at f glyph s = if nat_eq f.v_count 0 then neg_w (sized_height f) else times s.up (v_advance_of f glyph)

abbrev pub sized_v_advance : FontFace → GlyphId → ℤ
sized_v_advance f glyph = option_map_or (v_advance_at f glyph) f.scale (v_advance_of f glyph)

-- a height by `VORG` with what `VVAR` adds, in binary32
unfoldable pub listed_height : FontFace → ℕ → Float
listed_height f glyph = let height = of_int binary32 (listed_origin f.vorg.now glyph) in
    (if nat_eq (length f.coordinates.now) 0 then height
    else add binary32 height (origin_shift f.vvar.now f.coordinates.now glyph))

-- the box of `glyf`, at coordinates that of its points there if it has one
unfoldable pub box_there : FontFace → ℕ → hb_glyph_extents_t
box_there f glyph = if nat_eq (length f.coordinates.now) 0 then inked_of f glyph else unwrap_or (box_at f glyph) (inked_of f glyph)

-- how far the origin stands above the upper side of that box
unfoldable pub bearing_above : FontFace → ℕ → ℤ → Option ℤ
bearing_above f glyph side = let listed = bearing_of f.vmtx.now f.v_count glyph in
    (if nat_eq (length f.coordinates.now) 0 then listed
    else elim (height_of f (metrics_glyph f glyph)) [ Some height ↦ Some (height -ʷ side) | None ↦ listed ])

-- the box and the bearing are scaled by themselves
unfoldable pub origin_above_at : FontFace → Scale → ℕ → ℤ
origin_above_at f s glyph = let found = box_there f glyph in let box = extents_at s found in
    box.y_bearing +ʷ option_map_or (times s.up) (bearing_above f glyph found.y_bearing) (half_down (sized_height f +ʷ box.height))

abbrev pub v_origin_at : FontFace → Scale → GlyphId → ℤ
v_origin_at f s glyph = if nat_lt 0 (u32_of f.vorg.now 0) then rounded (stretched s.up (listed_height f glyph.0))
    else (if f.outlines && nat_lt glyph.0 f.glyph_count then origin_above_at f s glyph.0 else sized_ascender f)

abbrev pub sized_v_origin : FontFace → GlyphId → ℤ
sized_v_origin f glyph = option_map_or (λ (s : Scale). v_origin_at f s glyph) f.scale (v_origin_of f glyph)

abbrev pub sized_box : FontFace → hb_glyph_extents_t → hb_glyph_extents_t
sized_box f b = option_map_or (λ (s : Scale). extents_at s b) f.scale b

-- ---- the layers of a face: none past its last glyph; at coordinates with the points of `glyf` there, for which no more is read in all
-- ---- than for one glyph

abbrev pub layer_walked : FontFace → ℕ → ℕ → Option Walked
layer_walked f left glyph = if nat_le f.glyph_count glyph then Some (record { bounds = None; left = left })
    else (if f.outlines && not (nat_eq (length f.coordinates.now) 0) then bounds_there f left glyph
    else option_map (λ b. record { bounds = Some (corners b); left = left }) (outlined_extents f (record { 0 = glyph })))

abbrev pub covering : Walked → Walked → Walked
covering w layer = record { bounds = with_layer w.bounds layer.bounds; left = layer.left }

-- so many layers from a first one on; there is no box if that of one isn't known
abbrev pub layers_from : FontFace → ℕ → ℕ → Walked → Option Walked
layers_from f first zero w = Some w
layers_from f first (suc n) w =
    option_and_then (λ layer. layers_from f (suc first) n (covering w layer)) (layer_walked f w.left (layer_glyph f.colr.now first))

-- where outlines are walked over for their boxes fewer layers are
abbrev pub has_stated_boxes : FontFace → Bool
has_stated_boxes f = f.outlines && nat_eq (length f.coordinates.now) 0

abbrev pub no_layer : Walked
no_layer = record { bounds = None; left = MOST_BOX_STEPS }

abbrev pub layers_box : FontFace → Layers → Option hb_glyph_extents_t
layers_box f l = if nat_lt (if has_stated_boxes f then MOST_LAYERS else MOST_WALKED) l.count then None
    else option_map (λ (w : Walked). covered f.scale w.bounds) (layers_from f l.first l.count no_layer)

-- ---- the box of a glyph: of its bitmap in `sbix` or `CBDT`, or else by `COLR`, or else of its outline

abbrev pub colored_by : FontFace → GlyphId → Coloring → Option hb_glyph_extents_t
colored_by f glyph Plain = option_map (sized_box f) (outlined_extents f glyph)
colored_by f glyph (Clipped b) = Some (sized_box f b)
colored_by f glyph (Layered layers) = layers_box f layers
colored_by f glyph Painted = None

abbrev pub colored_extents : FontFace → GlyphId → Option hb_glyph_extents_t
colored_extents f glyph = colored_by f glyph (coloring_of f.colr.now f.coordinates.now glyph.0)

abbrev pub extents_of : FontFace → GlyphId → Option hb_glyph_extents_t
extents_of f glyph = elim (bitmap_box f.bitmaps f.glyph_count f.units_per_em glyph.0) [
  | Some found ↦ Some (sized_box f found)
  | None ↦ colored_extents f glyph
]

-- ---- what the face returns

abbrev pub font_face : FontFace → FaceMeaning
font_face f = record {
  nominal_glyph = glyph_of f;
  variation_glyph = variant_of f;
  h_advance = sized_h_advance f;
  v_advance = sized_v_advance f;
  h_origin = λ glyph. int_div (sized_h_advance f glyph) (pos 2);
  v_origin = sized_v_origin f;
  extents = extents_of f;
  units_per_em = f.units_per_em;
  x_scale = (sized_em f).x;
  y_scale = (sized_em f).y;
  tables = f.tables;
}
