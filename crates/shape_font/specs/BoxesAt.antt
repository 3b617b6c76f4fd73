-- The box of a glyph of `glyf` at coordinates: that of its points, as `gvar` moves them (OpenType, "gvar"), and of those of its components.
use Prim.Native.Nat.{zero}
use Rattle.std.specs.Prelude.{ℕ, suc, pos, List, [], ◌∷◌, ◌++◌, Bool, true, false, Option, Some, None, ◌+◌, ◌-◌, ◌&&◌, ◌||◌, nat_eq, nat_le, nat_lt}
use Rattle.std.specs.Prelude.{length, map, slice_index_or, if◌then◌else◌}
use Rattle.std.specs.Option.{option_map, option_and_then, unwrap_or}
use Rattle.std.specs.Float.{Float, binary32}
use lib.Ieee.{add, sub}
use Rattle.font_variations.specs.Tents.{nothing}
use Rattle.glyf_points.specs.Bounded.{few_points, few_components}
use Rattle.glyf_points.specs.declared.composite.Component.{Component}
use Rattle.glyf_points.specs.declared.composite.Placement.TheVariants.{Moved, OnPoint}
use Rattle.glyf_points.specs.declared.simple.GlyphPoint.{GlyphPoint}
use Rattle.glyph_variations.specs.Glyph.{stored_of}
use Rattle.glyph_variations.specs.Inferred.{moving_at}
use Rattle.glyph_variations.specs.MetricPoints.{point_count}
use Rattle.glyph_variations.specs.Outline.{outline_moved}
use Rattle.glyph_variations.specs.Times.{steps}
use Rattle.glyph_variations.specs.declared.sums.Moving.{Moving}
use Rattle.shape_common.specs.declared.face.hb_glyph_extents_t.{hb_glyph_extents_t}
use Rattle.shape_font.specs.Bytes.{u16_of}
use Rattle.shape_font.specs.PlacesAt.{no_place, no_frame, frame_of, shifted, through, part_at, widened, extents_by}
use Rattle.shape_font.specs.PointsAt.{outline_of, has_place, left_of, moved_left, metrics_glyph}
use Rattle.shape_font.specs.declared.face.FontFace.{FontFace}
use Rattle.shape_font.specs.declared.placed.Bounds.{Bounds}
use Rattle.shape_font.specs.declared.placed.Part.{Part}
use Rattle.shape_font.specs.declared.placed.Place.{Place}
use Rattle.shape_font.specs.declared.face.boxes.Gathering.{Gathering}
use Rattle.shape_font.specs.declared.face.boxes.MovedPoints.{MovedPoints}
use Rattle.shape_font.specs.declared.face.boxes.TheConstants.{MOST_BOX_STEPS}
use Rattle.shape_font.specs.declared.face.boxes.Walked.{Walked}

-- ---- points of a glyph, or offsets of its components, along the line and then up

abbrev pub coordinate : List Moving → ℕ → Float
coordinate ms i = add binary32 (moving_at ms i).position (moving_at ms i).pending

abbrev pub place_of : List Moving → List Moving → ℕ → Place
place_of xs ys i = record { x = coordinate xs i; y = coordinate ys i }

abbrev pub place_step : List Moving → List Moving → ℕ → List Place → List Place
place_step xs ys i places = places ++ place_of xs ys i ∷ []

unfoldable pub places_of : List Moving → List Moving → ℕ → List Place
places_of xs ys n = steps (place_step xs ys) n []

-- where they stand, and how much may still be read
pub record MovedPlaces : Type 0 where
  pub places : List Place
  pub left : ℕ

abbrev pub moved_points : MovedPoints → MovedPlaces
moved_points m = record { places = m.places.items; left = m.left }

unfoldable pub moved_of : FontFace → ℕ → List GlyphPoint → ℕ → MovedPlaces
moved_of f glyph points left = let g = stored_of f.gvar.now f.glyph_count glyph f.coordinates.now in
    let across = outline_moved g points false left in
    let upwards = outline_moved g points true across.walk.left in
    record { places = places_of across.moving upwards.moving (length points); left = upwards.walk.left - length points }

-- ---- what is gathered: parts, how much may still be read, how far all is moved, and the box so far

pub record Gathered : Type 0 where
  pub parts : List Part
  pub left : ℕ
  pub shift : Place
  pub bounds : Option Bounds

abbrev pub gathered : Gathering → Gathered
gathered g = record { parts = g.parts.items; left = g.left; shift = g.shift; bounds = g.bounds }

abbrev pub place_at : List Place → ℕ → Place
place_at places i = slice_index_or places i no_place

abbrev pub bounds_step : List Part → ℕ → Place → List Place → ℕ → Option Bounds → Option Bounds
bounds_step parts part shift places k b = widened b (shifted shift (through parts part (place_at places k)))

unfoldable pub bounds_with : List Part → ℕ → Place → List Place → Option Bounds → Option Bounds
bounds_with parts part shift places b = steps (bounds_step parts part shift places) (length places) b

-- a glyph that is drawn by itself
abbrev pub with_points : ℕ → MovedPlaces → Gathered → Option Gathered
with_points part m g = if nat_eq m.left 0 then None
    else Some (record g { left = m.left; bounds = bounds_with g.parts part g.shift m.places g.bounds })

abbrev pub outlined : FontFace → ℕ → List ℕ → Gathered → Option Gathered
outlined f part t g = option_and_then (λ points. with_points part (moved_of f (part_at g.parts part).glyph points g.left) g) (few_points t)

-- ---- a glyph that is made of others

abbrev pub offset_of : Component → GlyphPoint
offset_of c = elim c.placement [
  | Moved x y ↦ record { x = x; y = y; on = true; ends = true }
  | OnPoint whole own ↦ record { x = pos 0; y = pos 0; on = true; ends = true }
]

abbrev pub is_moved : Component → Bool
is_moved c = elim c.placement [ Moved x y ↦ true | OnPoint whole own ↦ false ]

abbrev pub all_moved : List Component → Bool
all_moved [] = true
all_moved (c ∷ cs) = is_moved c && all_moved cs

abbrev pub no_component : Component
no_component = record {
  glyph = 0;
  placement = Moved (pos 0) (pos 0);
  matrix = record { xx = pos 0; xy = pos 0; yx = pos 0; yy = pos 0 };
  is_offset_scaled = false;
  has_metrics = false;
}

abbrev pub component_at : List Component → ℕ → Component
component_at cs k = slice_index_or cs k no_component

abbrev pub part_of : ℕ → ℕ → Component → Place → Part
part_of outer depth c by = record { glyph = c.glyph; depth = depth + 1; frame = frame_of c by outer }

abbrev pub component_step : ℕ → ℕ → List Component → List Place → ℕ → List Part → List Part
component_step outer depth cs places k parts = parts ++ part_of outer depth (component_at cs k) (place_at places k) ∷ []

unfoldable pub with_parts : ℕ → ℕ → List Component → List Place → List Part → List Part
with_parts outer depth cs places parts = steps (component_step outer depth cs places) (length cs) parts

-- none of more than 64 components, or of more than 128 in all, or of one in more than 8 others
abbrev pub depth_of : Gathered → ℕ → ℕ
depth_of g part = (part_at g.parts part).depth

abbrev pub is_too_large : Gathered → ℕ → List ℕ → ℕ → Bool
is_too_large g part t count = nat_lt 64 (unwrap_or (point_count t) 0) || nat_le 8 (depth_of g part) || nat_lt 128 (length g.parts + count)

abbrev pub parts_pushed : ℕ → ℕ → List Component → List Place → Gathered → Gathered
parts_pushed part depth cs places g = record g { parts = with_parts part depth cs places g.parts }

abbrev pub with_components : ℕ → List Component → MovedPlaces → Gathered → Option Gathered
with_components part cs m g = if nat_eq m.left 0 then None
    else Some (record (parts_pushed part (depth_of g part) cs m.places g) { left = m.left })

abbrev pub composed : FontFace → ℕ → List ℕ → Gathered → Option Gathered
composed f part t g = let cs = few_components t in
    (if is_too_large g part t (length cs) then None
    else (if all_moved cs then with_components part cs (moved_of f (part_at g.parts part).glyph (map offset_of cs) g.left) g else None))

-- ---- one part after the other

abbrev pub bytes_of_part : FontFace → ℕ → List ℕ
bytes_of_part f glyph = unwrap_or (outline_of f glyph) []

abbrev pub part_step : FontFace → ℕ → Gathered → Option Gathered
part_step f part g = let t = bytes_of_part f (part_at g.parts part).glyph in
    (if nat_le 0x8000 (u16_of t 0) then composed f part t g else outlined f part t g)

abbrev pub parts_from : FontFace → ℕ → ℕ → Gathered → Option Gathered
parts_from f zero i g = Some g
parts_from f (suc n) i g = if nat_le (length g.parts) i then Some g else option_and_then (parts_from f n (i + 1)) (part_step f i g)

unfoldable pub most_parts : ℕ
most_parts = 128

-- all is moved so that the left point for metrics comes to stand at 0
abbrev pub left_by : FontFace → ℕ → List ℕ → Option Float
left_by f glyph t = moved_left (stored_of f.gvar.now f.glyph_count glyph f.coordinates.now) t (left_of f glyph t)

unfoldable pub left_at : FontFace → ℕ → Option Float
left_at f glyph = option_and_then (λ t. left_by f glyph t) (outline_of f glyph)

abbrev pub shift_of : FontFace → ℕ → Place
shift_of f glyph = record { x = sub binary32 nothing (unwrap_or (left_at f (metrics_glyph f glyph)) nothing); y = nothing }

abbrev pub begun : ℕ → ℕ → Place → Gathered
begun left glyph shift = record {
  parts = record { glyph = glyph; depth = 0; frame = no_frame } ∷ [];
  left = left;
  shift = shift;
  bounds = None;
}

-- the least box that holds all points, none without points, and how much is left to be read
abbrev pub walked : Gathered → Walked
walked g = record { bounds = g.bounds; left = g.left }

unfoldable pub bounds_there : FontFace → ℕ → ℕ → Option Walked
bounds_there f left glyph =
    if has_place f glyph then option_map walked (parts_from f most_parts 0 (begun left glyph (shift_of f glyph))) else None

unfoldable pub box_at : FontFace → ℕ → Option hb_glyph_extents_t
box_at f glyph = option_map (λ (w : Walked). extents_by w.bounds) (bounds_there f MOST_BOX_STEPS glyph)
