-- Frames and boxes, and those of two glyphs at coordinates, half of the way to the peak of a tuple.
use Rattle.std.specs.Prelude.{◌≡◌, ℕ, ℤ, List, [], ◌∷◌, ◌++◌, Option, Some, None, pos, negsuc, true, false, refl}
use Rattle.std.specs.Float.{fin, binary32, round_to_format, round_with}
use Rattle.std.specs.Int.{int_wrap}
use lib.Count.{count_trailing_zeros}
use lib.Ieee.{round, size, span, climb, units, odd, of_bits, of_fields, of_int, div, mul, add, sub, sum, eq, lt, to_signed}
use Rattle.cff_tables.specs.declared.font.CffFont.{CffFont}
use Rattle.font_bytes.specs.Bytes as numbers
use Rattle.font_variations.specs.Deltas.{rounded}
use Rattle.font_variations.specs.Tents.{nothing}
use Rattle.font_variations.specs.Worked.Deltas.{there}
use Rattle.glyf_points.specs.Bounded.{few_components}
use Rattle.glyf_points.specs.declared.composite.Component.{Component}
use Rattle.glyf_points.specs.declared.composite.Matrix.{Matrix}
use Rattle.glyf_points.specs.declared.composite.Placement.TheVariants.{Moved, OnPoint}
use Rattle.glyph_variations.specs.Inferred.{inferred, spread, all_spread}
use Rattle.glyph_variations.specs.Outline.{outline_moved, listed_of, flushed, all_added}
use Rattle.glyph_variations.specs.Sums.{moved_to}
use Rattle.glyph_variations.specs.Tuples.{ratio64, part_of, scalar_of}
use Rattle.glyph_variations.specs.declared.sums.Moving.{Moving}
use Rattle.shape_common.specs.Wrapping.{◌+ʷ◌, ◌-ʷ◌}
use Rattle.shape_common.specs.declared.face.hb_glyph_extents_t.{hb_glyph_extents_t}
use Rattle.shape_font.specs.Bytes.{i16_of}
use Rattle.shape_font.specs.BoxesAt
use Rattle.shape_font.specs.Face.{outlined_extents, is_default, drawn_there}
use Rattle.shape_font.specs.Metrics.{no_box}
use Rattle.shape_font.specs.PlacesAt.{placed, frame_of, through, widened, bounded, no_frame}
use Rattle.shape_font.specs.PointsAt.{point_at, moved_left, metrics_glyph}
use Rattle.shape_font.specs.Worked.Glyphs.{words}
use Rattle.shape_font.specs.declared.face.FontFace.{FontFace}
use Rattle.shape_font.specs.declared.placed.Bounds.{Bounds}
use Rattle.shape_font.specs.declared.placed.Part.{Part}
use Rattle.shape_font.specs.declared.placed.Place.{Place}

abbrev place : ℤ → ℤ → Place
place x y = record { x = of_int binary32 x; y = of_int binary32 y }

-- x becomes 2 x - y, and y becomes 3 x + y / 2
abbrev slanted : Matrix
slanted = record { xx = pos 32768; xy = pos 49152; yx = negsuc 16383; yy = pos 8192 }

-- at 9, with -2 to be added
abbrev waiting : Moving
waiting = record { position = of_int binary32 (pos 9); pending = of_int binary32 (negsuc 1) }

abbrev component : Component
component = record { glyph = 5; placement = Moved (pos 7) (pos 8); matrix = slanted; is_offset_scaled = false; has_metrics = false }

abbrev by_points : Component
by_points = record component { placement = OnPoint 3 4 }

-- glyph 5 twice, one in the other, each moved by 100 and -50
abbrev part : ℕ → ℕ → Part
part depth outer = record { glyph = 5; depth = depth; frame = frame_of component (place (pos 100) (negsuc 49)) outer }

abbrev nested : List Part
nested = record { glyph = 9; depth = 0; frame = no_frame } ∷ part 1 0 ∷ part 2 1 ∷ []

abbrev halves : Bounds
halves = record {
  low = record { x = fin false 21 (negsuc 0); y = fin true 81 (negsuc 1) };
  high = record { x = fin false 221 (negsuc 0); y = fin false 1401 (negsuc 0) };
}

pub record WorkedPlaces : Type 0 where
  -- 2 * 10 - 4 + 100, 3 * 10 + 4 / 2 - 50
  pub multiplied_and_moved : placed (frame_of component (place (pos 100) (negsuc 49)) 0) (place (pos 10) (pos 4)) ≡ place (pos 116) (negsuc 17)
  -- 2 * 110 + 46, 3 * 110 - 46 / 2
  pub moved_and_multiplied : placed (frame_of (record component { is_offset_scaled = true }) (place (pos 100) (negsuc 49)) 0) (place (pos 10) (pos 4))
      ≡ place (pos 266) (pos 307)
  pub of_the_whole : through nested 0 (place (pos 10) (pos 4)) ≡ place (pos 10) (pos 4)
  pub of_a_component : through nested 1 (place (pos 10) (pos 4)) ≡ place (pos 116) (negsuc 17)
  -- 2 * 116 + 18 + 100, 3 * 116 - 9 - 50
  pub of_one_in_another : through nested 2 (place (pos 10) (pos 4)) ≡ place (pos 350) (pos 289)
  pub first_place : widened None (place (pos 3) (pos 4)) ≡ Some (record { low = place (pos 3) (pos 4); high = place (pos 3) (pos 4) })
  pub two_places : widened (Some (record { low = place (pos 3) (pos 4); high = place (pos 3) (pos 4) })) (place (pos 5) (pos 1))
      ≡ Some (record { low = place (pos 3) (pos 1); high = place (pos 5) (pos 4) })
  pub within : widened (Some (record { low = place (pos 3) (pos 1); high = place (pos 5) (pos 4) })) (place (pos 4) (pos 2))
      ≡ Some (record { low = place (pos 3) (pos 1); high = place (pos 5) (pos 4) })
  -- 10.5 to 110.5, and -20.25 to 700.5: from 11 it is 99.5, and from 701 down it is 721.25
  pub whole_units : bounded halves ≡ record { x_bearing = pos 11; y_bearing = pos 701; width = pos 100; height = negsuc 720 }
  pub no_width : bounded (record { low = place (pos 3) (pos 1); high = place (pos 3) (pos 4) }) ≡ no_box
  pub no_height : bounded (record { low = place (pos 3) (pos 4); high = place (pos 5) (pos 4) }) ≡ no_box

-- three points, 100 0, 200 0 and 150 300; and that glyph 10 to the right and 20 lower, or placed by points
abbrev triangle : List ℕ
triangle = 0 ∷ 1 ∷ 0 ∷ 100 ∷ 0 ∷ 0 ∷ 0 ∷ 200 ∷ 1 ∷ 44 ∷ 0 ∷ 2 ∷ 0 ∷ 0 ∷ 0x33 ∷ 0x33 ∷ 0x03 ∷ 100 ∷ 100 ∷ 50 ∷ 1 ∷ 44 ∷ []

abbrev composite : ℕ → List ℕ
composite flags = 255 ∷ 255 ∷ 0 ∷ 110 ∷ 255 ∷ 236 ∷ 0 ∷ 210 ∷ 1 ∷ 24 ∷ 0 ∷ flags ∷ 0 ∷ 0 ∷ 10 ∷ 236 ∷ []

-- a table of one axis and two glyphs, of which one has a tuple with its peak at 1: a point alone, 100 along the line and 20 up
abbrev moving : ℕ → ℕ → List ℕ
moving first point = 0 ∷ 1 ∷ 0 ∷ 0 ∷ 0 ∷ 1 ∷ 0 ∷ 0 ∷ 0 ∷ 0 ∷ 0 ∷ 32 ∷ 0 ∷ 2 ∷ 0 ∷ 1 ∷ 0 ∷ 0 ∷ 0 ∷ 32 ∷ 0 ∷ 0 ∷ 0 ∷ 0 ∷ 0 ∷ 0 ∷ 0 ∷ first
    ∷ 0 ∷ 0 ∷ 0 ∷ 17 ∷ 0 ∷ 1 ∷ 0 ∷ 10 ∷ 0 ∷ 7 ∷ 0xA0 ∷ 0 ∷ 0x40 ∷ 0 ∷ 1 ∷ 0 ∷ point ∷ 0 ∷ 100 ∷ 0 ∷ 20 ∷ []

abbrev of_the_first : ℕ → List ℕ
of_the_first = moving 17

abbrev of_the_second : ℕ → List ℕ
of_the_second = moving 0

-- their left bearings are 50 and 60
abbrev drawn : FontFace → List ℕ → ℕ → FontFace
drawn f gvar flags = record f {
  coordinates = record f.coordinates { now = there };
  gvar = record f.gvar { now = gvar };
  loca = record f.loca { now = words (0 ∷ 11 ∷ 19 ∷ []) };
  glyf = record f.glyf { now = triangle ++ composite flags };
  hmtx = record f.hmtx { now = words (500 ∷ 50 ∷ 600 ∷ 60 ∷ []) };
  long_places = false;
  outlines = true;
  glyph_count = 2;
  h_count = 2;
}

abbrev extents : ℤ → ℤ → Option hb_glyph_extents_t
extents x y = Some (record { x_bearing = x; y_bearing = y; width = pos 100; height = negsuc 299 })

abbrev box_of : FontFace → ℕ → Option hb_glyph_extents_t
box_of f glyph = outlined_extents f (record { 0 = glyph })

pub record WorkedBoxes : Type 0 where
  pub still : (f : FontFace) → box_of (drawn f [] 2) 0 ≡ extents (pos 50) (pos 300)
  -- the one touched point of its contour moves all of it by 50 and 10
  pub moved : (f : FontFace) → box_of (drawn f (of_the_first 2) 2) 0 ≡ extents (pos 100) (pos 310)
  pub composite_still : (f : FontFace) → box_of (drawn f [] 2) 1 ≡ extents (pos 60) (pos 280)
  pub component_moved : (f : FontFace) → box_of (drawn f (of_the_first 0) 2) 1 ≡ extents (pos 110) (pos 290)
  pub offset_moved : (f : FontFace) → box_of (drawn f (of_the_second 0) 2) 1 ≡ extents (pos 110) (pos 290)
  -- the left point of the whole, to which all is moved
  pub left_moved : (f : FontFace) → box_of (drawn f (of_the_second 1) 2) 1 ≡ extents (pos 10) (pos 280)
  pub left_of_the_component : (f : FontFace) → box_of (drawn f (of_the_first 3) 2) 1 ≡ extents (pos 60) (pos 280)
  pub placed_by_points : (f : FontFace) → box_of (drawn f [] 0) 1 ≡ None
  pub no_place : (f : FontFace) → box_of (record (drawn f [] 2) { loca = record f.loca { now = words (0 ∷ []) } }) 0 ≡ None
  pub no_outline : (f : FontFace) → box_of (record (drawn f [] 2) { loca = record f.loca { now = words (0 ∷ 0 ∷ 0 ∷ []) } }) 0 ≡ Some no_box
  pub cut_off : (f : FontFace) → box_of (record (drawn f [] 2) { loca = record f.loca { now = words (0 ∷ 10 ∷ 19 ∷ []) } }) 0 ≡ None
  -- what waits is added; past the last point there is nothing
  pub last_coordinate : BoxesAt.coordinate (waiting ∷ []) 0 ≡ of_int binary32 (pos 7)
  pub past_the_last : BoxesAt.coordinate (waiting ∷ []) 1 ≡ nothing
  pub too_much_read : (g : BoxesAt.Gathered) → BoxesAt.with_points 0 (record { places = []; left = 0 }) g ≡ None
  pub too_deep : BoxesAt.is_too_large (record { parts = part 8 0 ∷ []; left = 9; shift = place (pos 0) (pos 0); bounds = None }) 0 [] 1 ≡ true
  pub deep : BoxesAt.is_too_large (record { parts = part 7 0 ∷ []; left = 9; shift = place (pos 0) (pos 0); bounds = None }) 0 [] 127 ≡ false
  pub too_many_parts :
      BoxesAt.is_too_large (record { parts = part 7 0 ∷ []; left = 9; shift = place (pos 0) (pos 0); bounds = None }) 0 [] 128 ≡ true
  pub offset : BoxesAt.offset_of component ≡ record { x = pos 7; y = pos 8; on = true; ends = true }
  pub by_its_points : BoxesAt.all_moved (component ∷ by_points ∷ []) ≡ false
  pub one_deeper : BoxesAt.with_parts 4 2 (component ∷ []) (place (pos 100) (negsuc 49) ∷ []) [] ≡ part 3 4 ∷ []
  pub default_coordinates : is_default (pos 0 ∷ pos 0 ∷ []) ≡ true
  pub other_coordinates : is_default (pos 0 ∷ pos 1 ∷ []) ≡ false
  -- charstrings don't vary
  pub of_charstrings : (f : FontFace) (c : CffFont) → f.cff ≡ Some c → c.layout.wide ≡ true → f.coordinates.now ≡ there → drawn_there f 0 ≡ None

pub worked_places : WorkedPlaces
unfolding through widened bounded rounded round_with div mul add sub sum eq lt to_signed of_int round size span climb units odd
    count_trailing_zeros of_bits of_fields
worked_places = record {
  multiplied_and_moved = refl;
  moved_and_multiplied = refl;
  of_the_whole = refl;
  of_a_component = refl;
  of_one_in_another = refl;
  first_place = refl;
  two_places = refl;
  within = refl;
  whole_units = refl;
  no_width = refl;
  no_height = refl;
}

pub worked_boxes : WorkedBoxes
unfolding BoxesAt.box_at BoxesAt.bounds_there BoxesAt.moved_of BoxesAt.places_of BoxesAt.bounds_with BoxesAt.with_parts BoxesAt.most_parts BoxesAt.left_at
    few_components through widened bounded point_at moved_left metrics_glyph moved_to outline_moved listed_of flushed all_added all_spread spread inferred
    scalar_of part_of ratio64 round_to_format rounded ◌+ʷ◌ ◌-ʷ◌ int_wrap i16_of round_with numbers.i8_of numbers.i16_of numbers.i32_of
    div mul add sub sum eq lt to_signed of_int round size span climb units odd count_trailing_zeros of_bits of_fields
worked_boxes = record {
  still = λ _. refl;
  moved = λ _. refl;
  composite_still = λ _. refl;
  component_moved = λ _. refl;
  offset_moved = λ _. refl;
  left_moved = λ _. refl;
  left_of_the_component = λ _. refl;
  placed_by_points = λ _. refl;
  no_place = λ _. refl;
  no_outline = λ _. refl;
  cut_off = λ _. refl;
  last_coordinate = refl;
  past_the_last = refl;
  too_much_read = λ _. refl;
  too_deep = refl;
  deep = refl;
  too_many_parts = refl;
  offset = refl;
  by_its_points = refl;
  one_deeper = refl;
  default_coordinates = refl;
  other_coordinates = refl;
  of_charstrings = λ f c e w k. rw (e, w, k) refl;
}
