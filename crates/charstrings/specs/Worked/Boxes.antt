-- boxes, by hand
use Rattle.std.specs.Prelude.{◌≡◌, ℤ, pos, negsuc, [], ◌∷◌, ◌*ℤ◌, true, false, Some, None, refl}
use Rattle.std.specs.Int.{int_wrap}
use Rattle.charstrings.specs.Numbers.{plus}
use Rattle.charstrings.specs.Outline.{with_strokes, no_bounds, merged, offset, is_empty}
use Rattle.charstrings.specs.Boxes.{floor_of, rounded, box_of}
use Rattle.charstrings.specs.Worked.Runs.{at}
use Rattle.charstrings.specs.declared.bounds.Bounds.{Bounds}
use Rattle.charstrings.specs.declared.strokes.Stroke.TheVariants.{Move, Straight, Bent}

abbrev pub box : ℤ → ℤ → ℤ → ℤ → Bounds
box left low right high = record { low = at left low; high = at right high }

pub record WorkedBounds : Type 0 where
  pub of_nothing : with_strokes no_bounds [] ≡ no_bounds
  pub a_move_is_not_drawn : with_strokes no_bounds (Move (at (pos 5) (pos 6)) ∷ []) ≡ no_bounds
  pub a_line : with_strokes no_bounds (Straight (at (pos 1) (pos 9)) (at (pos 4) (pos 2)) ∷ []) ≡ box (pos 1) (pos 2) (pos 4) (pos 9)
  pub control_points_count : with_strokes no_bounds (Bent (at (pos 0) (pos 0)) (at (pos 9) (negsuc 2)) (at (negsuc 4) (pos 7)) (at (pos 1) (pos 1)) ∷ [])
      ≡ box (negsuc 4) (negsuc 2) (pos 9) (pos 7)
  pub two_lines : with_strokes no_bounds (Straight (at (pos 0) (pos 0)) (at (pos 4) (pos 2)) ∷ Straight (at (pos 4) (pos 2)) (at (pos 3) (pos 8)) ∷ [])
      ≡ box (pos 0) (pos 0) (pos 4) (pos 8)
  pub nothing_is_empty : is_empty no_bounds ≡ true
  pub without_width : is_empty (box (pos 1) (pos 1) (pos 1) (pos 2)) ≡ true
  pub without_height : is_empty (box (pos 1) (pos 1) (pos 2) (pos 1)) ≡ true
  pub not_empty : is_empty (box (pos 1) (pos 1) (pos 2) (pos 2)) ≡ false
  pub both : merged (box (pos 0) (pos 0) (pos 2) (pos 2)) (box (pos 1) (negsuc 0) (pos 5) (pos 1)) ≡ box (pos 0) (negsuc 0) (pos 5) (pos 2)
  pub first_empty : merged no_bounds (box (pos 1) (pos 1) (pos 2) (pos 2)) ≡ box (pos 1) (pos 1) (pos 2) (pos 2)
  pub second_empty : merged (box (pos 1) (pos 1) (pos 2) (pos 2)) no_bounds ≡ box (pos 1) (pos 1) (pos 2) (pos 2)
  pub moved : offset (box (pos 1) (pos 1) (pos 2) (pos 2)) (pos 131072) (negsuc 65535) ≡ box (pos 3) (pos 0) (pos 4) (pos 1)
  pub empty_stays : offset no_bounds (pos 131072) (pos 65536) ≡ no_bounds

-- a half goes upwards
pub record WorkedRounding : Type 0 where
  pub half : rounded (pos 32768) ≡ pos 1
  pub less_than_half : rounded (pos 32767) ≡ pos 0
  pub one_and_a_half : rounded (pos 98304) ≡ pos 2
  pub whole : rounded (pos 65536000) ≡ pos 1000
  pub minus_a_half : rounded (negsuc 32767) ≡ pos 0
  pub past_minus_a_half : rounded (negsuc 32768) ≡ negsuc 0
  pub minus_one_and_a_half : rounded (negsuc 98303) ≡ negsuc 0
  pub minus_a_thousand : rounded (negsuc 65535999) ≡ negsuc 999
  pub as_far_as_it_goes : rounded (pos 4611686018427387904) ≡ pos 2147483647
  pub as_far_down : rounded (negsuc 4611686018427387903) ≡ negsuc 2147483646

pub record WorkedBoxes : Type 0 where
  pub a_box : box_of (box (pos 10) (negsuc 19) (pos 500) (pos 700))
      ≡ record { x_bearing = pos 10; y_bearing = pos 700; width = pos 490; height = negsuc 719 }
  pub without_width : box_of (box (pos 10) (pos 0) (pos 10) (pos 700)) ≡ record { x_bearing = pos 0; y_bearing = pos 700; width = pos 0; height = negsuc 699 }
  pub without_height : box_of (box (pos 10) (pos 7) (pos 20) (pos 7)) ≡ record { x_bearing = pos 10; y_bearing = pos 0; width = pos 10; height = pos 0 }
  pub nothing : box_of no_bounds ≡ record { x_bearing = pos 0; y_bearing = pos 0; width = pos 0; height = pos 0 }
  -- from 10.5 to 20: 11, and 9 from there
  pub width_from_the_rounded : box_of (record { low = record { x = pos 688128; y = pos 0 }; high = record { x = pos 1310720; y = pos 65536 } })
      ≡ record { x_bearing = pos 11; y_bearing = pos 1; width = pos 9; height = negsuc 0 }

pub worked_bounds : WorkedBounds
unfolding plus int_wrap merged offset
worked_bounds = record {
  of_nothing = refl;
  a_move_is_not_drawn = refl;
  a_line = refl;
  control_points_count = refl;
  two_lines = refl;
  nothing_is_empty = refl;
  without_width = refl;
  without_height = refl;
  not_empty = refl;
  both = refl;
  first_empty = refl;
  second_empty = refl;
  moved = refl;
  empty_stays = refl;
}

pub worked_rounding : WorkedRounding
unfolding plus int_wrap
worked_rounding = record {
  half = refl;
  less_than_half = refl;
  one_and_a_half = refl;
  whole = refl;
  minus_a_half = refl;
  past_minus_a_half = refl;
  minus_one_and_a_half = refl;
  minus_a_thousand = refl;
  as_far_as_it_goes = refl;
  as_far_down = refl;
}

pub worked_boxes : WorkedBoxes
unfolding plus int_wrap
worked_boxes = record {
  a_box = refl;
  without_width = refl;
  without_height = refl;
  nothing = refl;
  width_from_the_rounded = refl;
}
