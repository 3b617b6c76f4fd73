-- Single marks, worked out by hand.
use Rattle.std.specs.Prelude.{◌≡◌, ℤ, pos, negsuc, true, false, [], ◌∷◌, map, Some, None, refl}
use Rattle.std.specs.Int.{int_wrap}
use Rattle.shape_common.specs.Positions.{zero_position}
use Rattle.shape_common.specs.Wrapping.{◌+ʷ◌, ◌-ʷ◌, neg_w}
use Rattle.shape_common.specs.declared.positions.GlyphPosition.{GlyphPosition}
use Rattle.shape_fallback.specs.Extents.{Extents}
use Rattle.shape_fallback.specs.OneMark.{mark_x_offset, is_double, is_left, is_right, is_below, is_above, is_attached, agree, lowered, raised}
use Rattle.shape_fallback.specs.OneMark.{stacked, mark_placed}
use Rattle.shape_fallback.specs.declared.ot_shape_fallback.one_mark.Stacked.{Stacked}

-- x_bearing, y_bearing, width, height
abbrev pub extents : ℤ → ℤ → ℤ → ℤ → Extents
extents x y width height = record { x_bearing = x; y_bearing = y; width = width; height = height }

-- a mark of width 201 at 50, on a base of width 600 at 10
pub record XOffsets : Type 0 where
  pub double : map (λ ccc. mark_x_offset true true ccc (extents (pos 10) (pos 0) (pos 600) (pos 0))
      (extents (pos 50) (pos 0) (pos 201) (pos 0)))
      (233 ∷ 234 ∷ []) ≡ pos 460 ∷ pos 460 ∷ []
  pub double_backward : map (λ ccc. mark_x_offset true false ccc (extents (pos 10) (pos 0) (pos 600) (pos 0))
      (extents (pos 50) (pos 0) (pos 201) (pos 0))) (233 ∷ 234 ∷ []) ≡ negsuc 139 ∷ negsuc 139 ∷ []
  pub double_vertical : map (λ ccc. mark_x_offset false true ccc (extents (pos 10) (pos 0) (pos 600) (pos 0))
      (extents (pos 50) (pos 0) (pos 201) (pos 0))) (233 ∷ 234 ∷ []) ≡ pos 159 ∷ pos 159 ∷ []
  pub left : map (λ ccc. mark_x_offset true true ccc (extents (pos 10) (pos 0) (pos 600) (pos 0))
      (extents (pos 50) (pos 0) (pos 201) (pos 0)))
      (200 ∷ 218 ∷ 228 ∷ []) ≡ negsuc 39 ∷ negsuc 39 ∷ negsuc 39 ∷ []
  pub right : map (λ ccc. mark_x_offset true true ccc (extents (pos 10) (pos 0) (pos 600) (pos 0))
      (extents (pos 50) (pos 0) (pos 201) (pos 0)))
      (216 ∷ 222 ∷ 232 ∷ []) ≡ pos 359 ∷ pos 359 ∷ pos 359 ∷ []
  pub centred : map (λ ccc. mark_x_offset true true ccc (extents (pos 10) (pos 0) (pos 600) (pos 0))
      (extents (pos 50) (pos 0) (pos 201) (pos 0)))
      (1 ∷ 202 ∷ 214 ∷ 220 ∷ 224 ∷ 226 ∷ 230 ∷ 240 ∷ [])
      ≡ pos 159 ∷ pos 159 ∷ pos 159 ∷ pos 159 ∷ pos 159 ∷ pos 159 ∷ pos 159 ∷ pos 159 ∷ []
  -- halves are rounded towards zero: that of -201, and that of a mark's width of -201
  pub narrow_base : mark_x_offset true true 230 (extents (pos 10) (pos 0) (pos 200) (pos 0)) (extents (pos 50) (pos 0) (pos 401) (pos 0))
      ≡ negsuc 139
  pub reversed_mark : mark_x_offset true true 233 (extents (pos 10) (pos 0) (pos 600) (pos 0)) (extents (pos 50) (pos 0) (negsuc 200) (pos 0))
      ≡ pos 660
  -- the widest base and the least width: their difference is -1
  pub widest : mark_x_offset true true 230 (extents (pos 0) (pos 0) (pos 2147483647) (pos 0))
      (extents (pos 0) (pos 0) (negsuc 2147483647) (pos 0))
      ≡ pos 0

x_offsets : XOffsets
unfolding is_double is_left is_right ◌+ʷ◌ ◌-ʷ◌ int_wrap
x_offsets =
    record {
      double = refl;
      double_backward = refl;
      double_vertical = refl;
      left = refl;
      right = refl;
      centred = refl;
      narrow_base = refl;
      reversed_mark = refl;
      widest = refl;
    }

abbrev pub stack : ℤ → Extents → Stacked
stack y base = record { y_offset = y; base = base }

-- a mark 100 high under -50, below a base from 700 down to 0
pub record BelowTheBase : Type 0 where
  pub a_gap_apart : map (λ ccc. stacked (pos 62) ccc (extents (pos 0) (pos 700) (pos 600) (negsuc 699))
      (extents (pos 50) (negsuc 49) (pos 200) (negsuc 99))) (218 ∷ 220 ∷ 222 ∷ 233 ∷ [])
      ≡ stack (negsuc 11) (extents (pos 0) (pos 700) (pos 600) (negsuc 861))
      ∷ stack (negsuc 11) (extents (pos 0) (pos 700) (pos 600) (negsuc 861))
      ∷ stack (negsuc 11) (extents (pos 0) (pos 700) (pos 600) (negsuc 861))
      ∷ stack (negsuc 11) (extents (pos 0) (pos 700) (pos 600) (negsuc 861))
      ∷ []
  pub attached : map (λ ccc. stacked (pos 62) ccc (extents (pos 0) (pos 700) (pos 600) (negsuc 699))
      (extents (pos 50) (negsuc 49) (pos 200) (negsuc 99))) (200 ∷ 202 ∷ [])
      ≡ stack (pos 0) (extents (pos 0) (pos 700) (pos 600) (negsuc 849))
      ∷ stack (pos 0) (extents (pos 0) (pos 700) (pos 600) (negsuc 849)) ∷ []
  pub never_up : stacked (pos 62) 220 (extents (pos 0) (pos 700) (pos 600) (negsuc 699))
      (extents (pos 50) (negsuc 99) (pos 200) (negsuc 99))
      ≡ stack (pos 0) (extents (pos 0) (pos 700) (pos 600) (negsuc 899))
  pub touching : stacked (pos 62) 220 (extents (pos 0) (pos 700) (pos 600) (negsuc 699))
      (extents (pos 50) (negsuc 61) (pos 200) (negsuc 99))
      ≡ stack (pos 0) (extents (pos 0) (pos 700) (pos 600) (negsuc 861))
  pub no_gap_up : stacked (pos 0) 220 (extents (pos 0) (pos 700) (pos 600) (negsuc 699))
      (extents (pos 50) (negsuc 49) (pos 200) (negsuc 99))
      ≡ stack (pos 50) (extents (pos 0) (pos 700) (pos 600) (negsuc 799))
  pub no_gap_down : stacked (pos 0) 220 (extents (pos 0) (pos 700) (pos 600) (negsuc 699)) (extents (pos 50) (pos 12) (pos 200) (negsuc 99))
      ≡ stack (pos 0) (extents (pos 0) (pos 700) (pos 600) (negsuc 787))

below_the_base : BelowTheBase
unfolding is_below is_above is_attached agree lowered raised ◌+ʷ◌ ◌-ʷ◌ neg_w int_wrap
below_the_base = record { a_gap_apart = refl; attached = refl; never_up = refl; touching = refl; no_gap_up = refl; no_gap_down = refl }

-- a mark from 800 down to 650, above that base
pub record AboveTheBase : Type 0 where
  pub a_gap_apart : map (λ ccc. stacked (pos 62) ccc (extents (pos 0) (pos 700) (pos 600) (negsuc 699))
      (extents (pos 50) (pos 800) (pos 200) (negsuc 149))) (228 ∷ 230 ∷ 232 ∷ 234 ∷ [])
      ≡ stack (pos 112) (extents (pos 0) (pos 912) (pos 600) (negsuc 911))
      ∷ stack (pos 112) (extents (pos 0) (pos 912) (pos 600) (negsuc 911))
      ∷ stack (pos 112) (extents (pos 0) (pos 912) (pos 600) (negsuc 911))
      ∷ stack (pos 112) (extents (pos 0) (pos 912) (pos 600) (negsuc 911)) ∷ []
  pub attached : map (λ ccc. stacked (pos 62) ccc (extents (pos 0) (pos 700) (pos 600) (negsuc 699))
      (extents (pos 50) (pos 800) (pos 200) (negsuc 149))) (214 ∷ 216 ∷ [])
      ≡ stack (pos 50) (extents (pos 0) (pos 850) (pos 600) (negsuc 849))
      ∷ stack (pos 50) (extents (pos 0) (pos 850) (pos 600) (negsuc 849)) ∷ []
  -- a mark that would come down by 38, by 39, or not at all goes half of the way
  pub half_down : stacked (pos 62) 230 (extents (pos 0) (pos 700) (pos 600) (negsuc 699)) (extents (pos 50) (pos 900) (pos 200) (negsuc 99))
      ≡ stack (negsuc 18) (extents (pos 0) (pos 881) (pos 600) (negsuc 880))
  pub odd_half : stacked (pos 62) 230 (extents (pos 0) (pos 700) (pos 600) (negsuc 699)) (extents (pos 50) (pos 901) (pos 200) (negsuc 99))
      ≡ stack (negsuc 19) (extents (pos 0) (pos 881) (pos 600) (negsuc 880))
  pub level : stacked (pos 62) 230 (extents (pos 0) (pos 700) (pos 600) (negsuc 699)) (extents (pos 50) (pos 862) (pos 200) (negsuc 99))
      ≡ stack (pos 0) (extents (pos 0) (pos 862) (pos 600) (negsuc 861))
  pub no_gap : stacked (pos 0) 230 (extents (pos 0) (pos 700) (pos 600) (negsuc 699)) (extents (pos 50) (pos 800) (pos 200) (negsuc 149))
      ≡ stack (pos 25) (extents (pos 0) (pos 825) (pos 600) (negsuc 824))
  -- an offset of -2^31 has no negative
  pub lowest : stacked (pos 62) 214 (extents (pos 0) (pos 0) (pos 0) (pos 0)) (extents (pos 0) (pos 2147483647) (pos 0) (pos 1))
      ≡ stack (pos 1073741824) (extents (pos 0) (negsuc 1073741824) (pos 0) (pos 1073741825))

above_the_base : AboveTheBase
unfolding is_below is_above is_attached agree lowered raised ◌+ʷ◌ ◌-ʷ◌ neg_w int_wrap
above_the_base =
    record { a_gap_apart = refl; attached = refl; half_down = refl; odd_half = refl; level = refl; no_gap = refl; lowest = refl }

abbrev pub moved_by : ℤ → ℤ → GlyphPosition
moved_by x y = record zero_position { x_advance = pos 7; x_offset = x; y_offset = y }

pub record OneMark : Type 0 where
  pub beside : map (λ ccc. stacked (pos 62) ccc (extents (pos 0) (pos 700) (pos 600) (negsuc 699))
      (extents (pos 50) (pos 800) (pos 200) (negsuc 149))) (1 ∷ 224 ∷ 226 ∷ 240 ∷ [])
      ≡ stack (pos 0) (extents (pos 0) (pos 700) (pos 600) (negsuc 699)) ∷ stack (pos 0) (extents (pos 0) (pos 700) (pos 600) (negsuc 699))
      ∷ stack (pos 0) (extents (pos 0) (pos 700) (pos 600) (negsuc 699))
      ∷ stack (pos 0) (extents (pos 0) (pos 700) (pos 600) (negsuc 699)) ∷ []
  pub without_extents : mark_placed (record { horizontal = true; forward = true; gap = pos 62 }) None 230
      (record { position = moved_by (pos 3) (pos 4); base = extents (pos 0) (pos 700) (pos 600) (negsuc 699) })
      ≡ record { position = moved_by (pos 3) (pos 4); base = extents (pos 0) (pos 700) (pos 600) (negsuc 699) }
  pub acute : mark_placed (record { horizontal = true; forward = true; gap = pos 62 }) (Some
      (extents (pos 50) (pos 800) (pos 200) (negsuc 149))) 230
      (record { position = moved_by (pos 3) (pos 4); base = extents (pos 0) (pos 700) (pos 600) (negsuc 699) })
      ≡ record { position = moved_by (pos 150) (pos 112); base = extents (pos 0) (pos 912) (pos 600) (negsuc 911) }
  pub dot_below : mark_placed (record { horizontal = true; forward = true; gap = pos 62 })
      (Some (extents (pos 50) (negsuc 49) (pos 200) (negsuc 99))) 220
      (record { position = moved_by (pos 3) (pos 4); base = extents (pos 0) (pos 700) (pos 600) (negsuc 699) })
      ≡ record { position = moved_by (pos 150) (negsuc 11); base = extents (pos 0) (pos 700) (pos 600) (negsuc 861) }

one_mark : OneMark
unfolding mark_placed is_double is_left is_right is_below is_above is_attached agree lowered raised ◌+ʷ◌ ◌-ʷ◌ neg_w int_wrap
one_mark = record { beside = refl; without_extents = refl; acute = refl; dot_below = refl }

pub record WorkedOneMark : Type 0 where
  pub across : XOffsets
  pub below : BelowTheBase
  pub above : AboveTheBase
  pub one : OneMark

pub worked_one_mark : WorkedOneMark
worked_one_mark = record { across = x_offsets; below = below_the_base; above = above_the_base; one = one_mark }
