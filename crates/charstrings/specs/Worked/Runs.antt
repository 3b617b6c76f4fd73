-- whole charstrings, run by hand
use Rattle.std.specs.Prelude.{◌≡◌, ℕ, ℤ, pos, negsuc, List, [], ◌∷◌, ◌++◌, ◌*ℤ◌, Bool, Option, Some, None, true, false, replicate, refl}
use Rattle.std.specs.Int.{int_wrap}
use Rattle.cff_tables.specs.declared.font.Layout.{Layout}
use Rattle.charstrings.specs.Numbers.{plus}
use Rattle.charstrings.specs.Machine.{Run, Stepped, first_run, step, stems_with, bias, mask_of}
use Rattle.charstrings.specs.Outline.{Outline, outline_from}
use Rattle.charstrings.specs.declared.strokes.Place.{Place}
use Rattle.charstrings.specs.declared.strokes.Stroke.{Stroke}
use Rattle.charstrings.specs.declared.strokes.Stroke.TheVariants.{Move, Straight, Bent}
use Rattle.charstrings.specs.declared.strokes.Accent.{Accent}

-- a layout whose global subroutines stand at a place, in a table `CFF2` or not
abbrev pub layout : Bool → ℕ → Layout
layout wide global = record {
  wide = wide;
  cid = false;
  glyph_count = 1;
  char_strings = 0;
  global = global;
  local = 0;
  charset = 0;
  strings = 0;
  fd_array = 0;
  fd_select = 0;
  vstore = 0;
}

-- what a table draws that is a charstring from its start up to a place; local subroutines stand at `local`, and global ones at `global`
abbrev pub drawn_in : Bool → ℕ → ℕ → List ℕ → ℕ → Option Outline
drawn_in wide local global t to = outline_from 30 t (layout wide global) local (first_run (record { from = 0; to = to }) 0)

abbrev pub drawn : List ℕ → ℕ → Option Outline
drawn t to = drawn_in false 0 0 t to

-- a place in whole units
abbrev pub at : ℤ → ℤ → Place
at x y = record { x = x *ℤ pos 65536; y = y *ℤ pos 65536 }

abbrev pub nothing : Option Outline
nothing = Some (record { strokes = []; accent = None })

-- from 10 right, a line of 20 upwards
abbrev pub a_line : Option Outline
a_line = Some (record { strokes = Move (at (pos 10) (pos 0)) ∷ Straight (at (pos 10) (pos 0)) (at (pos 10) (pos 20)) ∷ []; accent = None })

pub record WorkedCharstrings : Type 0 where
  pub hmoveto_vlineto : drawn (149 ∷ 22 ∷ 159 ∷ 7 ∷ 14 ∷ []) 5 ≡ a_line
  pub with_a_width : drawn (239 ∷ 149 ∷ 22 ∷ 159 ∷ 7 ∷ 14 ∷ []) 6 ≡ a_line
  pub rmoveto : drawn (239 ∷ 149 ∷ 139 ∷ 21 ∷ 159 ∷ 7 ∷ 14 ∷ []) 7 ≡ a_line
  pub vmoveto : drawn (149 ∷ 4 ∷ 14 ∷ []) 3 ≡ Some (record { strokes = Move (at (pos 0) (pos 10)) ∷ []; accent = None })
  pub rmoveto_of_one : drawn (149 ∷ 21 ∷ 14 ∷ []) 3 ≡ None
  pub hmoveto_of_none : drawn (22 ∷ 14 ∷ []) 2 ≡ None
  pub vmoveto_of_none : drawn (4 ∷ 14 ∷ []) 2 ≡ None
  pub a_curve : drawn (140 ∷ 141 ∷ 142 ∷ 143 ∷ 144 ∷ 145 ∷ 8 ∷ 14 ∷ []) 8
      ≡ Some (record { strokes = Bent (at (pos 0) (pos 0)) (at (pos 1) (pos 2)) (at (pos 4) (pos 6)) (at (pos 9) (pos 12)) ∷ []; accent = None })
  pub a_flex_of_two : drawn (140 ∷ 141 ∷ 12 ∷ 35 ∷ 14 ∷ []) 5 ≡ None
  pub without_an_end : drawn (149 ∷ 22 ∷ 159 ∷ 7 ∷ []) 4 ≡ None
  pub unknown_takes_all : drawn (149 ∷ 2 ∷ 22 ∷ 14 ∷ []) 4 ≡ None
  pub arithmetic_takes_all : drawn (149 ∷ 149 ∷ 12 ∷ 10 ∷ 22 ∷ 14 ∷ []) 6 ≡ None
  pub escape_at_the_end : drawn (149 ∷ 12 ∷ []) 2 ≡ None
  pub cut_off : drawn (28 ∷ 1 ∷ []) 2 ≡ None
  pub cut_off_after_255 : drawn (255 ∷ 14 ∷ []) 2 ≡ nothing
  pub too_many_steps : step (14 ∷ []) (layout false 0) 0 (record (first_run (record { from = 0; to = 1 }) 0) { steps_left = 0 }) ≡ None

-- hstem of two arguments, then a mask for three stems; a mask of nine stems takes two bytes
pub record WorkedHints : Type 0 where
  pub masked : drawn (139 ∷ 139 ∷ 1 ∷ 139 ∷ 139 ∷ 139 ∷ 139 ∷ 19 ∷ 224 ∷ 14 ∷ []) 10 ≡ nothing
  pub counted_once : drawn (139 ∷ 139 ∷ 1 ∷ 19 ∷ 224 ∷ 20 ∷ 224 ∷ 14 ∷ []) 8 ≡ nothing
  pub every_stem_operator : drawn (139 ∷ 139 ∷ 18 ∷ 139 ∷ 139 ∷ 3 ∷ 139 ∷ 139 ∷ 23 ∷ 19 ∷ 14 ∷ 14 ∷ []) 12 ≡ nothing
  pub two_bytes : drawn (replicate 18 139 ++ 1 ∷ 19 ∷ 224 ∷ 224 ∷ 14 ∷ []) 23 ≡ nothing
  pub bytes_not_there : drawn (139 ∷ 139 ∷ 1 ∷ 19 ∷ []) 4 ≡ None

-- an INDEX at 3 (or 8) of one subroutine, number 0, which is called by -107: 20 vlineto return
abbrev pub subroutine : List ℕ
subroutine = 0 ∷ 1 ∷ 1 ∷ 1 ∷ 4 ∷ 159 ∷ 7 ∷ 11 ∷ []

pub record WorkedCalls : Type 0 where
  pub local : drawn_in false 5 0 (149 ∷ 22 ∷ 32 ∷ 10 ∷ 14 ∷ subroutine) 5 ≡ a_line
  pub global : drawn_in false 0 5 (149 ∷ 22 ∷ 32 ∷ 29 ∷ 14 ∷ subroutine) 5 ≡ a_line
  pub none : drawn_in false 0 0 (149 ∷ 22 ∷ 32 ∷ 10 ∷ 14 ∷ subroutine) 5 ≡ None
  pub past_the_last : drawn_in false 5 0 (149 ∷ 22 ∷ 33 ∷ 10 ∷ 14 ∷ subroutine) 5 ≡ None
  pub before_the_first : drawn_in false 6 0 (149 ∷ 22 ∷ 251 ∷ 0 ∷ 10 ∷ 14 ∷ subroutine) 6 ≡ None
  pub without_a_number : drawn_in false 5 0 (149 ∷ 22 ∷ 10 ∷ 14 ∷ 14 ∷ subroutine) 5 ≡ None
  pub return_without_a_caller : drawn (11 ∷ 14 ∷ []) 2 ≡ None
  -- a subroutine that calls itself
  pub itself : drawn_in false 3 0 (32 ∷ 10 ∷ 14 ∷ 0 ∷ 1 ∷ 1 ∷ 1 ∷ 3 ∷ 32 ∷ 10 ∷ []) 3 ≡ None
  pub ended_in_a_subroutine : drawn_in false 3 0 (32 ∷ 10 ∷ 22 ∷ 0 ∷ 1 ∷ 1 ∷ 1 ∷ 2 ∷ 14 ∷ []) 3 ≡ nothing
  pub few : bias 1239 ≡ 107
  pub more : bias 1240 ≡ 1131
  pub most : bias 33899 ≡ 1131
  pub very_many : bias 33900 ≡ 32768

-- an accent that is moved by 3 and 4, over codes 65 and 193
pub record WorkedEnds : Type 0 where
  pub composed : drawn (142 ∷ 143 ∷ 204 ∷ 247 ∷ 85 ∷ 14 ∷ []) 6
      ≡ Some (record { strokes = []; accent = Some (record { dx = pos 196608; dy = pos 262144; base = pos 65; accent = pos 193 }) })
  pub with_a_width : drawn (141 ∷ 142 ∷ 143 ∷ 204 ∷ 247 ∷ 85 ∷ 14 ∷ []) 7
      ≡ Some (record { strokes = []; accent = Some (record { dx = pos 196608; dy = pos 262144; base = pos 65; accent = pos 193 }) })
  pub of_three : drawn (142 ∷ 143 ∷ 204 ∷ 14 ∷ []) 4 ≡ nothing
  pub not_in_cff2 : drawn_in true 0 0 (142 ∷ 143 ∷ 204 ∷ 247 ∷ 85 ∷ 14 ∷ []) 6 ≡ nothing
  pub without_endchar : drawn_in true 0 0 (149 ∷ 22 ∷ 159 ∷ 7 ∷ []) 4 ≡ a_line
  -- a wide INDEX at 4 of one subroutine: 20 vlineto
  pub without_return : drawn_in true 4 0 (149 ∷ 22 ∷ 32 ∷ 10 ∷ 0 ∷ 0 ∷ 0 ∷ 1 ∷ 1 ∷ 1 ∷ 3 ∷ 159 ∷ 7 ∷ []) 4 ≡ a_line

-- a variation store after the charstring: its first block has one region, its second one two
abbrev pub store : List ℕ
store = 0 ∷ 0 ∷ 0 ∷ 1 ∷ 0 ∷ 0 ∷ 0 ∷ 0 ∷ 0 ∷ 2 ∷ 0 ∷ 0 ∷ 0 ∷ 16 ∷ 0 ∷ 0 ∷ 0 ∷ 22 ∷ 0 ∷ 0 ∷ 0 ∷ 0 ∷ 0 ∷ 1 ∷ 0 ∷ 0 ∷ 0 ∷ 0 ∷ 0 ∷ 2 ∷ []

abbrev pub blended : List ℕ → ℕ → Option Outline
blended t to = outline_from 30 (t ++ store) (record (layout true 0) { vstore = to }) 0 (first_run (record { from = 0; to = to }) 0)

pub record WorkedBlends : Type 0 where
  pub one_region : blended (149 ∷ 22 ∷ 159 ∷ 239 ∷ 140 ∷ 16 ∷ 7 ∷ []) 7 ≡ a_line
  pub two_regions : blended (140 ∷ 15 ∷ 149 ∷ 22 ∷ 159 ∷ 239 ∷ 239 ∷ 140 ∷ 16 ∷ 7 ∷ []) 10 ≡ a_line
  pub too_few : blended (149 ∷ 22 ∷ 159 ∷ 140 ∷ 16 ∷ 7 ∷ []) 6 ≡ None
  pub of_none : blended (16 ∷ []) 1 ≡ None
  pub below_0 : blended (159 ∷ 138 ∷ 16 ∷ []) 3 ≡ None
  pub vsindex_twice : blended (139 ∷ 15 ∷ 139 ∷ 15 ∷ []) 4 ≡ None
  pub vsindex_after_blend : blended (159 ∷ 239 ∷ 140 ∷ 16 ∷ 139 ∷ 15 ∷ []) 6 ≡ None
  pub vsindex_below_0 : blended (138 ∷ 15 ∷ []) 2 ≡ None
  pub not_in_cff : drawn (149 ∷ 16 ∷ 22 ∷ 14 ∷ []) 4 ≡ None

pub worked_charstrings : WorkedCharstrings
unfolding plus int_wrap
worked_charstrings = record {
  hmoveto_vlineto = refl;
  with_a_width = refl;
  rmoveto = refl;
  vmoveto = refl;
  rmoveto_of_one = refl;
  hmoveto_of_none = refl;
  vmoveto_of_none = refl;
  a_curve = refl;
  a_flex_of_two = refl;
  without_an_end = refl;
  unknown_takes_all = refl;
  arithmetic_takes_all = refl;
  escape_at_the_end = refl;
  cut_off = refl;
  cut_off_after_255 = refl;
  too_many_steps = refl;
}

pub worked_hints : WorkedHints
unfolding plus int_wrap
worked_hints = record {
  masked = refl;
  counted_once = refl;
  every_stem_operator = refl;
  two_bytes = refl;
  bytes_not_there = refl;
}

pub worked_calls : WorkedCalls
unfolding plus int_wrap
worked_calls = record {
  local = refl;
  global = refl;
  none = refl;
  past_the_last = refl;
  before_the_first = refl;
  without_a_number = refl;
  return_without_a_caller = refl;
  itself = refl;
  ended_in_a_subroutine = refl;
  few = refl;
  more = refl;
  most = refl;
  very_many = refl;
}

pub worked_ends : WorkedEnds
unfolding plus int_wrap
worked_ends = record {
  composed = refl;
  with_a_width = refl;
  of_three = refl;
  not_in_cff2 = refl;
  without_endchar = refl;
  without_return = refl;
}

pub worked_blends : WorkedBlends
unfolding plus int_wrap
worked_blends = record {
  one_region = refl;
  two_regions = refl;
  too_few = refl;
  of_none = refl;
  below_0 = refl;
  vsindex_twice = refl;
  vsindex_after_blend = refl;
  vsindex_below_0 = refl;
  not_in_cff = refl;
}
