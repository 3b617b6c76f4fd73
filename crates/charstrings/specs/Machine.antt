-- the machine that runs charstrings: one operator, number or stroke a step (Adobe Technical Note 5177, sections 3 and 4; OpenType,
-- "CFF2 CharString Format"). `t` is the table, `l` its layout, and `local` the place of the glyph's local subroutines
use Rattle.std.specs.Prelude.{ℕ, ℤ, List, [], ◌∷◌, ◌++◌, Bool, true, false, Option, Some, None, pos, ◌+◌, ◌-◌, ◌*◌, ◌/◌, ◌%◌, ◌&&◌, ◌||◌, ◌+ℤ◌}
use Rattle.std.specs.Prelude.{nat_eq, nat_lt, nat_le, int_lt, int_div, min, not, length, take, if◌then◌else◌, slice_index, slice_index_or}
use Rattle.std.specs.Prelude.{unsigned_abs}
use Rattle.std.specs.Option.{unwrap_or, option_map_or}
use Rattle.cff_tables.specs.Index.{object_count, range_of}
use Rattle.cff_tables.specs.Font.{region_count}
use Rattle.cff_tables.specs.declared.font.Layout.{Layout}
use Rattle.cff_tables.specs.declared.index.ObjectRange.{ObjectRange}
use Rattle.charstrings.specs.Numbers.{plus, begins_number, number_size, number_value}
use Rattle.charstrings.specs.Pieces.{arg, delta, piece_of, is_accepted}
use Rattle.charstrings.specs.declared.pieces.Delta.{Delta}
use Rattle.charstrings.specs.declared.pieces.Found.{Found}
use Rattle.charstrings.specs.declared.pieces.Piece.{Piece}
use Rattle.charstrings.specs.declared.pieces.Piece.TheVariants.{Line, Curve}
use Rattle.charstrings.specs.declared.pieces.PathOperator.{PathOperator}
use Rattle.charstrings.specs.declared.pieces.PathOperator.TheVariants.{Lines, AxisLines, Curves, CurvesThenLine, LinesThenCurve, AxisCurves}
use Rattle.charstrings.specs.declared.pieces.PathOperator.TheVariants.{TurningCurves, Flex, Hflex, Hflex1, Flex1}
use Rattle.charstrings.specs.declared.strokes.Place.{Place}
use Rattle.charstrings.specs.declared.strokes.Stroke.{Stroke}
use Rattle.charstrings.specs.declared.strokes.Stroke.TheVariants.{Move, Straight, Bent}
use Rattle.charstrings.specs.declared.strokes.Accent.{Accent}
use Rattle.charstrings.specs.declared.strokes.Event.{Event}
use Rattle.charstrings.specs.declared.strokes.Event.TheVariants.{Went, Drew, Composed, Ended}
use Rattle.charstrings.specs.declared.machine.Drawing.{Drawing}
use Rattle.charstrings.specs.declared.machine.State.{State}

-- the machine, without how it lies in memory
pub record Run : Type 0 where
  pub code : ObjectRange
  pub callers : List ObjectRange
  pub args : List ℤ
  pub place : Place
  pub stems : ℕ
  pub mask_size : Option ℕ
  pub drawing : Option Drawing
  pub steps_left : ℕ
  pub variation : ℕ
  pub varied : Bool

abbrev pub run_of : State → Run
run_of s = record {
  code = s.code;
  callers = s.callers.items;
  args = s.args.items;
  place = s.place;
  stems = s.stems;
  mask_size = s.mask_size;
  drawing = s.drawing;
  steps_left = s.steps_left;
  variation = s.variation;
  varied = s.varied;
}

-- a step's outcome: the machine after it, and what it did
pub record Stepped : Type 0 where
  pub run : Run
  pub event : Event

abbrev pub stepped : Run → Event → Stepped
stepped r event = record { run = r; event = event }

abbrev pub did : Run → Event → Option Stepped
did r event = Some (record { run = r; event = event })

abbrev pub went : Run → Option Stepped
went r = did r Went

-- before a charstring: no more operators and numbers than HarfBuzz runs
abbrev pub first_run : ObjectRange → ℕ → Run
first_run code variation = record {
  code = code;
  callers = [];
  args = [];
  place = record { x = pos 0; y = pos 0 };
  stems = 0;
  mask_size = None;
  drawing = None;
  steps_left = 199999;
  variation = variation;
  varied = false;
}

-- the argument so far below the top, which is 1
abbrev pub below_top : ℕ → Run → ℤ
below_top k r = arg r.args (length r.args - k)

-- ---- strokes

abbrev pub moved : Place → Delta → Place
moved p d = record { x = plus p.x d.x; y = plus p.y d.y }

abbrev pub bent : Place → Place → Place → Delta → Stroke
bent p first second c = Bent p first second (moved second c)

abbrev pub stroke_of : Place → Piece → Stroke
stroke_of p (Line d) = Straight p (moved p d)
stroke_of p (Curve a b c) = bent p (moved p a) (moved (moved p a) b) c

-- where the pen stands after it
abbrev pub end_of : Stroke → Place
end_of (Move p) = p
end_of (Straight from to) = to
end_of (Bent from first second to) = to

-- the next piece of the operator that draws; without one its arguments are used up
abbrev pub after_piece : Run → Drawing → Found → Option Stepped
after_piece r d f = let stroke = stroke_of r.place f.piece in
    did (record r { place = end_of stroke; drawing = Some (record { operator = d.operator; turned = not d.turned; at = f.next }) }) (Drew stroke)

abbrev pub drawn : Run → Drawing → Option Stepped
drawn r d = elim (piece_of d.operator d.turned r.args d.at) [
  | Some f ↦ after_piece r d f
  | None ↦ went (record r { args = []; drawing = None })
]

-- an operator begins to draw; a flex with another number of arguments is refused
abbrev pub draws : PathOperator → Run → Option Stepped
draws op r = if is_accepted op (length r.args)
    then went (record r { drawing = Some (record { operator = op; turned = false; at = 0 }) }) else None

-- rmoveto, hmoveto and vmoveto take their arguments from the top: what stands below is the width
abbrev pub moves_by : Delta → Run → Option Stepped
moves_by d r = did (record r { args = []; place = moved r.place d }) (Drew (Move (moved r.place d)))

abbrev pub rmoveto : Run → Option Stepped
rmoveto r = let n = length r.args in (if nat_lt n 2 then None else moves_by (delta (arg r.args (n - 2)) (arg r.args (n - 1))) r)

abbrev pub hmoveto : Run → Option Stepped
hmoveto r = let n = length r.args in (if nat_lt n 1 then None else moves_by (delta (arg r.args (n - 1)) (pos 0)) r)

abbrev pub vmoveto : Run → Option Stepped
vmoveto r = let n = length r.args in (if nat_lt n 1 then None else moves_by (delta (pos 0) (arg r.args (n - 1))) r)

-- ---- the other operators

abbrev pub most_stems : ℕ
most_stems = 4294967295

-- stem hints are two arguments each; a width that stands before them is left over
abbrev pub stems_with : Run → ℕ
stems_with r = min (r.stems + length r.args / 2) most_stems

abbrev pub hinted : Run → Option Stepped
hinted r = went (record r { args = []; stems = stems_with r })

-- a mask has a bit for each stem, those before the first mask without an operator of their own too
abbrev pub mask_of : Run → ℕ
mask_of r = unwrap_or r.mask_size (stems_with r / 8 + min (stems_with r % 8) 1)

-- bytes are passed over; if they are not there, HarfBuzz goes on without it
abbrev pub passed : ObjectRange → ℕ → ObjectRange
passed c n = record { from = c.from + n; to = c.to }

abbrev pub run_passed : Run → ℕ → Run
run_passed r n = record r { code = passed r.code n }

abbrev pub masked : Run → Option Stepped
masked r = if nat_le (mask_of r) (r.code.to - r.code.from)
    then went (record r { args = []; mask_size = Some (mask_of r); code = passed r.code (mask_of r) })
    else went (record r { mask_size = Some (mask_of r) })

-- no more arguments than HarfBuzz has room for
abbrev pub pushed : ℤ → Run → Option Stepped
pushed v r = if nat_lt (length r.args) 513 then went (record r { args = r.args ++ v ∷ [] }) else None

-- a number that is cut off is refused; HarfBuzz goes on after the byte 255
abbrev pub read_number : List ℕ → Run → Option Stepped
read_number t r = let first = slice_index t r.code.from in
    (if nat_le (number_size first) (r.code.to - r.code.from)
    then pushed (number_value t r.code.from) (record r { code = passed r.code (number_size first) })
    else (if nat_eq first 255 then went (record r { code = passed r.code 1 }) else None))

-- the whole part of a number
abbrev pub whole : ℤ → ℤ
whole v = int_div v (pos 65536)

abbrev pub top : Run → ℤ
top r = arg r.args (length r.args - 1)

abbrev pub bias : ℕ → ℕ
bias count = if nat_lt count 1240 then 107 else (if nat_lt count 33900 then 1131 else 32768)

abbrev pub subroutine_count : List ℕ → Layout → ℕ → ℕ
subroutine_count t l at = if nat_eq at 0 then 0 else object_count t l.wide at

-- the number, if there are more than so many
abbrev pub in_range : ℕ → ℤ → Option ℕ
in_range count n = if int_lt n (pos 0) then None else (if nat_lt (unsigned_abs n) count then Some (unsigned_abs n) else None)

-- the subroutine that is called: its number is biased by how many there are
abbrev pub called : List ℕ → Layout → ℕ → Run → Option ℕ
called t l at r = let count = subroutine_count t l at in
    (if nat_eq (length r.args) 0 then None else in_range count (whole (below_top 1 r) +ℤ pos (bias count)))

abbrev pub no_code : ObjectRange
no_code = record { from = 0; to = 0 }

abbrev pub entered : List ℕ → Layout → ℕ → ℕ → Run → Option Stepped
entered t l at n r = if nat_lt (length r.callers) 10
    then went (record r { args = take (length r.args - 1) r.args; callers = r.callers ++ r.code ∷ []; code = unwrap_or (range_of t l.wide at n) no_code })
    else None

-- callsubr, callgsubr: subroutines are ten deep at most
abbrev pub calls : List ℕ → Layout → ℕ → Run → Option Stepped
calls t l at r = elim (called t l at r) [ Some n ↦ entered t l at n r | None ↦ None ]

-- return
abbrev pub returned : Run → Option Stepped
returned r = let n = length r.callers in
    (if nat_eq n 0 then None
    else went (record r { callers = take (n - 1) r.callers; code = slice_index_or r.callers (n - 1) no_code }))

-- endchar; of four arguments the last two are codes of Standard Encoding, a letter and its accent, which is moved by the first two
abbrev pub ended : Bool → Run → Option Stepped
ended wide r = let n = length r.args in
    (if not wide && nat_le 4 n then did r (Composed (record {
      dx = arg r.args (n - 4);
      dy = arg r.args (n - 3);
      base = whole (arg r.args (n - 2));
      accent = whole (arg r.args (n - 1));
    }))
    else did r Ended)

-- vsindex, once and before each blend
abbrev pub varies : Run → Option Stepped
varies r = if nat_eq (length r.args) 0 || int_lt (whole (top r)) (pos 0) || r.varied then None
    else went (record r { args = []; variation = min (unsigned_abs (whole (top r))) 65535; varied = true })

-- blend: so many values, and for each so many deltas, which count for nothing at the default instance
abbrev pub blends : List ℕ → Layout → Run → Option Stepped
blends t l r = let n = unsigned_abs (whole (top r)) in let k = region_count t l.vstore r.variation in let left = length r.args - 1 in
    (if nat_eq (length r.args) 0 || int_lt (whole (top r)) (pos 0) || nat_lt left ((k + 1) * n) then None
    else went (record r { args = take (left - k * n) r.args; varied = true }))

-- an operator that is not known takes all arguments, as HarfBuzz has it; so do those of arithmetic and storage
abbrev pub cleared : Run → Option Stepped
cleared r = went (record r { args = [] })

-- ---- one operator

-- two bytes, the first of which is 12 and passed already
abbrev pub escaped : ℕ → Run → Option Stepped
escaped b r = if nat_eq b 34 then draws Hflex r
    else (if nat_eq b 35 then draws Flex r
    else (if nat_eq b 36 then draws Hflex1 r
    else (if nat_eq b 37 then draws Flex1 r else cleared r)))

abbrev pub escapes : List ℕ → Run → Option Stepped
escapes t r = if nat_lt r.code.from r.code.to then escaped (slice_index t r.code.from) (record r { code = passed r.code 1 }) else cleared r

-- operators that draw
abbrev pub path_operator : ℕ → Option PathOperator
path_operator b = if nat_eq b 5 then Some Lines
    else (if nat_eq b 6 then Some (AxisLines true)
    else (if nat_eq b 7 then Some (AxisLines false)
    else (if nat_eq b 8 then Some Curves
    else (if nat_eq b 24 then Some CurvesThenLine
    else (if nat_eq b 25 then Some LinesThenCurve
    else (if nat_eq b 26 then Some (AxisCurves false)
    else (if nat_eq b 27 then Some (AxisCurves true)
    else (if nat_eq b 30 then Some (TurningCurves false)
    else (if nat_eq b 31 then Some (TurningCurves true) else None)))))))))

-- operators by which a charstring goes on elsewhere, or ends
abbrev pub flow : List ℕ → Layout → ℕ → ℕ → Run → Option Stepped
flow t l local b r = if nat_eq b 10 then calls t l local r
    else (if nat_eq b 29 then calls t l l.global r
    else (if nat_eq b 11 then returned r else ended l.wide r))

-- those that only `CFF2` has
abbrev pub wide_operator : List ℕ → Layout → ℕ → Run → Option Stepped
wide_operator t l b r = if not l.wide then cleared r else (if nat_eq b 15 then varies r else blends t l r)

-- hstem, vstem, hstemhm, vstemhm
abbrev pub is_stem_hint : ℕ → Bool
is_stem_hint b = nat_eq b 1 || nat_eq b 3 || nat_eq b 18 || nat_eq b 23

-- hintmask, cntrmask
abbrev pub is_mask : ℕ → Bool
is_mask b = nat_eq b 19 || nat_eq b 20

-- callsubr, return, endchar, callgsubr
abbrev pub is_flow : ℕ → Bool
is_flow b = nat_eq b 10 || nat_eq b 11 || nat_eq b 14 || nat_eq b 29

-- vsindex, blend
abbrev pub is_of_cff2 : ℕ → Bool
is_of_cff2 b = nat_eq b 15 || nat_eq b 16

-- the operator `b`, which is passed already
abbrev pub operated : List ℕ → Layout → ℕ → ℕ → Run → Option Stepped
operated t l local b r = if is_stem_hint b then hinted r
    else (if is_mask b then masked r
    else (if nat_eq b 21 then rmoveto r
    else (if nat_eq b 22 then hmoveto r
    else (if nat_eq b 4 then vmoveto r
    else (if is_flow b then flow t l local b r
    else (if is_of_cff2 b then wide_operator t l b r
    else (if nat_eq b 12 then escapes t r
    else cleared r)))))))

abbrev pub operator_step : List ℕ → Layout → ℕ → Run → Option Stepped
operator_step t l local r = let b = slice_index t r.code.from in let next = record r { code = passed r.code 1 } in
    elim (path_operator b) [ Some op ↦ draws op next | None ↦ operated t l local b next ]

-- where the bytes end, a table `CFF2` returns, or ends the glyph; in `CFF ` an operator must say so
abbrev pub at_end : Bool → Run → Option Stepped
at_end wide r = if not wide then None else (if nat_eq (length r.callers) 0 then did r Ended else returned r)

abbrev pub runs_on : List ℕ → Layout → ℕ → Run → Option Stepped
runs_on t l local r = if nat_le r.code.to r.code.from then at_end l.wide r
    else (if begins_number (slice_index t r.code.from) then read_number t r else operator_step t l local r)

-- a step: of the operator that draws, or else the next number or operator, of which only so many are run
abbrev pub step : List ℕ → Layout → ℕ → Run → Option Stepped
step t l local r = elim r.drawing [
  | Some d ↦ drawn r d
  | None ↦ if nat_eq r.steps_left 0 then None else runs_on t l local (record r { steps_left = r.steps_left - 1 })
]
