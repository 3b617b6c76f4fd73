-- path construction operators: the lines and curves that each draws from its arguments, one after another (Adobe Technical Note
-- 5177, section 4.1)
use Rattle.std.specs.Prelude.{ℕ, ℤ, List, Bool, true, false, Option, Some, None, pos, ◌+◌, ◌-◌, ◌%◌, ◌&&◌, ◌||◌, nat_eq, nat_lt, nat_le, min, not}
use Rattle.std.specs.Prelude.{length, if◌then◌else◌, slice_index_or, unsigned_abs}
use Rattle.charstrings.specs.Numbers.{plus, opposite}
use Rattle.charstrings.specs.declared.pieces.Delta.{Delta}
use Rattle.charstrings.specs.declared.pieces.Piece.{Piece}
use Rattle.charstrings.specs.declared.pieces.Piece.TheVariants.{Line, Curve}
use Rattle.charstrings.specs.declared.pieces.Found.{Found}
use Rattle.charstrings.specs.declared.pieces.PathOperator.{PathOperator}
use Rattle.charstrings.specs.declared.pieces.PathOperator.TheVariants.{Lines, AxisLines, Curves, CurvesThenLine, LinesThenCurve, AxisCurves}
use Rattle.charstrings.specs.declared.pieces.PathOperator.TheVariants.{TurningCurves, Flex, Hflex, Hflex1, Flex1}

-- argument `i`, counted from the bottom of the stack
abbrev pub arg : List ℤ → ℕ → ℤ
arg args i = slice_index_or args i (pos 0)

abbrev pub xor : Bool → Bool → Bool
xor a b = if a then not b else b

abbrev pub delta : ℤ → ℤ → Delta
delta x y = record { x = x; y = y }

-- so far along one axis
abbrev pub along : Bool → ℤ → Delta
along horizontal d = if horizontal then delta d (pos 0) else delta (pos 0) d

-- six arguments: each control point and the end, each from the one before it
abbrev pub curve_of : List ℤ → ℕ → Piece
curve_of a at = Curve (delta (arg a at) (arg a (at + 1))) (delta (arg a (at + 2)) (arg a (at + 3))) (delta (arg a (at + 4)) (arg a (at + 5)))

abbrev pub line_of : List ℤ → ℕ → Piece
line_of a at = Line (delta (arg a at) (arg a (at + 1)))

-- past the last argument
abbrev pub past_all : ℕ
past_all = 65535

-- so many arguments further
abbrev pub after : ℕ → ℕ → ℕ
after at n = min (at + n) past_all

abbrev pub found : Piece → ℕ → Option Found
found piece next = Some (record { piece = piece; next = next })

-- rlineto: {dxa dya}+
abbrev pub lines : List ℤ → ℕ → Option Found
lines a at = if nat_le 2 (length a - at) then found (line_of a at) (after at 2) else None

-- hlineto, vlineto: lines along one axis and the other, in turn
abbrev pub axis_lines : Bool → List ℤ → ℕ → Option Found
axis_lines horizontal a at = if nat_le 1 (length a - at) then found (Line (along horizontal (arg a at))) (after at 1) else None

-- rrcurveto: {dxa dya dxb dyb dxc dyc}+
abbrev pub curves : List ℤ → ℕ → Option Found
curves a at = if nat_le 6 (length a - at) then found (curve_of a at) (after at 6) else None

-- rcurveline: curves, and a line from the last two arguments; nothing from fewer than eight
abbrev pub curves_then_line : List ℤ → ℕ → Option Found
curves_then_line a at = let left = length a - at in
    (if nat_eq at 0 && nat_lt left 8 then None
    else (if nat_le 8 left then found (curve_of a at) (after at 6)
    else (if nat_le 2 left then found (line_of a at) past_all else None)))

-- rlinecurve: lines, and a curve from the last six arguments; nothing from fewer than eight
abbrev pub lines_then_curve : List ℤ → ℕ → Option Found
lines_then_curve a at = let left = length a - at in
    (if nat_eq at 0 && nat_lt left 8 then None
    else (if nat_le 8 left then found (line_of a at) (after at 2)
    else (if nat_le 6 left then found (curve_of a at) past_all else None)))

-- hhcurveto, vvcurveto: {dxa dxb dyb dxc}+, curves that begin and end along an axis; of an odd number of arguments the first says
-- how far the first curve begins across it
abbrev pub across : Bool → ℤ → ℤ → Delta
across horizontal d far = if horizontal then delta d far else delta far d

abbrev pub axis_curve : Bool → List ℤ → ℕ → ℤ → Piece
axis_curve horizontal a at far = Curve (across horizontal (arg a at) far) (delta (arg a (at + 1)) (arg a (at + 2))) (along horizontal (arg a (at + 3)))

abbrev pub axis_curves : Bool → List ℤ → ℕ → Option Found
axis_curves horizontal a at = let left = length a - at in
    (if nat_eq (left % 2) 1
    then (if nat_le 5 left then found (axis_curve horizontal a (at + 1) (arg a at)) (after at 5) else None)
    else (if nat_le 4 left then found (axis_curve horizontal a at (pos 0)) (after at 4) else None))

-- hvcurveto, vhcurveto: curves that begin along one axis and end along the other, in turn; the last one may end aside by a fifth
-- argument. Left-over arguments are an error of the font: HarfBuzz takes one of two only after an odd number of curves
abbrev pub has_fifth : ℕ → Bool → Bool
has_fifth left turned = nat_eq left 5 || nat_eq left 7 || (nat_eq left 6 && not turned)

abbrev pub turning_curve : Bool → List ℤ → ℕ → ℤ → Piece
turning_curve horizontal a at far = Curve (along horizontal (arg a at)) (delta (arg a (at + 1)) (arg a (at + 2))) (across (not horizontal) (arg a (at + 3)) far)

abbrev pub turning_curves : Bool → Bool → List ℤ → ℕ → Option Found
turning_curves horizontal turned a at = let left = length a - at in
    (if nat_lt left 4 then None
    else (if nat_le 8 left then found (turning_curve horizontal a at (pos 0)) (after at 4)
    else (if has_fifth left turned then found (turning_curve horizontal a at (arg a (at + 4))) past_all
    else found (turning_curve horizontal a at (pos 0)) past_all)))

-- flex: two curves
abbrev pub flex : List ℤ → ℕ → Option Found
flex a at = if nat_eq at 0 then found (curve_of a 0) 6
    else (if nat_eq at 6 then found (curve_of a 6) 12 else None)

-- hflex: both begin and end level, and the second ends at the height of the start
abbrev pub hflex : List ℤ → ℕ → Option Found
hflex a at = if nat_eq at 0 then found (Curve (delta (arg a 0) (pos 0)) (delta (arg a 1) (arg a 2)) (delta (arg a 3) (pos 0))) 4
    else (if nat_eq at 4 then found (Curve (delta (arg a 4) (pos 0)) (delta (arg a 5) (opposite (arg a 2))) (delta (arg a 6) (pos 0))) 7
    else None)

-- hflex1: the second ends at the height of the start
abbrev pub hflex1 : List ℤ → ℕ → Option Found
hflex1 a at = if nat_eq at 0 then found (Curve (delta (arg a 0) (arg a 1)) (delta (arg a 2) (arg a 3)) (delta (arg a 4) (pos 0))) 5
    else (if nat_eq at 5 then found (Curve (delta (arg a 5) (pos 0)) (delta (arg a 6) (arg a 7))
    (delta (arg a 8) (opposite (plus (plus (arg a 1) (arg a 3)) (arg a 7))))) 9
    else None)

-- flex1: the end goes so far along the axis that the other points go further along, and returns to the start across it
abbrev pub sum_of_five : List ℤ → ℕ → ℤ
sum_of_five a i = plus (plus (plus (plus (arg a i) (arg a (i + 2))) (arg a (i + 4))) (arg a (i + 6))) (arg a (i + 8))

abbrev pub flex1_end : List ℤ → Delta
flex1_end a = let dx = sum_of_five a 0 in let dy = sum_of_five a 1 in
    (if nat_lt (unsigned_abs dy) (unsigned_abs dx) then delta (arg a 10) (opposite dy) else delta (opposite dx) (arg a 10))

abbrev pub flex1 : List ℤ → ℕ → Option Found
flex1 a at = if nat_eq at 0 then found (curve_of a 0) 6
    else (if nat_eq at 6 then found (Curve (delta (arg a 6) (arg a 7)) (delta (arg a 8) (arg a 9)) (flex1_end a)) 11 else None)

-- the next line or curve, and where its successor's arguments begin. `turned`: after an odd number of them
abbrev pub piece_of : PathOperator → Bool → List ℤ → ℕ → Option Found
piece_of Lines turned a at = lines a at
piece_of (AxisLines horizontal) turned a at = axis_lines (xor horizontal turned) a at
piece_of Curves turned a at = curves a at
piece_of CurvesThenLine turned a at = curves_then_line a at
piece_of LinesThenCurve turned a at = lines_then_curve a at
piece_of (AxisCurves horizontal) turned a at = axis_curves horizontal a at
piece_of (TurningCurves horizontal) turned a at = turning_curves (xor horizontal turned) turned a at
piece_of Flex turned a at = flex a at
piece_of Hflex turned a at = hflex a at
piece_of Hflex1 turned a at = hflex1 a at
piece_of Flex1 turned a at = flex1 a at

-- flexes have so many arguments
abbrev pub is_accepted : PathOperator → ℕ → Bool
is_accepted Flex n = nat_eq n 13
is_accepted Hflex n = nat_eq n 7
is_accepted Hflex1 n = nat_eq n 9
is_accepted Flex1 n = nat_eq n 11
is_accepted Lines n = true
is_accepted (AxisLines horizontal) n = true
is_accepted Curves n = true
is_accepted CurvesThenLine n = true
is_accepted LinesThenCurve n = true
is_accepted (AxisCurves horizontal) n = true
is_accepted (TurningCurves horizontal) n = true
