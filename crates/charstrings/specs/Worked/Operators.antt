-- numbers, and the pieces of each operator, by hand from sections 3.2 and 4.1 of Adobe Technical Note 5177
use Rattle.std.specs.Prelude.{◌≡◌, ℕ, ℤ, pos, negsuc, List, [], ◌∷◌, Option, Some, None, true, false, refl}
use Rattle.std.specs.Int.{int_wrap}
use Rattle.charstrings.specs.Numbers.{begins_number, number_size, number_value, plus, opposite}
use Rattle.charstrings.specs.Pieces.{piece_of, is_accepted, delta, found, past_all}
use Rattle.charstrings.specs.declared.pieces.Found.{Found}
use Rattle.charstrings.specs.declared.pieces.Piece.TheVariants.{Line, Curve}
use Rattle.charstrings.specs.declared.pieces.PathOperator.TheVariants.{Lines, AxisLines, Curves, CurvesThenLine, LinesThenCurve, AxisCurves}
use Rattle.charstrings.specs.declared.pieces.PathOperator.TheVariants.{TurningCurves, Flex, Hflex, Hflex1, Flex1}

pub record WorkedNumbers : Type 0 where
  pub least_byte : number_value (32 ∷ []) 0 ≡ negsuc 7012351
  pub zero : number_value (139 ∷ []) 0 ≡ pos 0
  pub greatest_byte : number_value (246 ∷ []) 0 ≡ pos 7012352
  pub least_pair : number_value (247 ∷ 0 ∷ []) 0 ≡ pos 7077888
  pub thousand : number_value (250 ∷ 124 ∷ []) 0 ≡ pos 65536000
  pub minus_thousand : number_value (254 ∷ 124 ∷ []) 0 ≡ negsuc 65535999
  pub word : number_value (28 ∷ 1 ∷ 2 ∷ []) 0 ≡ pos 16908288
  pub minus_one : number_value (28 ∷ 255 ∷ 255 ∷ []) 0 ≡ negsuc 65535
  pub one_and_a_half : number_value (255 ∷ 0 ∷ 1 ∷ 128 ∷ 0 ∷ []) 0 ≡ pos 98304
  pub minus_a_half : number_value (255 ∷ 255 ∷ 255 ∷ 128 ∷ 0 ∷ []) 0 ≡ negsuc 32767
  pub size_of_a_byte : number_size 246 ≡ 1
  pub size_of_a_pair : number_size 254 ≡ 2
  pub size_of_a_word : number_size 28 ≡ 3
  pub size_of_a_fixed : number_size 255 ≡ 5
  pub operator : begins_number 31 ≡ false
  pub number : begins_number 32 ≡ true
  pub word_begins : begins_number 28 ≡ true
  pub fixed_begins : begins_number 255 ≡ true

-- arguments 1, 2, 3 and so on
abbrev pub one : List ℤ
one = pos 1 ∷ []

abbrev pub four : List ℤ
four = pos 1 ∷ pos 2 ∷ pos 3 ∷ pos 4 ∷ []

abbrev pub five : List ℤ
five = pos 1 ∷ pos 2 ∷ pos 3 ∷ pos 4 ∷ pos 5 ∷ []

abbrev pub six : List ℤ
six = pos 1 ∷ pos 2 ∷ pos 3 ∷ pos 4 ∷ pos 5 ∷ pos 6 ∷ []

abbrev pub eight : List ℤ
eight = pos 1 ∷ pos 2 ∷ pos 3 ∷ pos 4 ∷ pos 5 ∷ pos 6 ∷ pos 7 ∷ pos 8 ∷ []

abbrev pub nine : List ℤ
nine = pos 1 ∷ pos 2 ∷ pos 3 ∷ pos 4 ∷ pos 5 ∷ pos 6 ∷ pos 7 ∷ pos 8 ∷ pos 9 ∷ []

abbrev pub ten : List ℤ
ten = pos 1 ∷ pos 2 ∷ pos 3 ∷ pos 4 ∷ pos 5 ∷ pos 6 ∷ pos 7 ∷ pos 8 ∷ pos 9 ∷ pos 10 ∷ []

abbrev pub first_six : ℕ → Option Found
first_six next = found (Curve (delta (pos 1) (pos 2)) (delta (pos 3) (pos 4)) (delta (pos 5) (pos 6))) next

pub record WorkedLines : Type 0 where
  pub rlineto : piece_of Lines false four 0 ≡ found (Line (delta (pos 1) (pos 2))) 2
  pub rlineto_then : piece_of Lines true four 2 ≡ found (Line (delta (pos 3) (pos 4))) 4
  pub rlineto_done : piece_of Lines false four 4 ≡ None
  pub rlineto_left_over : piece_of Lines false five 4 ≡ None
  pub hlineto : piece_of (AxisLines true) false four 0 ≡ found (Line (delta (pos 1) (pos 0))) 1
  pub hlineto_turned : piece_of (AxisLines true) true four 1 ≡ found (Line (delta (pos 0) (pos 2))) 2
  pub vlineto : piece_of (AxisLines false) false four 0 ≡ found (Line (delta (pos 0) (pos 1))) 1
  pub vlineto_turned : piece_of (AxisLines false) true four 1 ≡ found (Line (delta (pos 2) (pos 0))) 2
  pub hlineto_done : piece_of (AxisLines true) false four 4 ≡ None

pub record WorkedCurves : Type 0 where
  pub rrcurveto : piece_of Curves false eight 0 ≡ first_six 6
  pub rrcurveto_left_over : piece_of Curves true eight 6 ≡ None
  pub rcurveline : piece_of CurvesThenLine false eight 0 ≡ first_six 6
  pub rcurveline_line : piece_of CurvesThenLine true eight 6 ≡ found (Line (delta (pos 7) (pos 8))) past_all
  pub rcurveline_of_six : piece_of CurvesThenLine false six 0 ≡ None
  pub rcurveline_done : piece_of CurvesThenLine false eight past_all ≡ None
  pub rlinecurve : piece_of LinesThenCurve false eight 0 ≡ found (Line (delta (pos 1) (pos 2))) 2
  pub rlinecurve_curve : piece_of LinesThenCurve true eight 2
      ≡ found (Curve (delta (pos 3) (pos 4)) (delta (pos 5) (pos 6)) (delta (pos 7) (pos 8))) past_all
  pub rlinecurve_of_six : piece_of LinesThenCurve false six 0 ≡ None
  pub rlinecurve_done : piece_of LinesThenCurve false eight past_all ≡ None

pub record WorkedAxisCurves : Type 0 where
  pub hhcurveto : piece_of (AxisCurves true) false four 0 ≡ found (Curve (delta (pos 1) (pos 0)) (delta (pos 2) (pos 3)) (delta (pos 4) (pos 0))) 4
  pub hhcurveto_of_five : piece_of (AxisCurves true) false five 0
      ≡ found (Curve (delta (pos 2) (pos 1)) (delta (pos 3) (pos 4)) (delta (pos 5) (pos 0))) 5
  pub vvcurveto : piece_of (AxisCurves false) false four 0 ≡ found (Curve (delta (pos 0) (pos 1)) (delta (pos 2) (pos 3)) (delta (pos 0) (pos 4))) 4
  pub vvcurveto_of_five : piece_of (AxisCurves false) false five 0
      ≡ found (Curve (delta (pos 1) (pos 2)) (delta (pos 3) (pos 4)) (delta (pos 0) (pos 5))) 5
  pub second : piece_of (AxisCurves true) true nine 5 ≡ found (Curve (delta (pos 6) (pos 0)) (delta (pos 7) (pos 8)) (delta (pos 9) (pos 0))) 9
  pub of_one : piece_of (AxisCurves true) false one 0 ≡ None
  pub left_over : piece_of (AxisCurves true) true six 4 ≡ None

pub record WorkedTurningCurves : Type 0 where
  pub hvcurveto : piece_of (TurningCurves true) false four 0
      ≡ found (Curve (delta (pos 1) (pos 0)) (delta (pos 2) (pos 3)) (delta (pos 0) (pos 4))) past_all
  pub hvcurveto_of_five : piece_of (TurningCurves true) false five 0
      ≡ found (Curve (delta (pos 1) (pos 0)) (delta (pos 2) (pos 3)) (delta (pos 5) (pos 4))) past_all
  pub vhcurveto : piece_of (TurningCurves false) false four 0
      ≡ found (Curve (delta (pos 0) (pos 1)) (delta (pos 2) (pos 3)) (delta (pos 4) (pos 0))) past_all
  pub vhcurveto_of_five : piece_of (TurningCurves false) false five 0
      ≡ found (Curve (delta (pos 0) (pos 1)) (delta (pos 2) (pos 3)) (delta (pos 4) (pos 5))) past_all
  pub first_of_two : piece_of (TurningCurves true) false nine 0
      ≡ found (Curve (delta (pos 1) (pos 0)) (delta (pos 2) (pos 3)) (delta (pos 0) (pos 4))) 4
  pub second_of_two : piece_of (TurningCurves true) true nine 4
      ≡ found (Curve (delta (pos 0) (pos 5)) (delta (pos 6) (pos 7)) (delta (pos 8) (pos 9))) past_all
  pub two_left_over_after_one : piece_of (TurningCurves true) false six 0
      ≡ found (Curve (delta (pos 1) (pos 0)) (delta (pos 2) (pos 3)) (delta (pos 5) (pos 4))) past_all
  pub two_left_over_after_two : piece_of (TurningCurves true) true ten 4
      ≡ found (Curve (delta (pos 0) (pos 5)) (delta (pos 6) (pos 7)) (delta (pos 8) (pos 0))) past_all
  pub done : piece_of (TurningCurves true) true four past_all ≡ None

-- flex: two curves of six arguments, and a depth that nobody reads
abbrev pub thirteen : List ℤ
thirteen = pos 1 ∷ pos 2 ∷ pos 3 ∷ pos 4 ∷ pos 5 ∷ pos 6 ∷ pos 7 ∷ pos 8 ∷ pos 9 ∷ pos 10 ∷ pos 11 ∷ pos 12 ∷ pos 50 ∷ []

-- flex1: the points go 25 to the right and 30 up, so the last argument is upwards; with 99 in the place of 9 it is to the right
abbrev pub upward : List ℤ
upward = pos 1 ∷ pos 2 ∷ pos 3 ∷ pos 4 ∷ pos 5 ∷ pos 6 ∷ pos 7 ∷ pos 8 ∷ pos 9 ∷ pos 10 ∷ pos 11 ∷ []

abbrev pub rightward : List ℤ
rightward = pos 1 ∷ pos 2 ∷ pos 3 ∷ pos 4 ∷ pos 5 ∷ pos 6 ∷ pos 7 ∷ pos 8 ∷ pos 99 ∷ pos 10 ∷ pos 11 ∷ []

pub record WorkedFlexes : Type 0 where
  pub flex : piece_of Flex false thirteen 0 ≡ first_six 6
  pub flex_second : piece_of Flex true thirteen 6
      ≡ found (Curve (delta (pos 7) (pos 8)) (delta (pos 9) (pos 10)) (delta (pos 11) (pos 12))) 12
  pub flex_done : piece_of Flex false thirteen 12 ≡ None
  pub hflex : piece_of Hflex false eight 0 ≡ found (Curve (delta (pos 1) (pos 0)) (delta (pos 2) (pos 3)) (delta (pos 4) (pos 0))) 4
  pub hflex_second : piece_of Hflex true eight 4 ≡ found (Curve (delta (pos 5) (pos 0)) (delta (pos 6) (negsuc 2)) (delta (pos 7) (pos 0))) 7
  pub hflex_done : piece_of Hflex false eight 7 ≡ None
  pub hflex1 : piece_of Hflex1 false nine 0 ≡ found (Curve (delta (pos 1) (pos 2)) (delta (pos 3) (pos 4)) (delta (pos 5) (pos 0))) 5
  pub hflex1_second : piece_of Hflex1 true nine 5 ≡ found (Curve (delta (pos 6) (pos 0)) (delta (pos 7) (pos 8)) (delta (pos 9) (negsuc 13))) 9
  pub hflex1_done : piece_of Hflex1 false nine 9 ≡ None
  pub flex1 : piece_of Flex1 false upward 0 ≡ first_six 6
  pub flex1_upward : piece_of Flex1 true upward 6 ≡ found (Curve (delta (pos 7) (pos 8)) (delta (pos 9) (pos 10)) (delta (negsuc 24) (pos 11))) 11
  pub flex1_rightward : piece_of Flex1 true rightward 6
      ≡ found (Curve (delta (pos 7) (pos 8)) (delta (pos 99) (pos 10)) (delta (pos 11) (negsuc 29))) 11
  pub flex1_done : piece_of Flex1 false upward 11 ≡ None
  pub flex_of_thirteen : is_accepted Flex 13 ≡ true
  pub flex_of_twelve : is_accepted Flex 12 ≡ false
  pub hflex_of_seven : is_accepted Hflex 7 ≡ true
  pub hflex_of_eight : is_accepted Hflex 8 ≡ false
  pub hflex1_of_nine : is_accepted Hflex1 9 ≡ true
  pub hflex1_of_seven : is_accepted Hflex1 7 ≡ false
  pub flex1_of_eleven : is_accepted Flex1 11 ≡ true
  pub flex1_of_ten : is_accepted Flex1 10 ≡ false
  pub lines_of_any : is_accepted Lines 3 ≡ true

pub worked_numbers : WorkedNumbers
worked_numbers = record {
  least_byte = refl;
  zero = refl;
  greatest_byte = refl;
  least_pair = refl;
  thousand = refl;
  minus_thousand = refl;
  word = refl;
  minus_one = refl;
  one_and_a_half = refl;
  minus_a_half = refl;
  size_of_a_byte = refl;
  size_of_a_pair = refl;
  size_of_a_word = refl;
  size_of_a_fixed = refl;
  operator = refl;
  number = refl;
  word_begins = refl;
  fixed_begins = refl;
}

pub worked_lines : WorkedLines
worked_lines = record {
  rlineto = refl;
  rlineto_then = refl;
  rlineto_done = refl;
  rlineto_left_over = refl;
  hlineto = refl;
  hlineto_turned = refl;
  vlineto = refl;
  vlineto_turned = refl;
  hlineto_done = refl;
}

pub worked_curves : WorkedCurves
worked_curves = record {
  rrcurveto = refl;
  rrcurveto_left_over = refl;
  rcurveline = refl;
  rcurveline_line = refl;
  rcurveline_of_six = refl;
  rcurveline_done = refl;
  rlinecurve = refl;
  rlinecurve_curve = refl;
  rlinecurve_of_six = refl;
  rlinecurve_done = refl;
}

pub worked_axis_curves : WorkedAxisCurves
worked_axis_curves = record {
  hhcurveto = refl;
  hhcurveto_of_five = refl;
  vvcurveto = refl;
  vvcurveto_of_five = refl;
  second = refl;
  of_one = refl;
  left_over = refl;
}

pub worked_turning_curves : WorkedTurningCurves
worked_turning_curves = record {
  hvcurveto = refl;
  hvcurveto_of_five = refl;
  vhcurveto = refl;
  vhcurveto_of_five = refl;
  first_of_two = refl;
  second_of_two = refl;
  two_left_over_after_one = refl;
  two_left_over_after_two = refl;
  done = refl;
}

pub worked_flexes : WorkedFlexes
unfolding plus opposite int_wrap
worked_flexes = record {
  flex = refl;
  flex_second = refl;
  flex_done = refl;
  hflex = refl;
  hflex_second = refl;
  hflex_done = refl;
  hflex1 = refl;
  hflex1_second = refl;
  hflex1_done = refl;
  flex1 = refl;
  flex1_upward = refl;
  flex1_rightward = refl;
  flex1_done = refl;
  flex_of_thirteen = refl;
  flex_of_twelve = refl;
  hflex_of_seven = refl;
  hflex_of_eight = refl;
  hflex1_of_nine = refl;
  hflex1_of_seven = refl;
  flex1_of_eleven = refl;
  flex1_of_ten = refl;
  lines_of_any = refl;
}
