-- What a pen draws of contours of a few points, wherever they stand.
use Rattle.std.specs.Prelude.{◌≡◌, List, [], ◌∷◌, true, false, refl}
use Rattle.glyph_outlines.specs.Contours.{outline}
use Rattle.glyph_outlines.specs.Frames.{middle}
use Rattle.glyph_outlines.specs.declared.frame.Point.{Point}
use Rattle.glyph_outlines.specs.declared.frame.OutlinePoint.{OutlinePoint}
use Rattle.glyph_outlines.specs.declared.segments.Segment.{Segment}
use Rattle.glyph_outlines.specs.declared.segments.Segment.TheVariants.{Move, Line, Curve, Close}

-- a point where another one stands, that the outline goes through, or goes round
abbrev pub through : Point → Point
through p = record p { on = true }

abbrev pub round : Point → Point
round p = record p { on = false }

abbrev pub goes_on : Point → OutlinePoint
goes_on p = record { point = p; ends = false }

abbrev pub last : Point → OutlinePoint
last p = record { point = p; ends = true }

abbrev pub drawn : List OutlinePoint → List Segment
drawn points = outline [] points

pub record WorkedContours : Type 0 where
  pub nothing : drawn [] ≡ []
  pub one_point : (a : Point) → drawn (last (through a) ∷ []) ≡ Move (through a) ∷ Close ∷ []
  -- the line back to the start is drawn by closing
  pub lines : (a b c : Point) → drawn (goes_on (through a) ∷ goes_on (through b) ∷ last (through c) ∷ [])
      ≡ Move (through a) ∷ Line (through b) ∷ Line (through c) ∷ Close ∷ []
  pub curve : (a b c : Point) → drawn (goes_on (through a) ∷ goes_on (round b) ∷ last (through c) ∷ [])
      ≡ Move (through a) ∷ Curve (round b) (through c) ∷ Close ∷ []
  pub between_two : (a b c d : Point) → drawn (goes_on (through a) ∷ goes_on (round b) ∷ goes_on (round c) ∷ last (through d) ∷ [])
      ≡ Move (through a) ∷ Curve (round b) (middle (round b) (round c)) ∷ Curve (round c) (through d) ∷ Close ∷ []
  pub back_by_a_curve : (a b : Point) → drawn (goes_on (through a) ∷ last (round b) ∷ [])
      ≡ Move (through a) ∷ Curve (round b) (through a) ∷ Close ∷ []
  pub begins_at_its_last : (a b : Point) → drawn (goes_on (round a) ∷ last (through b) ∷ [])
      ≡ Move (through b) ∷ Curve (round a) (through b) ∷ Close ∷ []
  pub begins_between : (a b : Point) → drawn (goes_on (round a) ∷ last (round b) ∷ [])
      ≡ Move (middle (round a) (round b)) ∷ Curve (round a) (middle (round a) (round b)) ∷ Curve (round b) (middle (round a) (round b)) ∷ Close ∷ []
  pub two_contours : (a b c : Point) → drawn (goes_on (through a) ∷ last (through b) ∷ last (through c) ∷ [])
      ≡ Move (through a) ∷ Line (through b) ∷ Close ∷ Move (through c) ∷ Close ∷ []
  pub not_ended : (a b c : Point) → drawn (last (through a) ∷ goes_on (through b) ∷ goes_on (through c) ∷ []) ≡ Move (through a) ∷ Close ∷ []

pub worked_contours : WorkedContours
worked_contours = record {
  nothing = refl;
  one_point = λ a. refl;
  lines = λ a b c. refl;
  curve = λ a b c. refl;
  between_two = λ a b c d. refl;
  back_by_a_curve = λ a b. refl;
  begins_at_its_last = λ a b. refl;
  begins_between = λ a b. refl;
  two_contours = λ a b c. refl;
  not_ended = λ a b c. refl;
}
