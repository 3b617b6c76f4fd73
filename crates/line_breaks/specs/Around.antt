-- What the rules ask of the text around a place between two units.
use Rattle.std.specs.Prelude.{ℕ, zero, suc, ◌&&◌, ◌||◌, not, Bool, false, List, [], ◌∷◌, if◌then◌else◌}
use Rattle.ucd_breaks.specs.declared.LineBreak.TheVariants.{Space, Numeric, BreakSymbols, InfixNumeric, ClosePunctuation, CloseParenthesis, RegionalIndicator}
use Rattle.line_breaks.specs.Letters.{is, edge}
use Rattle.line_breaks.specs.declared.letters.Letter.{Letter}
use Rattle.line_breaks.specs.declared.rules.Around.{Around}
use Rattle.line_breaks.specs.declared.rules.Before.{Before}
use Rattle.line_breaks.specs.declared.units.Unit.{Unit}

-- the letter of a unit, or the edge of the text
abbrev pub letter_at : List Unit → ℕ → Letter
letter_at [] k = edge
letter_at (unit ∷ units) zero = unit.letter
letter_at (unit ∷ units) (suc k) = letter_at units k

-- ---- of the units before a place, the last one first

-- those before the spaces that stand last: X SP*
abbrev pub past_spaces : List Unit → List Unit
past_spaces [] = []
past_spaces (unit ∷ units) = if is unit.letter Space then past_spaces units else unit ∷ units

abbrev pub goes_on : Letter → Bool → Bool
goes_on letter number = is letter Numeric || ((is letter BreakSymbols || is letter InfixNumeric) && number)

-- NU (SY | IS)*
abbrev pub ends_number : List Unit → Bool
ends_number [] = false
ends_number (unit ∷ units) = goes_on unit.letter (ends_number units)

abbrev pub closes : Letter → Bool
closes letter = is letter ClosePunctuation || is letter CloseParenthesis

-- NU (SY | IS)* (CL | CP)
abbrev pub closes_number : List Unit → Bool
closes_number [] = false
closes_number (unit ∷ units) = ends_number units && closes unit.letter

-- an odd number of RI
abbrev pub is_odd : List Unit → Bool
is_odd [] = false
is_odd (unit ∷ units) = is unit.letter RegionalIndicator && not (is_odd units)

abbrev pub before_of : List Unit → Before
before_of units = record {
  two = letter_at units 1;
  one = letter_at units 0;
  base_two = letter_at (past_spaces units) 1;
  base = letter_at (past_spaces units) 0;
  number = ends_number units;
  closed = closes_number units;
  odd = is_odd units;
}

-- a place before a unit, with the units before it, the last one first, and those after it
abbrev pub around_of : List Unit → Unit → List Unit → Around
around_of before unit units = record {
  before = before_of before;
  joined = unit.after_joiner;
  after = unit.letter;
  next = letter_at units 0;
  third = letter_at units 1;
}
