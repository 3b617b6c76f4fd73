-- Where the lines of a text end: the places of which the rules say so.
use Rattle.std.specs.Prelude.{◌≡◌, ℕ, ◌==◌, List, [], ◌∷◌, ◌++◌, length, if◌then◌else◌}
use Rattle.std.specs.List.Sorted.{IsNonDecreasing}
use Rattle.ucd_breaks.specs.declared.LineBreak.TheVariants.{Space}
use Rattle.line_breaks.specs.Around.{around_of}
use Rattle.line_breaks.specs.Letters.{is}
use Rattle.line_breaks.specs.Rules.{verdict_of}
use Rattle.line_breaks.specs.Units.{units_of}
use Rattle.line_breaks.specs.declared.breaking.LineBreaks.{LineBreaks}
use Rattle.line_breaks.specs.declared.rules.Verdict.{Verdict}
use Rattle.line_breaks.specs.declared.rules.Verdict.TheVariants.{Mandatory, Allowed, Prohibited}
use Rattle.line_breaks.specs.declared.units.Unit.{Unit}

-- what is said of the place before a unit, with the units before it, the last one first, and those after it. LB2: no
-- line ends before the first unit
abbrev pub verdict_between : List Unit → Unit → List Unit → Verdict
verdict_between [] unit units = Prohibited
verdict_between (last ∷ before) unit units = verdict_of (around_of (last ∷ before) unit units)

abbrev pub verdicts_of : List Unit → List Unit → List Verdict
verdicts_of before [] = []
verdicts_of before (unit ∷ units) = verdict_between before unit units ∷ verdicts_of (unit ∷ before) units

abbrev pub verdict_number : Verdict → ℕ
verdict_number Mandatory = 0
verdict_number Allowed = 1
verdict_number Prohibited = 2

-- the offsets of the units that a verdict is said of
abbrev pub offsets_of : Verdict → List Unit → List Verdict → List ℕ
offsets_of wanted [] verdicts = []
offsets_of wanted (unit ∷ units) [] = []
offsets_of wanted (unit ∷ units) (verdict ∷ verdicts) =
    if verdict_number verdict == verdict_number wanted then unit.offset ∷ offsets_of wanted units verdicts
    else offsets_of wanted units verdicts

abbrev pub spaces_of : List Unit → List ℕ
spaces_of [] = []
spaces_of (unit ∷ units) = if is unit.letter Space then unit.offset ∷ spaces_of units else spaces_of units

-- LB3: a line must end with the text
abbrev pub end_of : List ℕ → List ℕ
end_of [] = []
end_of (byte ∷ bytes) = length (byte ∷ bytes) ∷ []

pub record AreLineBreaks (bytes : List ℕ) (breaks : LineBreaks) : Type 0 where
  pub allowed : breaks.allowed.items ≡ offsets_of Allowed (units_of bytes) (verdicts_of [] (units_of bytes))
  pub mandatory : breaks.mandatory.items ≡ offsets_of Mandatory (units_of bytes) (verdicts_of [] (units_of bytes)) ++ end_of bytes
  pub spaces : breaks.spaces.items ≡ spaces_of (units_of bytes)

-- each list rises
pub record AreRising (breaks : LineBreaks) : Type 0 where
  pub allowed : IsNonDecreasing breaks.allowed.items
  pub mandatory : IsNonDecreasing breaks.mandatory.items
  pub spaces : IsNonDecreasing breaks.spaces.items
