-- The rules N1, N2, I1 and I2, each over the classes of an isolating run sequence.
use Rattle.std.specs.Prelude.{ℕ, ◌+◌, ◌%◌, ◌==◌, ◌||◌, List, [], ◌∷◌, if◌then◌else◌}
use Rattle.ucd_bidi.specs.declared.BidiClass.{BidiClass}
use Rattle.ucd_bidi.specs.declared.BidiClass.TheVariants.{ArabicNumber, EuropeanNumber, LeftToRight, RightToLeft}
use Rattle.bidi.specs.Classes.{direction, is, is_neutral}

-- the direction after neutral characters, eos at the end
abbrev pub direction_after : BidiClass → List BidiClass → BidiClass
direction_after eos [] = eos
direction_after eos (class ∷ classes) = if is_neutral class then direction_after eos classes else direction class

-- the direction before a place, after one more character
abbrev pub direction_then : BidiClass → BidiClass → BidiClass
direction_then before class = if is_neutral class then before else direction class

-- N1: a neutral character takes the direction around it, if it is the same on both sides; N2: else that of the embedding
abbrev pub n1_class : BidiClass → BidiClass → BidiClass → BidiClass → BidiClass
n1_class embedding before after class =
    if is_neutral class then (if is before after then before else embedding)
    else class

abbrev pub neutral : BidiClass → BidiClass → BidiClass → List BidiClass → List BidiClass
neutral embedding eos before [] = []
neutral embedding eos before (class ∷ classes) =
    n1_class embedding before (direction_after eos classes) class ∷ neutral embedding eos (direction_then before class) classes

-- I1: on an even level R goes up one level, AN and EN two
abbrev pub i1_level : ℕ → BidiClass → ℕ
i1_level level class =
    if is class RightToLeft then level + 1
    else if is class ArabicNumber || is class EuropeanNumber then level + 2
    else level

-- I2: on an odd level L, AN and EN go up one level
abbrev pub i2_level : ℕ → BidiClass → ℕ
i2_level level class =
    if is class LeftToRight || (is class ArabicNumber || is class EuropeanNumber) then level + 1
    else level

abbrev pub implicit_level : ℕ → BidiClass → ℕ
implicit_level level class = if level % 2 == 0 then i1_level level class else i2_level level class
