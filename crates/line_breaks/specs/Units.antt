-- Characters with the marks that follow them: LB9 and LB10.
use Rattle.std.specs.Prelude.{ℕ, ◌+◌, ◌&&◌, ◌||◌, not, Bool, true, false, List, [], ◌∷◌, ◌++◌, if◌then◌else◌}
use Rattle.std.specs.Char.{len_utf8}
use Rattle.std.specs.Str.{chars}
use Rattle.ucd_breaks.specs.declared.LineBreak.TheVariants.{CombiningMark, Zwj, MandatoryBreak, CarriageReturn, LineFeed, NextLine, Space, ZWSpace}
use Rattle.line_breaks.specs.Letters.{is, letter_of}
use Rattle.line_breaks.specs.declared.letters.Letter.{Letter}
use Rattle.line_breaks.specs.declared.units.Unit.{Unit}

-- CM and ZWJ
abbrev pub attaches : Letter → Bool
attaches letter = is letter CombiningMark || is letter Zwj

-- LB9: X (CM | ZWJ)* is treated as X, where X is any but BK, CR, LF, NL, SP and ZW
abbrev pub takes_marks : Letter → Bool
takes_marks letter = not (is letter MandatoryBreak || (is letter CarriageReturn || (is letter LineFeed || (is letter NextLine || (is letter Space
    || is letter ZWSpace)))))

-- LB10: any CM or ZWJ that is left is treated as the letter A
abbrev pub alone : Letter → Letter
alone letter = if attaches letter then letter_of 0x41 else letter

abbrev pub unit : ℕ → Letter → Bool → Unit
unit offset letter joined = record { offset = offset; letter = letter; after_joiner = joined }

-- a character put after the units: LB9, it attaches to the last one if that takes marks; and whether the last one takes marks then
abbrev pub put : Bool → Bool → ℕ → Letter → List Unit → List Unit
put takes joined offset letter units = if takes && attaches letter then units else units ++ unit offset (alone letter) joined ∷ []

abbrev pub takes_after : Bool → Letter → Bool
takes_after takes letter = if takes && attaches letter then true else takes_marks (alone letter)

-- the units of the characters from `offset` on, after those that there are; whether the last one takes marks, and whether the last
-- character is a joiner
abbrev pub units_from : Bool → Bool → ℕ → List Unit → List ℕ → List Unit
units_from takes joined offset units [] = units
units_from takes joined offset units (c ∷ cs) =
    units_from (takes_after takes (letter_of c)) (is (letter_of c) Zwj) (offset + len_utf8 c) (put takes joined offset (letter_of c) units) cs

abbrev pub units_of : List ℕ → List Unit
units_of bytes = units_from false false 0 [] (chars bytes)
