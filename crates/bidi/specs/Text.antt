-- The levels of a whole text: P1, and the rules up to I2 for each of its paragraphs.
use Rattle.std.specs.Prelude.{ℕ, ◌+◌, ◌==◌, ◌&&◌, not, Bool, false, List, [], ◌∷◌, ◌++◌, map, length, Option, if◌then◌else◌}
use Rattle.ucd_bidi.specs.BidiClass.{bidi_class}
use Rattle.ucd_bidi.specs.declared.BidiClass.{BidiClass}
use Rattle.ucd_bidi.specs.declared.BidiClass.TheVariants.{ParagraphSeparator}
use Rattle.bidi.specs.Classes.{is, is_removed}
use Rattle.bidi.specs.Explicit.{explicit}
use Rattle.bidi.specs.Levels.{classes_of, paragraph_level}
use Rattle.bidi.specs.Members.{members}
use Rattle.bidi.specs.Sequences.{with_sequences}
use Rattle.bidi.specs.declared.explicit.Placed.{Placed}
use Rattle.bidi.specs.declared.levels.Direction.{Direction}
use Rattle.bidi.specs.declared.text.Paragraph.{Paragraph}

-- characters that X9 removes have the level of the one before, or that of the paragraph
abbrev pub filled_level : ℕ → BidiClass → ℕ → ℕ
filled_level before class level = if is_removed class then before else level

abbrev pub filled : ℕ → List BidiClass → List ℕ → List ℕ
filled before [] levels = levels
filled before (class ∷ classes) [] = []
filled before (class ∷ classes) (level ∷ levels) =
    filled_level before class level ∷ filled (filled_level before class level) classes levels

abbrev pub level_of : Placed → ℕ
level_of placed = placed.level

-- the levels of a paragraph of a level: X1 to X8, X9, and X10 with the rules W1 to I2
abbrev pub levels_in : ℕ → List ℕ → List BidiClass → List ℕ
levels_in base text classes =
    filled base classes
    (with_sequences base (members base text classes (explicit base classes)) (map level_of (explicit base classes)))

-- P1: a separator ends its paragraph; CR LF is one
abbrev pub begins_with : ℕ → List ℕ → Bool
begins_with c [] = false
begins_with c (first ∷ rest) = first == c

abbrev pub ends_paragraph : ℕ → List ℕ → Bool
ends_paragraph c rest = is (bidi_class c) ParagraphSeparator && not (c == 0xD && begins_with 0xA rest)

-- the paragraphs of a text, given the characters of the first one so far
abbrev pub last_part : List ℕ → List (List ℕ)
last_part [] = []
last_part (c ∷ part) = (c ∷ part) ∷ []

abbrev pub parts_from : List ℕ → List ℕ → List (List ℕ)
parts_from part [] = last_part part
parts_from part (c ∷ rest) =
    if ends_paragraph c rest then (part ++ c ∷ []) ∷ parts_from [] rest
    else parts_from (part ++ c ∷ []) rest

abbrev pub parts_of : List ℕ → List (List ℕ)
parts_of text = parts_from [] text

abbrev pub level_in : Option Direction → List ℕ → ℕ
level_in base part = paragraph_level base (classes_of part)

abbrev pub part_levels : Option Direction → List ℕ → List ℕ
part_levels base part = levels_in (level_in base part) part (classes_of part)

abbrev pub levels_of : Option Direction → List (List ℕ) → List ℕ
levels_of base [] = []
levels_of base (part ∷ parts) = part_levels base part ++ levels_of base parts

abbrev pub paragraphs_of : Option Direction → ℕ → List (List ℕ) → List Paragraph
paragraphs_of base start [] = []
paragraphs_of base start (part ∷ parts) =
    record { end = start + length part; level = level_in base part } ∷ paragraphs_of base (start + length part) parts

-- P1: the levels of a text, and its paragraphs
abbrev pub text_levels : Option Direction → List ℕ → List ℕ
text_levels base text = levels_of base (parts_of text)

abbrev pub text_paragraphs : Option Direction → List ℕ → List Paragraph
text_paragraphs base text = paragraphs_of base 0 (parts_of text)
