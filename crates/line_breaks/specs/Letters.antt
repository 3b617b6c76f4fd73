-- A character as the rules of UAX 14 see it.
use Rattle.std.specs.Prelude.{ℕ, ◌==◌, ◌&&◌, ◌||◌, Bool, false, if◌then◌else◌}
use Rattle.ucd_breaks.specs.LineBreak.{line_break, line_break_number}
use Rattle.ucd_breaks.specs.declared.LineBreak.{LineBreak}
use Rattle.ucd_breaks.specs.declared.LineBreak.TheVariants.{Alphabetic, Ambiguous, Surrogate, Unknown, ComplexContext, CombiningMark}
use Rattle.ucd_breaks.specs.declared.LineBreak.TheVariants.{ConditionalJapaneseStarter, Nonstarter, MandatoryBreak}
use Rattle.ucd_category.specs.GeneralCategory.{general_category, general_category_number}
use Rattle.ucd_category.specs.declared.GeneralCategory.{GeneralCategory}
use Rattle.ucd_category.specs.declared.GeneralCategory.TheVariants.{NonspacingMark, SpacingMark, InitialPunctuation, FinalPunctuation, Unassigned}
use Rattle.ucd_east_asian.specs.EastAsianWidth.{east_asian_width, east_asian_width_number}
use Rattle.ucd_east_asian.specs.declared.EastAsianWidth.{EastAsianWidth}
use Rattle.ucd_east_asian.specs.declared.EastAsianWidth.TheVariants.{Fullwidth, Halfwidth, Wide}
use Rattle.ucd_emoji.specs.Binary.{is_extended_pictographic}
use Rattle.line_breaks.specs.declared.letters.Letter.{Letter}

abbrev pub same : LineBreak → LineBreak → Bool
same class other = line_break_number class == line_break_number other

-- a letter is of a class
abbrev pub is : Letter → LineBreak → Bool
is letter class = same letter.class class

abbrev pub is_category : GeneralCategory → GeneralCategory → Bool
is_category category other = general_category_number category == general_category_number other

abbrev pub is_combining : GeneralCategory → Bool
is_combining category = is_category category NonspacingMark || is_category category SpacingMark

-- LB1: AI, SG and XX become AL, CJ becomes NS, and SA becomes CM if it is a mark and else AL
abbrev pub resolved : LineBreak → GeneralCategory → LineBreak
resolved class category =
    if same class Ambiguous || (same class Surrogate || same class Unknown) then Alphabetic
    else if same class ConditionalJapaneseStarter then Nonstarter
    else if same class ComplexContext then (if is_combining category then CombiningMark else Alphabetic)
    else class

abbrev pub is_width : EastAsianWidth → EastAsianWidth → Bool
is_width width other = east_asian_width_number width == east_asian_width_number other

abbrev pub is_wide : EastAsianWidth → Bool
is_wide width = is_width width Fullwidth || (is_width width Halfwidth || is_width width Wide)

abbrev pub letter_of : ℕ → Letter
letter_of c = record {
  class = resolved (line_break c) (general_category c);
  opens = is_category (general_category c) InitialPunctuation;
  closes = is_category (general_category c) FinalPunctuation;
  wide = is_wide (east_asian_width c);
  reserved = is_extended_pictographic c && is_category (general_category c) Unassigned;
  circle = c == 0x25CC;
}

-- the start and the end of a text: no rule tells them from a mandatory break
abbrev pub edge : Letter
edge = record { class = MandatoryBreak; opens = false; closes = false; wide = false; reserved = false; circle = false }
