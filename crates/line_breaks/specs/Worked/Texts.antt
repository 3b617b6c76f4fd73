-- What characters are to the rules, and how a text is read and gone over, worked out by hand from the standard and the
-- data of Unicode.
use Rattle.std.specs.Prelude.{◌≡◌, ℕ, Bool, true, false, List, [], ◌∷◌, ◌++◌, map, refl}
use Rattle.std.specs.List.{list_all}
use Rattle.std.specs.Str.{chars}
use Rattle.ucd_table.specs.Rows.{value_in, in_ranges}
use Rattle.ucd_breaks.specs.LineBreak.{line_break}
use Rattle.ucd_breaks.specs.LineBreakRows.{line_break_rows}
use Rattle.ucd_breaks.specs.declared.LineBreak.TheVariants.{Alphabetic, Ambiguous, BreakSymbols, CarriageReturn, ClosePunctuation, CombiningMark}
use Rattle.ucd_breaks.specs.declared.LineBreak.TheVariants.{ComplexContext, ConditionalJapaneseStarter, Exclamation, Ideographic, InfixNumeric}
use Rattle.ucd_breaks.specs.declared.LineBreak.TheVariants.{LineFeed, MandatoryBreak, NextLine, Nonstarter, Numeric, OpenPunctuation, Quotation}
use Rattle.ucd_breaks.specs.declared.LineBreak.TheVariants.{RegionalIndicator, Space, Surrogate, Unknown, Zwj, ZWSpace}
use Rattle.ucd_category.specs.GeneralCategory.{general_category}
use Rattle.ucd_category.specs.GeneralCategoryRows.{general_category_rows}
use Rattle.ucd_category.specs.declared.GeneralCategory.TheVariants.{NonspacingMark, SpacingMark, EnclosingMark, OtherLetter}
use Rattle.ucd_east_asian.specs.EastAsianWidth.{east_asian_width}
use Rattle.ucd_east_asian.specs.EastAsianWidthRows.{east_asian_width_rows}
use Rattle.ucd_emoji.specs.Binary.{is_extended_pictographic}
use Rattle.ucd_emoji.specs.Ranges.{extended_pictographic_ranges}
use Rattle.line_breaks.specs.Around.{is_odd, ends_number, closes_number, past_spaces}
use Rattle.line_breaks.specs.Breaks.{end_of, offsets_of, spaces_of, verdicts_of}
use Rattle.line_breaks.specs.Letters.{edge, letter_of, resolved}
use Rattle.line_breaks.specs.Units.{put, takes_after, takes_marks, unit, units_of}
use Rattle.line_breaks.specs.Worked.{letter, opening, closing, wide, alone}
use Rattle.line_breaks.specs.declared.rules.Verdict.TheVariants.{Mandatory, Allowed, Prohibited}
use Rattle.line_breaks.specs.declared.units.Unit.{Unit}

pub record WorkedLetters : Type 0 where
  pub plain : letter_of 0x61 ≡ letter Alphabetic
  pub circle : letter_of 0x25CC ≡ record edge { class = Alphabetic; circle = true }
  pub opens : letter_of 0xAB ≡ opening Quotation
  pub closes : letter_of 0xBB ≡ closing Quotation
  -- a wide one, a fullwidth one and a halfwidth one
  pub of_width_w : letter_of 0x4E00 ≡ wide Ideographic
  pub of_width_f : letter_of 0xFF01 ≡ wide Exclamation
  pub of_width_h : letter_of 0xFF71 ≡ wide Ideographic
  pub reserved : letter_of 0x1F02C ≡ record edge { class = Ideographic; reserved = true }
  pub pictograph : letter_of 0x1F600 ≡ wide Ideographic
  pub mark : letter_of 0x301 ≡ letter CombiningMark
  pub thai_letter : letter_of 0xE01 ≡ letter Alphabetic
  pub thai_mark : letter_of 0xE31 ≡ letter CombiningMark
  pub small_kana : letter_of 0x3041 ≡ wide Nonstarter

pub worked_letters : WorkedLetters
unfolding line_break general_category east_asian_width is_extended_pictographic value_in line_break_rows
    general_category_rows east_asian_width_rows in_ranges extended_pictographic_ranges
worked_letters = record {
  plain = refl;
  circle = refl;
  opens = refl;
  closes = refl;
  of_width_w = refl;
  of_width_f = refl;
  of_width_h = refl;
  reserved = refl;
  pictograph = refl;
  mark = refl;
  thai_letter = refl;
  thai_mark = refl;
  small_kana = refl;
}

pub record WorkedClassOne : Type 0 where
  pub ambiguous : resolved Ambiguous OtherLetter ≡ Alphabetic
  pub surrogate : resolved Surrogate OtherLetter ≡ Alphabetic
  pub unknown : resolved Unknown OtherLetter ≡ Alphabetic
  pub complex_letter : resolved ComplexContext OtherLetter ≡ Alphabetic
  pub complex_mark : resolved ComplexContext NonspacingMark ≡ CombiningMark
  pub complex_spacing_mark : resolved ComplexContext SpacingMark ≡ CombiningMark
  pub complex_enclosing_mark : resolved ComplexContext EnclosingMark ≡ Alphabetic
  pub starter : resolved ConditionalJapaneseStarter OtherLetter ≡ Nonstarter
  pub another_mark : resolved Ideographic NonspacingMark ≡ Ideographic

pub worked_class_one : WorkedClassOne
worked_class_one = record {
  ambiguous = refl;
  surrogate = refl;
  unknown = refl;
  complex_letter = refl;
  complex_mark = refl;
  complex_spacing_mark = refl;
  complex_enclosing_mark = refl;
  starter = refl;
  another_mark = refl;
}

-- a, a mark on it, a space, a joiner and an ideograph, of 1, 2, 1, 3 and 3 bytes
abbrev joined_text : List ℕ
joined_text = 0x61 ∷ 0xCC ∷ 0x81 ∷ 0x20 ∷ 0xE2 ∷ 0x80 ∷ 0x8D ∷ 0xE4 ∷ 0xB8 ∷ 0x80 ∷ []

pub record WorkedUnits : Type 0 where
  pub mark_attaches : put true false 3 (letter CombiningMark) [] ≡ []
  pub joiner_attaches : put true false 3 (letter Zwj) [] ≡ []
  pub mark_alone : put false false 3 (letter CombiningMark) [] ≡ unit 3 (letter_of 0x41) false ∷ []
  pub letter_does_not : put true false 3 (letter Numeric) [] ≡ unit 3 (letter Numeric) false ∷ []
  pub last : put false true 3 (letter Numeric) (unit 0 (letter Space) false ∷ [])
      ≡ unit 0 (letter Space) false ∷ unit 3 (letter Numeric) true ∷ []
  pub a_second_mark_attaches : takes_after true (letter CombiningMark) ≡ true
  pub none_after_a_space : takes_after true (letter Space) ≡ false
  pub one_after_a_letter : takes_after false (letter Alphabetic) ≡ true
  pub none_takes : map (λ class. takes_marks (letter class)) (MandatoryBreak ∷ CarriageReturn ∷ LineFeed ∷ NextLine ∷ Space ∷ ZWSpace ∷ Ideographic ∷ [])
      ≡ false ∷ false ∷ false ∷ false ∷ false ∷ false ∷ true ∷ []

pub worked_units : WorkedUnits
worked_units = record {
  mark_attaches = refl;
  joiner_attaches = refl;
  mark_alone = refl;
  letter_does_not = refl;
  last = refl;
  a_second_mark_attaches = refl;
  none_after_a_space = refl;
  one_after_a_letter = refl;
  none_takes = refl;
}

pub record WorkedText : Type 0 where
  pub units : units_of joined_text ≡ unit 0 (letter Alphabetic) false ∷ unit 3 (letter Space) false ∷ unit 4 (letter Alphabetic) false
      ∷ unit 7 (wide Ideographic) true ∷ []

pub worked_text : WorkedText
unfolding chars line_break general_category east_asian_width is_extended_pictographic value_in line_break_rows
    general_category_rows east_asian_width_rows in_ranges extended_pictographic_ranges
worked_text = record { units = refl }

abbrev at : ℕ → Unit
at offset = unit offset (letter Alphabetic) false

-- a, a space, a letter, the end of a line, a letter
abbrev two_lines : List Unit
two_lines = at 0 ∷ unit 1 (letter Space) false ∷ at 2 ∷ unit 3 (letter LineFeed) false ∷ at 4 ∷ []

pub record WorkedBreaks : Type 0 where
  pub verdicts : verdicts_of [] two_lines ≡ Prohibited ∷ Prohibited ∷ Allowed ∷ Prohibited ∷ Mandatory ∷ []
  -- a parenthesis and a space before an ideograph
  pub all_before : verdicts_of [] (unit 0 (letter OpenPunctuation) false ∷ unit 1 (letter Space) false ∷ unit 2 (wide Ideographic) false ∷ [])
      ≡ Prohibited ∷ Prohibited ∷ Prohibited ∷ []
  pub allowed : offsets_of Allowed two_lines (verdicts_of [] two_lines) ≡ 2 ∷ []
  pub mandatory : offsets_of Mandatory two_lines (verdicts_of [] two_lines) ≡ 4 ∷ []
  pub prohibited : offsets_of Prohibited two_lines (verdicts_of [] two_lines) ≡ 0 ∷ 1 ∷ 3 ∷ []
  pub spaces : spaces_of two_lines ≡ 1 ∷ []
  pub end : end_of (0x61 ∷ 0x20 ∷ []) ≡ 2 ∷ []
  pub no_end : end_of [] ≡ []

pub worked_breaks : WorkedBreaks
worked_breaks = record {
  verdicts = refl;
  all_before = refl;
  allowed = refl;
  mandatory = refl;
  prohibited = refl;
  spaces = refl;
  end = refl;
  no_end = refl;
}
