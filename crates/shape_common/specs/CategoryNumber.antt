-- The number of a general category: its place among the variants, from 0.
use Rattle.std.specs.Prelude.{ℕ, List, [], ◌∷◌, get_or}
use Rattle.shape_common.specs.declared.general_category.hb_unicode_general_category_t.{hb_unicode_general_category_t}
use Rattle.shape_common.specs.declared.general_category.hb_unicode_general_category_t.TheVariants.{UppercaseLetter, LowercaseLetter, TitlecaseLetter}
use Rattle.shape_common.specs.declared.general_category.hb_unicode_general_category_t.TheVariants.{ModifierLetter, OtherLetter, NonspacingMark}
use Rattle.shape_common.specs.declared.general_category.hb_unicode_general_category_t.TheVariants.{SpacingMark, EnclosingMark, DecimalNumber}
use Rattle.shape_common.specs.declared.general_category.hb_unicode_general_category_t.TheVariants.{LetterNumber, OtherNumber, ConnectorPunctuation}
use Rattle.shape_common.specs.declared.general_category.hb_unicode_general_category_t.TheVariants.{DashPunctuation, OpenPunctuation, ClosePunctuation}
use Rattle.shape_common.specs.declared.general_category.hb_unicode_general_category_t.TheVariants.{InitialPunctuation, FinalPunctuation}
use Rattle.shape_common.specs.declared.general_category.hb_unicode_general_category_t.TheVariants.{OtherPunctuation, MathSymbol, CurrencySymbol}
use Rattle.shape_common.specs.declared.general_category.hb_unicode_general_category_t.TheVariants.{ModifierSymbol, OtherSymbol, SpaceSeparator}
use Rattle.shape_common.specs.declared.general_category.hb_unicode_general_category_t.TheVariants.{LineSeparator, ParagraphSeparator, Control, Format}
use Rattle.shape_common.specs.declared.general_category.hb_unicode_general_category_t.TheVariants.{Surrogate, PrivateUse, Unassigned}

-- all categories, each at the place that is its number
abbrev pub categories : List hb_unicode_general_category_t
categories =
    UppercaseLetter ∷ LowercaseLetter ∷ TitlecaseLetter ∷ ModifierLetter ∷ OtherLetter
    ∷ NonspacingMark ∷ SpacingMark ∷ EnclosingMark
    ∷ DecimalNumber ∷ LetterNumber ∷ OtherNumber
    ∷ ConnectorPunctuation ∷ DashPunctuation ∷ OpenPunctuation ∷ ClosePunctuation ∷ InitialPunctuation ∷ FinalPunctuation ∷ OtherPunctuation
    ∷ MathSymbol ∷ CurrencySymbol ∷ ModifierSymbol ∷ OtherSymbol
    ∷ SpaceSeparator ∷ LineSeparator ∷ ParagraphSeparator
    ∷ Control ∷ Format ∷ Surrogate ∷ PrivateUse ∷ Unassigned ∷ []

-- the category of a number; numbers past those of the categories give the last one
abbrev pub category_of : ℕ → hb_unicode_general_category_t
category_of number = get_or categories number Unassigned

abbrev pub category_number : hb_unicode_general_category_t → ℕ
category_number UppercaseLetter = 0
category_number LowercaseLetter = 1
category_number TitlecaseLetter = 2
category_number ModifierLetter = 3
category_number OtherLetter = 4
category_number NonspacingMark = 5
category_number SpacingMark = 6
category_number EnclosingMark = 7
category_number DecimalNumber = 8
category_number LetterNumber = 9
category_number OtherNumber = 10
category_number ConnectorPunctuation = 11
category_number DashPunctuation = 12
category_number OpenPunctuation = 13
category_number ClosePunctuation = 14
category_number InitialPunctuation = 15
category_number FinalPunctuation = 16
category_number OtherPunctuation = 17
category_number MathSymbol = 18
category_number CurrencySymbol = 19
category_number ModifierSymbol = 20
category_number OtherSymbol = 21
category_number SpaceSeparator = 22
category_number LineSeparator = 23
category_number ParagraphSeparator = 24
category_number Control = 25
category_number Format = 26
category_number Surrogate = 27
category_number PrivateUse = 28
category_number Unassigned = 29
