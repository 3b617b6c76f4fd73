-- General categories (The Unicode Standard, section 4.5).
use Rattle.std.specs.Prelude.{ℕ}
use Rattle.ucd_category.specs.GeneralCategory.{general_category}
use Rattle.ucd_category.specs.declared.GeneralCategory.{GeneralCategory}
use Rattle.ucd_category.specs.declared.GeneralCategory.TheVariants as database
use Rattle.shape_common.specs.declared.general_category.hb_unicode_general_category_t.{hb_unicode_general_category_t}
use Rattle.shape_common.specs.declared.general_category.hb_unicode_general_category_t.TheVariants as shaping

-- the category of the same name
abbrev pub category_from : GeneralCategory → hb_unicode_general_category_t
category_from database.UppercaseLetter = shaping.UppercaseLetter
category_from database.LowercaseLetter = shaping.LowercaseLetter
category_from database.TitlecaseLetter = shaping.TitlecaseLetter
category_from database.ModifierLetter = shaping.ModifierLetter
category_from database.OtherLetter = shaping.OtherLetter
category_from database.NonspacingMark = shaping.NonspacingMark
category_from database.SpacingMark = shaping.SpacingMark
category_from database.EnclosingMark = shaping.EnclosingMark
category_from database.DecimalNumber = shaping.DecimalNumber
category_from database.LetterNumber = shaping.LetterNumber
category_from database.OtherNumber = shaping.OtherNumber
category_from database.ConnectorPunctuation = shaping.ConnectorPunctuation
category_from database.DashPunctuation = shaping.DashPunctuation
category_from database.OpenPunctuation = shaping.OpenPunctuation
category_from database.ClosePunctuation = shaping.ClosePunctuation
category_from database.InitialPunctuation = shaping.InitialPunctuation
category_from database.FinalPunctuation = shaping.FinalPunctuation
category_from database.OtherPunctuation = shaping.OtherPunctuation
category_from database.MathSymbol = shaping.MathSymbol
category_from database.CurrencySymbol = shaping.CurrencySymbol
category_from database.ModifierSymbol = shaping.ModifierSymbol
category_from database.OtherSymbol = shaping.OtherSymbol
category_from database.SpaceSeparator = shaping.SpaceSeparator
category_from database.LineSeparator = shaping.LineSeparator
category_from database.ParagraphSeparator = shaping.ParagraphSeparator
category_from database.Control = shaping.Control
category_from database.Format = shaping.Format
category_from database.Surrogate = shaping.Surrogate
category_from database.PrivateUse = shaping.PrivateUse
category_from database.Unassigned = shaping.Unassigned

-- General_Category
abbrev pub category_of : ℕ → hb_unicode_general_category_t
category_of c = category_from (general_category c)
