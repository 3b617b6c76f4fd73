-- Categories and their numbers.
use Rattle.std.proofs.Common.{◌≡◌, ℕ, ◌<◌, ◌≤◌, ◌-◌, ◌^◌, zero, suc, [], ◌∷◌, take, get_or, refl, ◌∙◌, lit<}
use Rattle.std.proofs.lemmas.List.{get_or-append_right}
use Rattle.shape_common.specs.CategoryNumber.{categories, category_number, category_of}
use Rattle.shape_common.specs.declared.general_category.hb_unicode_general_category_t.{hb_unicode_general_category_t}
use Rattle.shape_common.specs.declared.general_category.hb_unicode_general_category_t.TheVariants.{UppercaseLetter, LowercaseLetter, TitlecaseLetter}
use Rattle.shape_common.specs.declared.general_category.hb_unicode_general_category_t.TheVariants.{ModifierLetter, OtherLetter, NonspacingMark}
use Rattle.shape_common.specs.declared.general_category.hb_unicode_general_category_t.TheVariants.{SpacingMark, EnclosingMark, DecimalNumber}
use Rattle.shape_common.specs.declared.general_category.hb_unicode_general_category_t.TheVariants.{LetterNumber, OtherNumber, ConnectorPunctuation}
use Rattle.shape_common.specs.declared.general_category.hb_unicode_general_category_t.TheVariants.{DashPunctuation, OpenPunctuation, ClosePunctuation}
use Rattle.shape_common.specs.declared.general_category.hb_unicode_general_category_t.TheVariants.{InitialPunctuation, FinalPunctuation}
use Rattle.shape_common.specs.declared.general_category.hb_unicode_general_category_t.TheVariants.{OtherPunctuation, MathSymbol, CurrencySymbol}
use Rattle.shape_common.specs.declared.general_category.hb_unicode_general_category_t.TheVariants.{ModifierSymbol, OtherSymbol, SpaceSeparator}
use Rattle.shape_common.specs.declared.general_category.hb_unicode_general_category_t.TheVariants.{LineSeparator, ParagraphSeparator, Control, Format}
use Rattle.shape_common.specs.declared.general_category.hb_unicode_general_category_t.TheVariants.{Surrogate, PrivateUse, Unassigned}

pub category_of-number : (category : hb_unicode_general_category_t) → category_of (category_number category) ≡ category
category_of-number UppercaseLetter = refl
category_of-number LowercaseLetter = refl
category_of-number TitlecaseLetter = refl
category_of-number ModifierLetter = refl
category_of-number OtherLetter = refl
category_of-number NonspacingMark = refl
category_of-number SpacingMark = refl
category_of-number EnclosingMark = refl
category_of-number DecimalNumber = refl
category_of-number LetterNumber = refl
category_of-number OtherNumber = refl
category_of-number ConnectorPunctuation = refl
category_of-number DashPunctuation = refl
category_of-number OpenPunctuation = refl
category_of-number ClosePunctuation = refl
category_of-number InitialPunctuation = refl
category_of-number FinalPunctuation = refl
category_of-number OtherPunctuation = refl
category_of-number MathSymbol = refl
category_of-number CurrencySymbol = refl
category_of-number ModifierSymbol = refl
category_of-number OtherSymbol = refl
category_of-number SpaceSeparator = refl
category_of-number LineSeparator = refl
category_of-number ParagraphSeparator = refl
category_of-number Control = refl
category_of-number Format = refl
category_of-number Surrogate = refl
category_of-number PrivateUse = refl
category_of-number Unassigned = refl

-- past the numbers of categories there is the last one
pub category_of-last : (number : ℕ) → 29 ≤ number → category_of number ≡ Unassigned
category_of-last number le = get_or-append_right (take 29 categories) (Unassigned ∷ []) 29 number Unassigned refl le ∙ alone (number - 29)
  where
    alone : (k : ℕ) → get_or (Unassigned ∷ []) k Unassigned ≡ Unassigned
    alone zero = refl
    alone (suc k) = refl

pub category_number-below : (category : hb_unicode_general_category_t) → category_number category < 2 ^ 8
category_number-below UppercaseLetter = lit< tt
category_number-below LowercaseLetter = lit< tt
category_number-below TitlecaseLetter = lit< tt
category_number-below ModifierLetter = lit< tt
category_number-below OtherLetter = lit< tt
category_number-below NonspacingMark = lit< tt
category_number-below SpacingMark = lit< tt
category_number-below EnclosingMark = lit< tt
category_number-below DecimalNumber = lit< tt
category_number-below LetterNumber = lit< tt
category_number-below OtherNumber = lit< tt
category_number-below ConnectorPunctuation = lit< tt
category_number-below DashPunctuation = lit< tt
category_number-below OpenPunctuation = lit< tt
category_number-below ClosePunctuation = lit< tt
category_number-below InitialPunctuation = lit< tt
category_number-below FinalPunctuation = lit< tt
category_number-below OtherPunctuation = lit< tt
category_number-below MathSymbol = lit< tt
category_number-below CurrencySymbol = lit< tt
category_number-below ModifierSymbol = lit< tt
category_number-below OtherSymbol = lit< tt
category_number-below SpaceSeparator = lit< tt
category_number-below LineSeparator = lit< tt
category_number-below ParagraphSeparator = lit< tt
category_number-below Control = lit< tt
category_number-below Format = lit< tt
category_number-below Surrogate = lit< tt
category_number-below PrivateUse = lit< tt
category_number-below Unassigned = lit< tt
