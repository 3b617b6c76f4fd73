-- General categories (The Unicode Standard, section 4.5).
use Rattle.std.specs.Prelude.{Bool, true, false}
use Rattle.shape_common.specs.declared.general_category.hb_unicode_general_category_t.{hb_unicode_general_category_t}
use Rattle.shape_common.specs.declared.general_category.hb_unicode_general_category_t.TheVariants.{NonspacingMark, SpacingMark, EnclosingMark}
use Rattle.shape_common.specs.declared.general_category.hb_unicode_general_category_t.TheVariants.{SpaceSeparator, DecimalNumber}

-- the categories of marks
abbrev pub is_mark_category : hb_unicode_general_category_t → Bool
is_mark_category NonspacingMark = true
is_mark_category SpacingMark = true
is_mark_category EnclosingMark = true
is_mark_category _ = false

-- the category of marks that take no room along the line
abbrev pub is_nonspacing_category : hb_unicode_general_category_t → Bool
is_nonspacing_category NonspacingMark = true
is_nonspacing_category _ = false

-- the category of space separators
abbrev pub is_space_category : hb_unicode_general_category_t → Bool
is_space_category SpaceSeparator = true
is_space_category _ = false

-- the category of decimal digits
abbrev pub is_digit_category : hb_unicode_general_category_t → Bool
is_digit_category DecimalNumber = true
is_digit_category _ = false
