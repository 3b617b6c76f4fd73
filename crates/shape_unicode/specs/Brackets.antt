-- Brackets and quotation marks with their mirror images, by General_Category.
use Rattle.std.specs.Prelude.{◌≡◌, ℕ, ◌==◌, ◌||◌, Bool, true, false, Some}
use Rattle.ucd_bidi.specs.Binary.{is_bidi_mirrored}
use Rattle.shape_common.specs.declared.general_category.hb_unicode_general_category_t.{hb_unicode_general_category_t}
use Rattle.shape_common.specs.declared.general_category.hb_unicode_general_category_t.TheVariants.{OpenPunctuation, ClosePunctuation}
use Rattle.shape_common.specs.declared.general_category.hb_unicode_general_category_t.TheVariants.{InitialPunctuation, FinalPunctuation}
use Rattle.shape_unicode.specs.Category.{category_of}
use Rattle.shape_unicode.specs.Mirror.{mirrored_of}

-- the categories of brackets and of quotation marks that stand in pairs
abbrev pub is_bracket_category : hb_unicode_general_category_t → Bool
is_bracket_category OpenPunctuation = true
is_bracket_category ClosePunctuation = true
is_bracket_category InitialPunctuation = true
is_bracket_category FinalPunctuation = true
is_bracket_category _ = false

-- one opens what the other one closes
abbrev pub is_counterpart : hb_unicode_general_category_t → hb_unicode_general_category_t → Bool
is_counterpart OpenPunctuation ClosePunctuation = true
is_counterpart ClosePunctuation OpenPunctuation = true
is_counterpart InitialPunctuation FinalPunctuation = true
is_counterpart FinalPunctuation InitialPunctuation = true
is_counterpart _ _ = false

-- the two that came with version 18, which the pairs of version 15 don't have
abbrev pub is_new_bracket : ℕ → Bool
is_new_bracket c = c == 0x2E62 || c == 0x2E63

-- each other one that has the property Bidi_Mirrored has an image: an opening one a closing one, and the other way
-- round
abbrev pub BracketsMirror : Type 0
BracketsMirror =
    (c : ℕ) → is_new_bracket c ≡ false → is_bidi_mirrored c ≡ true → is_bracket_category (category_of c) ≡ true
    → (d : ℕ) × ((mirrored_of c ≡ Some d) × (is_counterpart (category_of c) (category_of d) ≡ true))
