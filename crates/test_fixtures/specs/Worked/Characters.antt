-- What a character says of its item and of a text, worked by hand, beside general categories and directions.
use Rattle.std.specs.Prelude.{◌≡◌, ℕ, Bool, true, false, List, [], ◌∷◌, map, refl}
use Rattle.shape_common.specs.Category.{is_mark_category, is_nonspacing_category, is_space_category}
use Rattle.shape_common.specs.Direction.{is_horizontal, is_vertical, is_forward, is_backward, reverse_of}
use Rattle.shape_items.specs.Items.{Item, new_item}
use Rattle.shape_common.specs.Unicode.{UnicodeMeaning}
use Rattle.shape_items.specs.UnicodeProps.{is_hidden_char, with_unicode_props, with_scratch_of}
use Rattle.shape_common.specs.declared.flags.ScratchFlags.{ScratchFlags}
use Rattle.shape_common.specs.declared.general_category.hb_unicode_general_category_t.{hb_unicode_general_category_t}
use Rattle.shape_common.specs.declared.general_category.hb_unicode_general_category_t.TheVariants.{UppercaseLetter, LowercaseLetter, OtherLetter}
use Rattle.shape_common.specs.declared.general_category.hb_unicode_general_category_t.TheVariants.{NonspacingMark, SpacingMark, EnclosingMark}
use Rattle.shape_common.specs.declared.general_category.hb_unicode_general_category_t.TheVariants.{DecimalNumber, OtherSymbol, SpaceSeparator}
use Rattle.shape_common.specs.declared.general_category.hb_unicode_general_category_t.TheVariants.{LineSeparator}
use Rattle.shape_common.specs.declared.text_types.Direction.TheVariants.{Invalid, LeftToRight, RightToLeft, TopToBottom, BottomToTop}
use Rattle.shape_common.specs.PlainUnicode.{plain_unicode}

-- ---- hidden characters

-- the first and the last of each range, and the characters beside them
pub record HiddenCharacters : Type 0 where
  pub mongolian : map is_hidden_char (0x180A ∷ 0x180B ∷ 0x180C ∷ 0x180D ∷ 0x180E ∷ 0x180F ∷ 0x1810 ∷ [])
      ≡ false ∷ true ∷ true ∷ true ∷ false ∷ true ∷ false ∷ []
  pub tags : map is_hidden_char (0xE001F ∷ 0xE0020 ∷ 0xE0050 ∷ 0xE007F ∷ 0xE0080 ∷ []) ≡ false ∷ true ∷ true ∷ true ∷ false ∷ []
  pub cgj : map is_hidden_char (0x34E ∷ 0x34F ∷ 0x350 ∷ []) ≡ false ∷ true ∷ false ∷ []
  -- joiners, the soft hyphen and a selector are ignorable and stay in sight
  pub others : map is_hidden_char (0x61 ∷ 0xAD ∷ 0x200C ∷ 0x200D ∷ 0xFE00 ∷ []) ≡ false ∷ false ∷ false ∷ false ∷ false ∷ []

hidden_characters : HiddenCharacters
hidden_characters = record { mongolian = refl; tags = refl; cgj = refl; others = refl }

-- ---- properties

-- every character a default ignorable of a category and ccc 230, ASCII too
abbrev all_of : hb_unicode_general_category_t → UnicodeMeaning
all_of category = record plain_unicode { category = λ c. category; ccc = λ c. 230; ignorable = λ c. true }

-- an item of a character, in which nothing is as in a new one
abbrev all_set : ℕ → Item
all_set c = record {
  codepoint = c;
  glyph_index = 5;
  glyph_id = 6;
  mask = 9;
  cluster = 3;
  properties = record {
    general_category = LowercaseLetter;
    modified_ccc = 99;
    ignorable = true;
    hidden = true;
    continuation = true;
    zwj = true;
    zwnj = true;
    space_type = 16;
    selector_mark = true;
    glyph_class = record { 0 = 8 };
    substituted = true;
    ligated = true;
    multiplied = true;
    mark_attachment_class = 2;
    ligature_id = 7;
    ligature_component = 2;
    number_of_components = 3;
    syllable = 200;
    shaper_category = 11;
    shaper_auxiliary = 12;
  };
}

-- the same item once the character was looked at, by the seven properties that may differ; the space type is cleared,
-- and the rest stays
abbrev seen : ℕ → hb_unicode_general_category_t → ℕ → Bool → Bool → Bool → Bool → Bool → Item
seen c category ccc ignorable hidden continuation zwj zwnj = record {
  codepoint = c;
  glyph_index = 5;
  glyph_id = 6;
  mask = 9;
  cluster = 3;
  properties = record {
    general_category = category;
    modified_ccc = ccc;
    ignorable = ignorable;
    hidden = hidden;
    continuation = continuation;
    zwj = zwj;
    zwnj = zwnj;
    space_type = 0;
    selector_mark = true;
    glyph_class = record { 0 = 8 };
    substituted = true;
    ligated = true;
    multiplied = true;
    mark_attachment_class = 2;
    ligature_id = 7;
    ligature_component = 2;
    number_of_components = 3;
    syllable = 200;
    shaper_category = 11;
    shaper_auxiliary = 12;
  };
}

pub record PropertiesOfCharacters : Type 0 where
  -- the last character of ASCII is no ignorable and no mark, whatever is answered of it
  pub ascii : with_unicode_props (all_of NonspacingMark) (all_set 0x7F) ≡ seen 0x7F NonspacingMark 0 false false false false false
  pub past_ascii : with_unicode_props (all_of NonspacingMark) (all_set 0x80) ≡ seen 0x80 NonspacingMark 230 true false true false false
  pub spacing : with_unicode_props (all_of SpacingMark) (all_set 0x903) ≡ seen 0x903 SpacingMark 230 true false true false false
  pub enclosing : with_unicode_props (all_of EnclosingMark) (all_set 0x20DD) ≡ seen 0x20DD EnclosingMark 230 true false true false false
  -- what is no mark has ccc 0 and continues nothing
  pub letter : with_unicode_props (all_of OtherLetter) (all_set 0x5D0) ≡ seen 0x5D0 OtherLetter 0 true false false false false
  pub plain_letter : with_unicode_props plain_unicode (all_set 0x5D0) ≡ seen 0x5D0 OtherLetter 0 false false false false false
  pub cgj : with_unicode_props (all_of NonspacingMark) (all_set 0x34F) ≡ seen 0x34F NonspacingMark 230 true true true false false
  pub joiner : with_unicode_props plain_unicode (all_set 0x200D) ≡ seen 0x200D OtherLetter 0 false false false true false
  pub non_joiner : with_unicode_props plain_unicode (all_set 0x200C) ≡ seen 0x200C OtherLetter 0 false false false false true
  pub before_them : with_unicode_props plain_unicode (all_set 0x200B) ≡ seen 0x200B OtherLetter 0 false false false false false
  pub after_them : with_unicode_props plain_unicode (all_set 0x200E) ≡ seen 0x200E OtherLetter 0 false false false false false

properties_of_characters : PropertiesOfCharacters
properties_of_characters = record {
  ascii = refl;
  past_ascii = refl;
  spacing = refl;
  enclosing = refl;
  letter = refl;
  plain_letter = refl;
  cgj = refl;
  joiner = refl;
  non_joiner = refl;
  before_them = refl;
  after_them = refl;
}

-- ---- scratch flags

abbrev flags : ℕ → ScratchFlags
flags number = record { 0 = number }

-- 1 past ASCII, 2 for a default ignorable, 8 for U+034F; what was set stays
pub record ScratchFlagsOfCharacters : Type 0 where
  pub ascii : with_scratch_of (all_of NonspacingMark) 0x7F (flags 32) ≡ flags 32
  pub ignorable : with_scratch_of (all_of OtherLetter) 0x80 (flags 32) ≡ flags 35
  pub plain : with_scratch_of plain_unicode 0x80 (flags 0) ≡ flags 1
  pub cgj : with_scratch_of (all_of NonspacingMark) 0x34F (flags 4) ≡ flags 15
  pub plain_cgj : with_scratch_of plain_unicode 0x34F (flags 0) ≡ flags 9
  pub before_cgj : with_scratch_of plain_unicode 0x34E (flags 16) ≡ flags 17
  pub after_cgj : with_scratch_of plain_unicode 0x350 (flags 16) ≡ flags 17
  pub twice : with_scratch_of (all_of NonspacingMark) 0x34F (flags 11) ≡ flags 11

scratch_flags_of_characters : ScratchFlagsOfCharacters
scratch_flags_of_characters = record {
  ascii = refl;
  ignorable = refl;
  plain = refl;
  cgj = refl;
  plain_cgj = refl;
  before_cgj = refl;
  after_cgj = refl;
  twice = refl;
}

-- ---- new items

-- the properties of an item that are numbers, and those that hold or don't
abbrev numbers_in : Item → List ℕ
numbers_in item =
    let p = item.properties in
    p.modified_ccc ∷ p.space_type ∷ p.glyph_class.0 ∷ p.ligature_id ∷ p.ligature_component ∷ p.syllable ∷ p.shaper_category
    ∷ p.shaper_auxiliary ∷ []

abbrev tests_in : Item → List Bool
tests_in item =
    let p = item.properties in
    p.ignorable ∷ p.hidden ∷ p.continuation ∷ p.zwj ∷ p.zwnj ∷ p.selector_mark ∷ p.substituted ∷ p.ligated ∷ []

-- mask 0, no glyph, no property set, and one ligature component
pub record NewItems : Type 0 where
  pub whole : record (new_item 0x61 7) { properties = (all_set 0x61).properties } ≡ record (all_set 0x61) {
    glyph_index = 0;
    glyph_id = 0;
    mask = 0;
    cluster = 7;
  }
  pub components : (new_item 0x61 7).properties.number_of_components ≡ 1
  -- the first category, until the character is looked at
  pub category : (new_item 0x301 7).properties.general_category ≡ UppercaseLetter
  pub numbers : numbers_in (new_item 0x61 7) ≡ 0 ∷ 0 ∷ 0 ∷ 0 ∷ 0 ∷ 0 ∷ 0 ∷ 0 ∷ []
  pub tests : tests_in (new_item 0x61 7) ≡ false ∷ false ∷ false ∷ false ∷ false ∷ false ∷ false ∷ false ∷ []

new_items : NewItems
new_items = record { whole = refl; components = refl; category = refl; numbers = refl; tests = refl }

-- ---- categories and directions

-- the three categories of marks and that of space separators, each with those beside it
pub record Categories : Type 0 where
  pub marks : map is_mark_category (OtherLetter ∷ NonspacingMark ∷ SpacingMark ∷ EnclosingMark ∷ DecimalNumber ∷ SpaceSeparator ∷ [])
      ≡ false ∷ true ∷ true ∷ true ∷ false ∷ false ∷ []
  pub nonspacing : map is_nonspacing_category (OtherLetter ∷ NonspacingMark ∷ SpacingMark ∷ EnclosingMark ∷ SpaceSeparator ∷ [])
      ≡ false ∷ true ∷ false ∷ false ∷ false ∷ []
  pub spaces : map is_space_category (OtherSymbol ∷ SpaceSeparator ∷ LineSeparator ∷ NonspacingMark ∷ []) ≡ false ∷ true ∷ false ∷ false ∷ []

categories : Categories
categories = record { marks = refl; nonspacing = refl; spaces = refl }

pub record Directions : Type 0 where
  pub horizontal : map is_horizontal (Invalid ∷ LeftToRight ∷ RightToLeft ∷ TopToBottom ∷ BottomToTop ∷ [])
      ≡ false ∷ true ∷ true ∷ false ∷ false ∷ []
  pub vertical : map is_vertical (Invalid ∷ LeftToRight ∷ RightToLeft ∷ TopToBottom ∷ BottomToTop ∷ [])
      ≡ false ∷ false ∷ false ∷ true ∷ true ∷ []
  pub forward : map is_forward (Invalid ∷ LeftToRight ∷ RightToLeft ∷ TopToBottom ∷ BottomToTop ∷ [])
      ≡ false ∷ true ∷ false ∷ true ∷ false ∷ []
  pub backward : map is_backward (Invalid ∷ LeftToRight ∷ RightToLeft ∷ TopToBottom ∷ BottomToTop ∷ [])
      ≡ false ∷ false ∷ true ∷ false ∷ true ∷ []
  pub reversed : map reverse_of (Invalid ∷ LeftToRight ∷ RightToLeft ∷ TopToBottom ∷ BottomToTop ∷ [])
      ≡ Invalid ∷ RightToLeft ∷ LeftToRight ∷ BottomToTop ∷ TopToBottom ∷ []

directions : Directions
directions = record { horizontal = refl; vertical = refl; forward = refl; backward = refl; reversed = refl }

pub record WorkedCharacters : Type 0 where
  pub hidden : HiddenCharacters
  pub properties : PropertiesOfCharacters
  pub scratch_flags : ScratchFlagsOfCharacters
  pub new_items : NewItems
  pub categories : Categories
  pub directions : Directions

pub worked_characters : WorkedCharacters
worked_characters = record {
  hidden = hidden_characters;
  properties = properties_of_characters;
  scratch_flags = scratch_flags_of_characters;
  new_items = new_items;
  categories = categories;
  directions = directions;
}
