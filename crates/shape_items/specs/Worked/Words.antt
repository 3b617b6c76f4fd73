-- The words of an item, on cases that are worked out by hand.
use Rattle.std.specs.Prelude.{◌≡◌, ℕ, true, false, [], ◌∷◌, refl}
use Rattle.bit_fields.specs.Fields.{word_of}
use Rattle.shape_common.specs.CategoryNumber.{category_number, category_of}
use Rattle.shape_common.specs.FlagNames.{MARK}
use Rattle.shape_items.specs.Items.{new_properties}
use Rattle.shape_items.specs.Properties.{Properties}
use Rattle.shape_items.specs.Words.{first_widths, second_widths, first_values, second_values}
use Rattle.shape_common.specs.declared.general_category.hb_unicode_general_category_t.TheVariants.{UppercaseLetter, NonspacingMark, SpaceSeparator, Unassigned}

abbrev pub fresh : Properties
fresh = new_properties

abbrev pub first_of : Properties → ℕ
first_of p = word_of first_widths (first_values p)

abbrev pub second_of : Properties → ℕ
second_of p = word_of second_widths (second_values p)

-- one property alone, and the lowest bit of its field
pub record FirstWordWorked : Type 0 where
  pub of_a_new_item : first_of fresh ≡ 0
  pub last_category : first_of (record fresh { general_category = Unassigned }) ≡ 29
  pub modified_ccc : first_of (record fresh { modified_ccc = 1 }) ≡ 256
  pub greatest_ccc : first_of (record fresh { modified_ccc = 255 }) ≡ 65280
  pub space_type : first_of (record fresh { space_type = 1 }) ≡ 65536
  pub ignorable : first_of (record fresh { ignorable = true }) ≡ 16777216
  pub hidden : first_of (record fresh { hidden = true }) ≡ 33554432
  pub continuation : first_of (record fresh { continuation = true }) ≡ 67108864
  pub zwj : first_of (record fresh { zwj = true }) ≡ 134217728
  pub zwnj : first_of (record fresh { zwnj = true }) ≡ 268435456
  pub selector_mark : first_of (record fresh { selector_mark = true }) ≡ 536870912
  -- a mark of ccc 230: 5, 230 times 256, and the bit of continuations
  pub accent : first_of (record fresh { general_category = NonspacingMark; modified_ccc = 230; continuation = true }) ≡ 67167749

first_word_worked : FirstWordWorked
first_word_worked = record {
  of_a_new_item = refl;
  last_category = refl;
  modified_ccc = refl;
  greatest_ccc = refl;
  space_type = refl;
  ignorable = refl;
  hidden = refl;
  continuation = refl;
  zwj = refl;
  zwnj = refl;
  selector_mark = refl;
  accent = refl;
}

pub record SecondWordWorked : Type 0 where
  pub of_a_new_item : second_of fresh ≡ 4294967296
  pub mark_in_syllable : second_of (record fresh { glyph_class = record { 0 = MARK }; syllable = 5 }) ≡ 5501853106184
  pub substituted : second_of (record fresh { substituted = true }) ≡ 4294967312
  pub ligated : second_of (record fresh { ligated = true }) ≡ 4294967328
  pub multiplied : second_of (record fresh { multiplied = true }) ≡ 4294967360
  pub mark_attachment_class : second_of (record fresh { mark_attachment_class = 1 }) ≡ 4294967552
  pub greatest_attachment_class : second_of (record fresh { mark_attachment_class = 255 }) ≡ 4295032576
  -- a mark of class 3 that lookups made by all three ways: 8, 16, 32, 64, and 3 times 256
  pub glyph_properties : second_of (record fresh {
    glyph_class = record { 0 = MARK };
    substituted = true;
    ligated = true;
    multiplied = true;
    mark_attachment_class = 3;
  }) ≡ 4294968184
  pub ligature_id : second_of (record fresh { ligature_id = 1 }) ≡ 4295032832
  pub ligature_component : second_of (record fresh { ligature_component = 1 }) ≡ 4311744512
  pub number_of_components : second_of (record fresh { number_of_components = 0 }) ≡ 0
  pub syllable : second_of (record fresh { syllable = 1 }) ≡ 1103806595072
  pub shaper_category : second_of (record fresh { shaper_category = 1 }) ≡ 281479271677952
  pub shaper_auxiliary : second_of (record fresh { shaper_auxiliary = 1 }) ≡ 72057598332895232

second_word_worked : SecondWordWorked
second_word_worked = record {
  of_a_new_item = refl;
  mark_in_syllable = refl;
  substituted = refl;
  ligated = refl;
  multiplied = refl;
  mark_attachment_class = refl;
  greatest_attachment_class = refl;
  glyph_properties = refl;
  ligature_id = refl;
  ligature_component = refl;
  number_of_components = refl;
  syllable = refl;
  shaper_category = refl;
  shaper_auxiliary = refl;
}

pub record WordsWorked : Type 0 where
  pub first_word : FirstWordWorked
  pub second_word : SecondWordWorked
  pub first_category : category_number UppercaseLetter ≡ 0
  pub category_of_a_space : category_of 22 ≡ SpaceSeparator
  pub last_category : category_of 29 ≡ Unassigned

pub words_worked : WordsWorked
words_worked = record {
  first_word = first_word_worked;
  second_word = second_word_worked;
  first_category = refl;
  category_of_a_space = refl;
  last_category = refl;
}
