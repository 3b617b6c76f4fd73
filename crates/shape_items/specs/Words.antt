-- The named properties of an item in two words, of 32 and of 64 bits. The second one is kept in two halves; no field
-- lies in both.
use Rattle.std.specs.Prelude.{◌≡◌, ℕ, ◌<◌, ◌^◌, List, [], ◌∷◌, ◌++◌, get_or}
use Rattle.bit_fields.specs.Fields.{fields, word_of, number_of, is_set}
use Rattle.shape_common.specs.CategoryNumber.{category_number, category_of}
use Rattle.shape_items.specs.Properties.{Properties}

-- the fields of the first word, the lowest first; its last two bits have no use
abbrev pub first_widths : List ℕ
first_widths = 8 ∷ 8 ∷ 8 ∷ 1 ∷ 1 ∷ 1 ∷ 1 ∷ 1 ∷ 1 ∷ 2 ∷ []

-- those of the second word's halves; the bit between those for multiplied and the mark attachment class has no use, so
-- that the first sixteen bits are the glyph properties of OpenType layout
abbrev pub lower_widths : List ℕ
lower_widths = 4 ∷ 1 ∷ 1 ∷ 1 ∷ 1 ∷ 8 ∷ 8 ∷ 8 ∷ []

abbrev pub upper_widths : List ℕ
upper_widths = 8 ∷ 8 ∷ 8 ∷ 8 ∷ []

abbrev pub second_widths : List ℕ
second_widths = lower_widths ++ upper_widths

-- what stands in each field
abbrev pub first_values : Properties → List ℕ
first_values p =
    category_number p.general_category ∷ p.modified_ccc ∷ p.space_type
    ∷ number_of p.ignorable ∷ number_of p.hidden ∷ number_of p.continuation
    ∷ number_of p.zwj ∷ number_of p.zwnj ∷ number_of p.selector_mark ∷ 0 ∷ []

abbrev pub lower_values : Properties → List ℕ
lower_values p =
    p.glyph_class.0 ∷ number_of p.substituted ∷ number_of p.ligated ∷ number_of p.multiplied ∷ 0 ∷ p.mark_attachment_class
    ∷ p.ligature_id ∷ p.ligature_component ∷ []

abbrev pub upper_values : Properties → List ℕ
upper_values p = p.number_of_components ∷ p.syllable ∷ p.shaper_category ∷ p.shaper_auxiliary ∷ []

abbrev pub second_values : Properties → List ℕ
second_values p = lower_values p ++ upper_values p

-- the properties by the values of all fields
abbrev pub properties_from : List ℕ → List ℕ → List ℕ → Properties
properties_from first lower upper = record {
  general_category = category_of (get_or first 0 0);
  modified_ccc = get_or first 1 0;
  ignorable = is_set (get_or first 3 0);
  hidden = is_set (get_or first 4 0);
  continuation = is_set (get_or first 5 0);
  zwj = is_set (get_or first 6 0);
  zwnj = is_set (get_or first 7 0);
  space_type = get_or first 2 0;
  selector_mark = is_set (get_or first 8 0);
  glyph_class = record { 0 = get_or lower 0 0 };
  substituted = is_set (get_or lower 1 0);
  ligated = is_set (get_or lower 2 0);
  multiplied = is_set (get_or lower 3 0);
  mark_attachment_class = get_or lower 5 0;
  ligature_id = get_or lower 6 0;
  ligature_component = get_or lower 7 0;
  number_of_components = get_or upper 0 0;
  syllable = get_or upper 1 0;
  shaper_category = get_or upper 2 0;
  shaper_auxiliary = get_or upper 3 0;
}

unfoldable pub properties_of : ℕ → ℕ → ℕ → Properties
properties_of first lower upper = properties_from (fields first_widths first) (fields lower_widths lower) (fields upper_widths upper)

-- the first field has the number of a category, and bits without use are 0
pub record AreFirstFields (values : List ℕ) : Type 0 where
  pub category : category_number (category_of (get_or values 0 0)) ≡ get_or values 0 0
  pub unused : get_or values 9 0 ≡ 0

-- three numbers that are the words of an item
pub record AreWords (first lower upper : ℕ) : Type 0 where
  pub first_fits : first < 2 ^ 32
  pub lower_fits : lower < 2 ^ 32
  pub upper_fits : upper < 2 ^ 32
  pub first_fields : AreFirstFields (fields first_widths first)
  pub lower_unused : get_or (fields lower_widths lower) 4 0 ≡ 0

unfoldable pub first_word : Properties → ℕ
first_word p = word_of first_widths (first_values p)

unfoldable pub lower_word : Properties → ℕ
lower_word p = word_of lower_widths (lower_values p)

unfoldable pub upper_word : Properties → ℕ
upper_word p = word_of upper_widths (upper_values p)
