-- One property is put into the words of an item: it is there, the others are as they were, and the words stay words of
-- an item.
use Rattle.std.proofs.Common.{◌≡◌, ◌≢◌, ℕ, ◌<◌, ◌^◌, List, length, get_or, set, refl, sym, ap, subst, ◌∙◌, arith, lit<, bit_and}
use Rattle.std.proofs.lemmas.List.{get_or-set_other}
use Rattle.std.proofs.lemmas.Nat.{and_le_r}
use Rattle.bit_fields.specs.Fields.{fields, place_of, width_of, bits_of, with_field}
use Rattle.bit_fields.proofs.FieldLemmas.{fields-with_field, with_field-below, place-within}
use Rattle.shape_common.specs.CategoryNumber.{category_number, category_of}
pub use Rattle.shape_common.proofs.CategoryLemmas.{category_of-number, category_number-below}
use Rattle.shape_items.specs.Words.{first_widths, lower_widths, upper_widths, properties_from, properties_of, AreFirstFields, AreWords}
use Rattle.shape_common.specs.declared.general_category.hb_unicode_general_category_t.{hb_unicode_general_category_t}

-- ---- what is read then

pub first_put : (k value first lower upper : ℕ) → k < 10 → value < 2 ^ width_of first_widths k
    → properties_of (with_field (place_of first_widths k) (width_of first_widths k) value first) lower upper
    ≡ properties_from (set (fields first_widths first) k value) (fields lower_widths lower) (fields upper_widths upper)
unfolding properties_of
first_put k value first lower upper lt fits =
    ap (λ l. properties_from l (fields lower_widths lower) (fields upper_widths upper)) (fields-with_field first_widths k value first lt fits)

pub lower_put : (k value first lower upper : ℕ) → k < 8 → value < 2 ^ width_of lower_widths k
    → properties_of first (with_field (place_of lower_widths k) (width_of lower_widths k) value lower) upper
    ≡ properties_from (fields first_widths first) (set (fields lower_widths lower) k value) (fields upper_widths upper)
unfolding properties_of
lower_put k value first lower upper lt fits =
    ap (λ l. properties_from (fields first_widths first) l (fields upper_widths upper)) (fields-with_field lower_widths k value lower lt fits)

pub upper_put : (k value first lower upper : ℕ) → k < 4 → value < 2 ^ width_of upper_widths k
    → properties_of first lower (with_field (place_of upper_widths k) (width_of upper_widths k) value upper)
    ≡ properties_from (fields first_widths first) (fields lower_widths lower) (set (fields upper_widths upper) k value)
unfolding properties_of
upper_put k value first lower upper lt fits =
    ap (properties_from (fields first_widths first) (fields lower_widths lower)) (fields-with_field upper_widths k value upper lt fits)

-- ---- that the words stay words of an item

-- a word of 32 bits keeps them
put-below : (widths : List ℕ) (k value word : ℕ) → k < length widths → bits_of widths ≡ 32 → value < 2 ^ width_of widths k → word < 2 ^ 32
    → with_field (place_of widths k) (width_of widths k) value word < 2 ^ 32
put-below widths k value word lt bits fits small =
    with_field-below 32 (place_of widths k) (width_of widths k) value word (let inside = place-within widths k lt in omega arith) fits small

first_replaced : (k value first lower upper : ℕ) → k < 10 → value < 2 ^ width_of first_widths k → AreWords first lower upper
    → AreFirstFields (set (fields first_widths first) k value)
    → AreWords (with_field (place_of first_widths k) (width_of first_widths k) value first) lower upper
first_replaced k value first lower upper lt fits words are = record {
  first_fits = put-below first_widths k value first lt refl fits words.first_fits;
  lower_fits = words.lower_fits;
  upper_fits = words.upper_fits;
  first_fields = subst AreFirstFields (sym (fields-with_field first_widths k value first lt fits)) are;
  lower_unused = words.lower_unused;
}

pub first_kept : (k value first lower upper : ℕ) → 0 < k → k < 9 → value < 2 ^ width_of first_widths k → AreWords first lower upper
    → AreWords (with_field (place_of first_widths k) (width_of first_widths k) value first) lower upper
first_kept k value first lower upper later earlier fits words =
    let values = fields first_widths first in
    let category_stays : get_or (set (fields first_widths first) k value) 0 0 ≡ get_or (fields first_widths first) 0 0 =
    get_or-set_other values k 0 value 0 (λ e. omega arith) in
    let unused_stays : get_or (set (fields first_widths first) k value) 9 0 ≡ get_or (fields first_widths first) 9 0 =
    get_or-set_other values k 9 value 0 (λ e. omega arith) in
    first_replaced k value first lower upper (omega arith) fits words (record {
      category = ap (λ n. category_number (category_of n)) category_stays ∙ words.first_fields.category ∙ sym category_stays;
      unused = unused_stays ∙ words.first_fields.unused;
    })

pub lower_kept : (k value first lower upper : ℕ) → k < 8 → 4 ≢ k → value < 2 ^ width_of lower_widths k → AreWords first lower upper
    → AreWords first (with_field (place_of lower_widths k) (width_of lower_widths k) value lower) upper
lower_kept k value first lower upper lt used fits words = record {
  first_fits = words.first_fits;
  lower_fits = put-below lower_widths k value lower lt refl fits words.lower_fits;
  upper_fits = words.upper_fits;
  first_fields = words.first_fields;
  lower_unused =
      ap (λ (l : List ℕ). get_or l 4 0) (fields-with_field lower_widths k value lower lt fits)
      ∙ get_or-set_other (fields lower_widths lower) k 4 value 0 used ∙ words.lower_unused;
}

pub upper_kept : (k value first lower upper : ℕ) → k < 4 → value < 2 ^ width_of upper_widths k → AreWords first lower upper
    → AreWords first lower (with_field (place_of upper_widths k) (width_of upper_widths k) value upper)
upper_kept k value first lower upper lt fits words = record {
  first_fits = words.first_fits;
  lower_fits = words.lower_fits;
  upper_fits = put-below upper_widths k value upper lt refl fits words.upper_fits;
  first_fields = words.first_fields;
  lower_unused = words.lower_unused;
}

-- ---- the category and the glyph class

pub category_kept : (category : hb_unicode_general_category_t) (first lower upper : ℕ) → AreWords first lower upper
    → AreWords (with_field 0 8 (category_number category) first) lower upper
category_kept category first lower upper words =
    first_replaced 0 (category_number category) first lower upper (lit< tt) (category_number-below category) words (record {
      category = ap category_number (category_of-number category);
      unused = words.first_fields.unused;
    })

pub class-below : (class : ℕ) → bit_and class 14 < 2 ^ 4
class-below class = let le = and_le_r class 14 in omega arith
