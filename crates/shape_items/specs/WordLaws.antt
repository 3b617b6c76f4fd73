-- What is read from the words of an item makes them again.
use Rattle.std.proofs.Common.{◌≡◌, ℕ, refl, sym, ap, ◌∙◌}
use Rattle.bit_fields.specs.Fields.{fields, word_of}
use Rattle.bit_fields.proofs.FieldLemmas.{word_of-fields, number_of-is_set}
use Rattle.shape_items.specs.Words.{first_widths, lower_widths, upper_widths, first_values, lower_values, upper_values, properties_of, AreWords}
use Rattle.shape_items.specs.Words.{first_word, lower_word, upper_word}
use Rattle.shape_items.specs.declared.properties.ItemProperties.TheInside.{Inside}

pub first_values-read : (first lower upper : ℕ) → AreWords first lower upper → first_values (properties_of first lower upper) ≡ fields first_widths first
unfolding properties_of
first_values-read first lower upper words = simp (number_of-is_set, words.first_fields.category, words.first_fields.unused)

pub lower_values-read : (first lower upper : ℕ) → AreWords first lower upper → lower_values (properties_of first lower upper) ≡ fields lower_widths lower
unfolding properties_of
lower_values-read first lower upper words = simp (number_of-is_set, words.lower_unused)

pub upper_values-read : (first lower upper : ℕ) → upper_values (properties_of first lower upper) ≡ fields upper_widths upper
unfolding properties_of
upper_values-read first lower upper = refl

pub made_again : (words : Inside) → AreWords words.first words.lower words.upper
    → record {
      first = first_word (properties_of words.first words.lower words.upper);
      lower = lower_word (properties_of words.first words.lower words.upper);
      upper = upper_word (properties_of words.first words.lower words.upper);
    } ≡ words
unfolding first_word lower_word upper_word
made_again words are =
    let first = words.first in
    let lower = words.lower in
    let upper = words.upper in
    let first_is : word_of first_widths (first_values (properties_of words.first words.lower words.upper)) ≡ words.first =
    ap (word_of first_widths) (first_values-read first lower upper are) ∙ word_of-fields first_widths first are.first_fits in
    let lower_is : word_of lower_widths (lower_values (properties_of words.first words.lower words.upper)) ≡ words.lower =
    ap (word_of lower_widths) (lower_values-read first lower upper are) ∙ word_of-fields lower_widths lower are.lower_fits in
    let upper_is : word_of upper_widths (upper_values (properties_of words.first words.lower words.upper)) ≡ words.upper =
    ap (word_of upper_widths) (upper_values-read first lower upper) ∙ word_of-fields upper_widths upper are.upper_fits in
    rw (first_is, lower_is, upper_is) refl
