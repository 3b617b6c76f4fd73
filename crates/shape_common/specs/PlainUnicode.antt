-- Unicode functions by which every character is a letter of an unknown script, which neither splits nor composes.
use Rattle.std.specs.Prelude.{false, None, refl}
use Rattle.shape_common.specs.Unicode.{UnicodeMeaning, LawfulUnicode}
use Rattle.shape_common.specs.declared.general_category.hb_unicode_general_category_t.TheVariants.{OtherLetter}

abbrev pub plain_unicode : UnicodeMeaning
plain_unicode = record {
  category = λ _. OtherLetter;
  ccc = λ _. 0;
  split = λ _. None;
  height = λ _. 0;
  compose = λ _ _. None;
  mirrored = λ _. None;
  vertical = λ _. None;
  space_fallback = λ _. 0;
  ignorable = λ _. false;
  pictographic = λ _. false;
  selector = λ _. false;
  script = λ _. record { 0 = record { 0 = 0x5A7A7A7A } };
  script_direction = λ _. None;
}

pub plain_unicode-lawful : LawfulUnicode plain_unicode
plain_unicode-lawful = record {
  only_marks_have_ccc = λ c marked. absurd (marked refl);
  ascii_is_no_mark = λ c _. refl;
  mirrors_are_plain = λ c d e. cc;
  verticals_are_plain = λ c d e. cc;
  splits_fall = record {
    height_falls = record { falls = λ c a b splits. cc };
    second_is_last = λ c a b splits. cc;
    first_ccc = λ c a b marked. absurd (marked refl);
    second_ccc = λ c a b marked. absurd (marked refl);
  };
  composes_soundly = record { equivalent = λ a b c joins. cc };
}
