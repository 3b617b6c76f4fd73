-- The laws of the Unicode functions, proved of all characters from what is computed over the short tables.
use Rattle.shape_common.specs.Unicode.{LawfulUnicode}
use Rattle.canonical_form.specs.SplitsFall.{SplitsFall}
use Rattle.shape_unicode.specs.Canonical.{by_shaping}
use Rattle.shape_unicode.specs.Meaning.{unicode_database}
use Rattle.shape_unicode.specs.TableFacts.{CccPass, MirrorsPass, VerticalsPass, ascii_ok}
use Rattle.shape_unicode.specs.SplitLaws.{not_true, split_of-falls, second_is_whole}
use Rattle.shape_unicode.specs.CccLaws.{only_marks_have_ccc, ccc_of_parts}
use Rattle.shape_unicode.specs.ComposeLaws.{composes_soundly}
use Rattle.shape_unicode.specs.FormLaws.{mirrors_are_plain, verticals_are_plain}

pub splits_fall : CccPass → SplitsFall by_shaping
splits_fall pass = record {
  height_falls = record { falls = split_of-falls };
  second_is_last = second_is_whole;
  first_ccc = λ c a b nonzero splits. (ccc_of_parts pass c a b nonzero splits).0;
  second_ccc = λ c a b nonzero splits. (ccc_of_parts pass c a b nonzero splits).1;
}

pub unicode_database-lawful : CccPass → MirrorsPass → VerticalsPass → LawfulUnicode unicode_database
unicode_database-lawful cccs mirrors verticals = record {
  only_marks_have_ccc = only_marks_have_ccc cccs;
  ascii_is_no_mark = λ c ascii. not_true _ (ascii_ok c ascii);
  mirrors_are_plain = mirrors_are_plain mirrors;
  verticals_are_plain = verticals_are_plain verticals;
  splits_fall = splits_fall cccs;
  composes_soundly = composes_soundly;
}
