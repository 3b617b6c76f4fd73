use Rattle.std.proofs.Common.{◌≡◌, refl, arith}
use Rattle.ucd_bidi.specs.BidiClass.{bidi_class}
use Rattle.ucd_bidi.specs.BidiClassRows.{bidi_class_rows}
use Rattle.ucd_table.specs.Rows.{value_in}
use Rattle.text_lines.proofs.WorkedLemmas.{levelled, no_deeper, no_higher, not_by_itself, of_both}
use Rattle.text_lines.proofs.worked.lines_meet_worked_cases.Goals as goal

pub returns-clause-reach : goal.returns-clause-reach
returns-clause-reach c = record {
  twice = refl;
  a_third = refl;
  no_square = refl;
  doubled = refl;
  nearest_below = refl;
  nearest_above = refl;
  half = refl;
  minus_half = refl;
  first = refl;
  asked = refl;
  no_first = refl;
  in_size = refl;
  above = refl;
  below = refl;
  second_alone = refl;
  no_such_font = refl;
  twice_as_large = refl;
  as_it_is = refl;
  of_second = refl;
  of_none = refl;
  of_both = of_both;
  no_higher = no_higher;
  no_deeper = no_deeper;
}

pub returns-clause-levels : goal.returns-clause-levels
unfolding bidi_class bidi_class_rows value_in
returns-clause-levels c = record {
  bytes = refl;
  no_bytes = refl;
  paragraphs = refl;
  inside = refl;
  at_the_end = refl;
  next_line = refl;
  first = refl;
  second = refl;
  past = refl;
  base = refl;
  base_past = refl;
  no_text = refl;
  both_letters = refl;
  both_classes = refl;
  both_bases = refl;
  right_to_left = refl;
  right_bases = refl;
  of_its_first = refl;
  of_no_other = λ e. let same : 1 ≡ 0 = e in omega (arith, same);
  levelled = levelled;
  not_by_itself = not_by_itself;
}
