use Rattle.std.proofs.Common.{◌≡◌, ◌-◌, ◌≤◌, ◌++◌, length, drop}
use Rattle.bidi.specs.Text.{levels_of, paragraphs_of, parts_of, text_levels, text_paragraphs}
use Rattle.bidi.proofs.text.resolve_text.Given as goal

abbrev pub invariant-loop-start : goal.invariant-loop-start
invariant-loop-start l = record {
  within : l.start ≤ length l.text;
  levels : l.levels.items ++ levels_of l.fn.base (parts_of (drop l.start l.text)) ≡ text_levels l.fn.base l.text;
  paragraphs : l.paragraphs.items ++ paragraphs_of l.fn.base l.start (parts_of (drop l.start l.text)) ≡ text_paragraphs l.fn.base l.text;
}

abbrev pub decreases-loop-start : goal.decreases-loop-start
decreases-loop-start l = length l.text - l.start
