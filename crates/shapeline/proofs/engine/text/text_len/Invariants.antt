use Rattle.std.proofs.Common.{◌≡◌, ◌+◌, ◌<◌, ◌^◌}
use Rattle.std.specs.List.{AllByRecursion}
use Rattle.shape_sessions.specs.Text.{IsCharacterWord, utf8_len}
use Rattle.shape_sessions.specs.Words.{words}
use Rattle.shapeline.proofs.engine.text.text_len.Given as goal

abbrev pub invariant-loop-word : goal.invariant-loop-word
invariant-loop-word l = record {
  all_left : AllByRecursion IsCharacterWord (words l.fn.words.rest.now) → AllByRecursion IsCharacterWord (words l.word-iterator.rest.now);
  all_so_far : AllByRecursion IsCharacterWord (words l.word-iterator.rest.now) → AllByRecursion IsCharacterWord (words l.fn.words.rest.now);
  counted : l.len + utf8_len (words l.word-iterator.rest.now) ≡ utf8_len (words l.fn.words.rest.now);
  small : l.len < 2 ^ 32;
}
