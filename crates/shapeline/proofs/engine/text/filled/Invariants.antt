use Rattle.std.proofs.Common.{◌≡◌, ◌<◌, ◌+◌, ◌^◌, ◌++◌, []}
use Rattle.std.specs.List.{AllByRecursion}
use Rattle.shape_items.specs.Buffer.{new_buffer}
use Rattle.shape_buffer.specs.Text.{items_from}
use Rattle.shape_sessions.specs.Text.{IsCharacterWord, characters, utf8_len}
use Rattle.shape_sessions.specs.Words.{words}
use Rattle.shapeline.proofs.engine.text.filled.Given as goal

abbrev pub invariant-loop-word : goal.invariant-loop-word
invariant-loop-word l = record {
  all_left : AllByRecursion IsCharacterWord (words l.word-iterator.rest.now);
  counted : l.offset + utf8_len (words l.word-iterator.rest.now) < 2 ^ 32;
  rest_is_new : record l.buffer { items = []; positions = [] } ≡ new_buffer;
  put : l.buffer.items ++ items_from l.offset (characters (words l.word-iterator.rest.now))
      ≡ items_from 0 (characters (words l.fn.words.rest.now));
}
