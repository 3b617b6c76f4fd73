use Rattle.std.proofs.Common.{◌≡◌, ◌+◌, length, take}
use Rattle.std.specs.Str.{chars, IsUtf8}
use Rattle.std.specs.Str.Iter.{chars_rest}
use Rattle.utf16_text.specs.Utf16.{utf16_items_from, utf16_items}
use Rattle.utf16_text.proofs.UnitLemmas.{units_in, with_more}
use Rattle.utf16_text.proofs.push_utf16.Given as goal

-- what is left of the text begins at unit `cluster`
abbrev pub invariant-loop-c : goal.invariant-loop-c
invariant-loop-c l =
    let rest = chars_rest l.c-iterator in
    record {
      utf8 : IsUtf8 rest;
      units : l.cluster + units_in (chars rest) ≡ length l.fn.text;
      items : with_more l.buffer (utf16_items_from l.cluster (chars rest)) ≡ with_more l.fn.buffer (utf16_items l.fn.text);
      settings : l.buffer ≡ record l.fn.buffer { items = l.buffer.items; positions = l.buffer.positions };
      before : take (length l.fn.buffer.items) l.buffer.items ≡ l.fn.buffer.items;
    }
