use Rattle.std.proofs.Common.{sym, ◌∙◌}
use Rattle.text_items.proofs.AsciiLemmas.{ascii_neither}
use Rattle.text_items.proofs.pairs.side_of.Goals as goal

pub returns-then-not-is_ascii_pair : goal.returns-then-not-is_ascii_pair
returns-then-not-is_ascii_pair c = sym (ascii_neither c.args.c c.if-c-lt128.true (sym c.is_ascii_pair.ensures ∙ c.if-not-is_ascii_pair.true))
