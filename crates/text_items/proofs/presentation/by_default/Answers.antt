use Rattle.std.proofs.Common.{sym}
use Rattle.std.proofs.lemmas.Bool.{cond-false}
use Rattle.ucd_emoji.specs.Binary.{is_emoji_presentation}
use Rattle.text_items.specs.declared.presentation.Presentation.TheVariants.{Emoji, Text}
use Rattle.text_items.proofs.AsciiLemmas.{no_emoji}
use Rattle.text_items.proofs.presentation.by_default.Goals as goal

pub returns-then-c-lt-FIRST : goal.returns-then-c-lt-FIRST
returns-then-c-lt-FIRST c =
    sym (cond-false (is_emoji_presentation c.args.c) Emoji Text (no_emoji c.args.c c.if-c-lt-FIRST.true))
