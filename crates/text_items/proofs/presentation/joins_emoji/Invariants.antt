use Rattle.std.proofs.Common.{◌≡◌, false, drop}
use Rattle.text_items.specs.Presentations.{joins_emoji}
use Rattle.text_items.proofs.presentation.joins_emoji.Given as goal

abbrev pub invariant-loop-c : goal.invariant-loop-c
invariant-loop-c l = joins_emoji l.joined (drop l.c-index l.letters) ≡ joins_emoji false l.letters
