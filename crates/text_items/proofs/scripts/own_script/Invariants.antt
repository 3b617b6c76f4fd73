use Rattle.std.proofs.Common.{◌≡◌, drop}
use Rattle.text_items.specs.Scripts.{own_script}
use Rattle.text_items.proofs.scripts.own_script.Given as goal

abbrev pub invariant-loop-c : goal.invariant-loop-c
invariant-loop-c l = own_script (drop l.c-index l.letters) ≡ own_script l.letters
