use Rattle.std.proofs.Common.{◌≡◌, ◌∷◌, ◌++◌, drop}
use Rattle.word_cache.proofs.key.numbered.Given as goal

abbrev pub invariant-loop-c : goal.invariant-loop-c
invariant-loop-c l = l.key.items ++ drop l.c-index l.characters ≡ l.number ∷ l.characters
