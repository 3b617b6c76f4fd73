use Rattle.std.proofs.Common.{◌≡◌, ◌∷◌}
use Rattle.word_cache.proofs.spelling.spelling_key.Given as goal

abbrev pub invariant-loop-c : goal.invariant-loop-c
invariant-loop-c l = l.key.items ≡ l.number ∷ l.yielded
