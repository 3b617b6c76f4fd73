use Rattle.std.proofs.Common.{◌≡◌, ◌-◌}
use Rattle.apple_substitution.specs.Languages.{MOST_LETTERS, is_in, is_in_from}
use Rattle.apple_substitution.proofs.languages.is_in.Given as goal

abbrev pub invariant-loop-at : goal.invariant-loop-at
invariant-loop-at l = is_in_from l.language l.text (MOST_LETTERS - l.at) l.at ≡ is_in l.language l.text
