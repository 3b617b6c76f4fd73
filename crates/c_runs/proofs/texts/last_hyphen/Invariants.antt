use Rattle.std.proofs.Common.{◌≡◌, ◌≤◌}
use Rattle.c_runs.specs.Languages as Languages
use Rattle.c_runs.proofs.texts.last_hyphen.Given as goal

abbrev pub invariant-loop-place : goal.invariant-loop-place
invariant-loop-place l = record {
  last : l.last ≡ Languages.last_hyphen l.place l.name;
  within : l.last ≤ l.place;
}
