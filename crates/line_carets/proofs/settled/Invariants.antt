use Rattle.std.proofs.Common.{◌≡◌, drop, reverse}
use Rattle.line_carets.specs.LineCarets.{settled}
use Rattle.line_carets.proofs.settled.Given as goal

abbrev pub invariant-loop-place : goal.invariant-loop-place
invariant-loop-place l = reverse l.kept.items ≡ settled (drop l.place l.carets)
