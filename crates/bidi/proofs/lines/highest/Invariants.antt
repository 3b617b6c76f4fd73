use Rattle.std.proofs.Common.{◌≡◌, max, drop}
use Rattle.bidi.specs.Lines.{highest}
use Rattle.bidi.proofs.lines.highest.Given as goal

abbrev pub invariant-loop-i : goal.invariant-loop-i
invariant-loop-i l = max l.highest (highest (drop l.i l.levels)) ≡ highest l.levels
