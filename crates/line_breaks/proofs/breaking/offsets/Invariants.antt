use Rattle.std.proofs.Common.{◌≡◌, ◌++◌, drop}
use Rattle.line_breaks.specs.Breaks.{offsets_of}
use Rattle.line_breaks.proofs.breaking.offsets.Given as goal

abbrev pub invariant-loop-place : goal.invariant-loop-place
invariant-loop-place l =
    l.offsets.items ++ offsets_of l.wanted (drop l.place l.units) (drop l.place l.verdicts) ≡ offsets_of l.wanted l.units l.verdicts
