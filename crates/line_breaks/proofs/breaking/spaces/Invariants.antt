use Rattle.std.proofs.Common.{◌≡◌, ◌++◌, drop}
use Rattle.line_breaks.specs.Breaks.{spaces_of}
use Rattle.line_breaks.proofs.breaking.spaces.Given as goal

abbrev pub invariant-loop-place : goal.invariant-loop-place
invariant-loop-place l = l.spaces.items ++ spaces_of (drop l.place l.units) ≡ spaces_of l.units
