use Rattle.std.proofs.Common.{◌≡◌, [], ◌++◌, take, drop, reverse}
use Rattle.line_breaks.specs.Around.{before_of}
use Rattle.line_breaks.specs.Breaks.{verdicts_of}
use Rattle.line_breaks.proofs.breaking.verdicts.Given as goal

abbrev pub invariant-loop-place : goal.invariant-loop-place
invariant-loop-place l = record {
  before_is : l.before ≡ before_of (reverse (take l.place l.units));
  verdicts_are : l.verdicts.items ++ verdicts_of (reverse (take l.place l.units)) (drop l.place l.units) ≡ verdicts_of [] l.units;
}
