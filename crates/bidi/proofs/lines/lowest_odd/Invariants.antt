use Rattle.std.proofs.Common.{◌≡◌, ◌≤◌, min, drop}
use Rattle.bidi.specs.Lines.{lowest_odd}
use Rattle.bidi.proofs.lines.lowest_odd.Given as goal

abbrev pub invariant-loop-i : goal.invariant-loop-i
invariant-loop-i l = record {
  same : min l.lowest (lowest_odd (drop l.i l.levels)) ≡ lowest_odd l.levels;
  within : l.lowest ≤ 255;
}
