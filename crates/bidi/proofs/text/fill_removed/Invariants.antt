use Rattle.std.proofs.Common.{◌≡◌, ◌++◌, take, drop, length}
use Rattle.bidi.specs.Text.{filled}
use Rattle.bidi.proofs.text.fill_removed.Given as goal

abbrev pub invariant-loop-i : goal.invariant-loop-i
invariant-loop-i l = record {
  done : take l.i l.levels ++ filled l.before (drop l.i l.classes) (drop l.i l.levels) ≡ filled l.fn.base l.classes l.fn.levels;
  length : length l.levels ≡ length l.classes;
}
