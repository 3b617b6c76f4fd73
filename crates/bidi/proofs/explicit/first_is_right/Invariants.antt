use Rattle.std.proofs.Common.{◌≡◌, ◌+◌, ◌≤◌, drop}
use Rattle.bidi.specs.Explicit.{first_is_right}
use Rattle.bidi.proofs.explicit.first_is_right.Given as goal

abbrev pub invariant-loop-i : goal.invariant-loop-i
invariant-loop-i l = record {
  same : first_is_right l.fn.whole l.depth (drop l.i l.classes) ≡ first_is_right l.fn.whole 0 (drop l.fn.start l.classes);
  within : l.depth + l.fn.start ≤ l.i;
}
