use Rattle.std.proofs.Common.{◌≡◌, ◌++◌, take, drop, true}
use Rattle.bidi.specs.Weak.{w5, leads_to_number}
use Rattle.bidi.proofs.weak.w5.Given as goal

abbrev pub invariant-loop-i : goal.invariant-loop-i
invariant-loop-i l = record {
  done : take l.i l.classes ++ w5 l.before (drop l.i l.classes) ≡ w5 l.fn.sos l.initial.classes;
  known : l.inside ≡ true → l.leads ≡ leads_to_number (drop l.i l.classes);
}
