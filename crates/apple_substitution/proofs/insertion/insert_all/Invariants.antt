use Rattle.std.proofs.Common.{◌≡◌, ◌-◌}
use Rattle.apple_substitution.specs.Insertion.{inserted}
use Rattle.apple_substitution.proofs.insertion.insert_all.Given as goal

abbrev pub invariant-loop-i : goal.invariant-loop-i
invariant-loop-i l = record {
  made : inserted l.morx l.from l.model l.at (l.count - l.i) l.buffer
      ≡ inserted l.morx l.from l.model l.at l.count l.fn.buffer;
}
