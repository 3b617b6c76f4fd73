use Rattle.std.proofs.Common.{◌≡◌, drop}
use Rattle.syllabic.specs.Constraints as constraints
use Rattle.syllabic.proofs.constraints.some_barred.Given as goal

-- whether one of those that are left is barred, is whether one of all is
abbrev pub invariant-loop-i : goal.invariant-loop-i
invariant-loop-i l = record {
  left : constraints.some_barred l.pairs l.devanagari l.before (drop l.i l.infos)
      ≡ constraints.some_barred l.pairs l.devanagari constraints.no_before l.infos;
}
