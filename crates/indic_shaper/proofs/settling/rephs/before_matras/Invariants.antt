use Rattle.std.proofs.Common.{◌≡◌, ◌≤◌}
use Rattle.indic_shaper.specs.Settling.Rephs.{before_matras}
use Rattle.indic_shaper.proofs.settling.rephs.before_matras.Given as goal

abbrev pub invariant-loop-k : goal.invariant-loop-k
invariant-loop-k l = record {
  made : l.place ≡ before_matras l.infos l.base l.to l.k;
  most : l.place ≤ l.to;
  least : l.base ≤ l.place;
}
