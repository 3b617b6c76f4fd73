use Rattle.std.proofs.Common.{◌≡◌, length}
use Rattle.indic_shaper.specs.Attaching.{carried}
use Rattle.indic_shaper.proofs.initial.attaching.carry.Given as goal

abbrev pub invariant-loop-k : goal.invariant-loop-k
invariant-loop-k l = record {
  made : l.items ≡ carried l.i l.k l.fn.items;
  len : length l.items ≡ length l.fn.items;
}
