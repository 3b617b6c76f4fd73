use Rattle.std.proofs.Common.{◌≡◌, ◌≤◌, ◌++◌, drop}
use Rattle.bidi.specs.Explicit.{explicit, explicit_from}
use Rattle.bidi.proofs.explicit.place_all.Given as goal

abbrev pub invariant-loop-i : goal.invariant-loop-i
invariant-loop-i l = record {
  done : l.all.items ++ explicit_from l.fn.base l.stack (drop l.i l.classes) ≡ explicit l.fn.base l.classes;
  isolates : l.stack.isolates ≤ l.i;
  overflow_isolates : l.stack.overflow_isolates ≤ l.i;
  overflow_embeddings : l.stack.overflow_embeddings ≤ l.i;
}
