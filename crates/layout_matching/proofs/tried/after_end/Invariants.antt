use Rattle.std.proofs.Common.{◌≡◌, ◌-◌, ◌<◌, length}
use Rattle.layout_matching.specs.Loops.{stopped}
use Rattle.layout_matching.specs.Seeking.{next_place}
use Rattle.layout_matching.specs.Tried.{stop_after}
use Rattle.layout_matching.proofs.tried.after_end.Given as goal

abbrev pub invariant-loop-k : goal.invariant-loop-k
invariant-loop-k l = record {
  made : stopped (next_place l.lookup l.seek l.items) (stop_after l.lookup l.seek l.items) l.n 0 l.i
      ≡ stopped (next_place l.lookup l.seek l.items) (stop_after l.lookup l.seek l.items) (l.n - l.k) l.k l.last;
  inside : l.last < length l.items;
}
