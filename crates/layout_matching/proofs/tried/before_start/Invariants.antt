use Rattle.std.proofs.Common.{◌≡◌, ◌-◌, ◌≤◌, length}
use Rattle.layout_matching.specs.Loops.{stopped}
use Rattle.layout_matching.specs.Seeking.{prev_place}
use Rattle.layout_matching.specs.Tried.{stop_before}
use Rattle.layout_matching.proofs.tried.before_start.Given as goal

abbrev pub invariant-loop-k : goal.invariant-loop-k
invariant-loop-k l = record {
  made : stopped (prev_place l.lookup l.seek l.items) (stop_before l.lookup l.seek l.items) l.n 0 l.i
      ≡ stopped (prev_place l.lookup l.seek l.items) (stop_before l.lookup l.seek l.items) (l.n - l.k) l.k l.last;
  inside : l.last ≤ length l.items;
}
