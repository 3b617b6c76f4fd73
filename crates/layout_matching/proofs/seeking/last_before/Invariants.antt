use Rattle.std.proofs.Common.{◌≡◌, ◌-◌, ◌≤◌, length}
use Rattle.layout_matching.specs.Loops.{steps}
use Rattle.layout_matching.specs.Seeking.{prev_place}
use Rattle.layout_matching.proofs.seeking.last_before.Given as goal

abbrev pub invariant-loop-k : goal.invariant-loop-k
invariant-loop-k l = record {
  made : steps (prev_place l.lookup l.seek l.items) l.n 0 l.i ≡ steps (prev_place l.lookup l.seek l.items) (l.n - l.k) l.k l.last;
  inside : l.last ≤ length l.items;
}
