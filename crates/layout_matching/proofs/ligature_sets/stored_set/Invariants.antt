use Rattle.std.proofs.Common.{◌≡◌, ◌≤◌, ◌<◌, ◌+◌, ◌*◌, ◌^◌}
use Rattle.layout_matching.specs.LigatureSets.{HasFirst}
use Rattle.layout_matching.proofs.ligature_sets.stored_set.Given as goal

-- what is stored of the ligatures so far
abbrev pub invariant-loop-r : goal.invariant-loop-r
invariant-loop-r l = record {
  start : l.stored.start ≡ l.start;
  set : l.stored.set ≡ l.set;
  has : HasFirst l.table l.set l.r l.stored;
  work : l.stored.work ≤ l.r * 2 ^ 16;
  after : l.stored.after < 2 ^ 16;
  tries : l.stored.tries ≤ l.r + 1;
}
