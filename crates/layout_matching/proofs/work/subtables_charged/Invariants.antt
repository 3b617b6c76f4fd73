use Rattle.std.proofs.Common.{◌≡◌, ◌≤◌, ◌-◌}
use Rattle.layout_matching.specs.Loops.{steps}
use Rattle.layout_matching.specs.Work.{charged_at_subtable, subtables_charged}
use Rattle.layout_matching.proofs.work.subtables_charged.Given as goal

-- what is left after the subtables from here on is what is left after all
abbrev pub invariant-loop-i : goal.invariant-loop-i
invariant-loop-i l = record {
  within : l.i ≤ l.count;
  made : subtables_charged l.indexed.lookup.now l.items l.at l.fn.left
      ≡ steps (charged_at_subtable l.indexed.lookup.now l.items l.at) (l.count - l.i) l.i l.left;
}

abbrev pub decreases-loop-i : goal.decreases-loop-i
decreases-loop-i l = l.count - l.i
