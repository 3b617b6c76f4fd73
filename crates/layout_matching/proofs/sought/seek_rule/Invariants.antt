use Rattle.std.proofs.Common.{◌≡◌, ◌≤◌, ◌-◌, IfSome, true, None}
use Rattle.layout_matching.specs.Loops.{steps}
use Rattle.layout_matching.specs.Sought.{sought, sought_at_subtable, unfound, unless_found}
use Rattle.layout_matching.specs.Work.{IsBeside}
use Rattle.layout_matching.proofs.sought.seek_rule.Given as goal

-- what the subtables from here on give is what all give
abbrev pub invariant-loop-i : goal.invariant-loop-i
invariant-loop-i l = record {
  within : l.i ≤ l.count;
  made : sought l.indexed.lookup.now l.items l.origin l.fn.left
      ≡ steps (unless_found (sought_at_subtable l.indexed.lookup.now l.items l.origin)) (l.count - l.i) l.i (unfound l.sought.left);
  none : l.sought.found ≡ None;
  known : IfSome l.known (IsBeside l.indexed.lookup.now true l.items l.origin.at);
}

abbrev pub decreases-loop-i : goal.decreases-loop-i
decreases-loop-i l = l.count - l.i
