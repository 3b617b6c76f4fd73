use Rattle.std.proofs.Common.{◌≡◌, ◌≤◌, ◌-◌}
use Rattle.layout_matching.specs.Found.{found_at_subtable, found_of}
use Rattle.layout_matching.specs.Loops.{first_some}
use Rattle.layout_matching.proofs.found.find.Given as goal

-- the first from here on is the first of all
abbrev pub invariant-loop-i : goal.invariant-loop-i
invariant-loop-i l = record {
  within : l.i ≤ l.count;
  none : found_of l.indexed.lookup.now l.items l.origin
      ≡ first_some (found_at_subtable l.indexed.lookup.now l.items l.origin) (l.count - l.i) l.i;
}

abbrev pub decreases-loop-i : goal.decreases-loop-i
decreases-loop-i l = l.count - l.i
