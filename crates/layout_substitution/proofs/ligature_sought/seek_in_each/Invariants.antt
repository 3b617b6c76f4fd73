use Rattle.std.proofs.Common.{◌≡◌, ◌≤◌, ◌<◌, ◌-◌, None, length, IfSome}
use Rattle.layout_tables.specs.Lookups.{subtable_count_of}
use Rattle.layout_matching.specs.Loops.{steps}
use Rattle.layout_substitution.specs.Sought.{sought_step}
use Rattle.layout_substitution.proofs.ligature_sought.seek_in_each.Given as goal

-- what the subtables from here on give is what all give
abbrev pub invariant-loop-i : goal.invariant-loop-i
invariant-loop-i l =
    let lookup = l.indexed.lookup.now in
    record {
      within : l.i ≤ l.count;
      made : steps (sought_step lookup l.buffer l.at) (subtable_count_of lookup.table.now lookup.place) 0
          (record { left = l.left; found = None })
          ≡ steps (sought_step lookup l.buffer l.at) (l.count - l.i) l.i l.sought;
      last : IfSome l.sought.found (λ m. m.last < length l.buffer.items);
      far : IfSome l.sought.found (λ m. m.ligature < 137438953472);
    }

abbrev pub decreases-loop-i : goal.decreases-loop-i
decreases-loop-i l = l.count - l.i
