use Rattle.std.proofs.Common.{◌≡◌, ◌+◌, ◌-◌, IfSome}
use Rattle.shape_font.specs.Bytes.{u16_of, fitting}
use Rattle.layout_matching.specs.Found.{found_rule}
use Rattle.layout_matching.specs.Glance.{glances_in}
use Rattle.layout_matching.specs.Loops.{first_some}
use Rattle.layout_matching.proofs.found.first_found.Given as goal

abbrev pub invariant-loop-r : goal.invariant-loop-r
invariant-loop-r l =
    let n = fitting l.lookup.table.now (u16_of l.lookup.table.now l.set.place) (l.set.place + 2) 2 in
    record {
      none : first_some (found_rule l.lookup l.items l.origin l.set.subtable l.set.place) n 0
          ≡ first_some (found_rule l.lookup l.items l.origin l.set.subtable l.set.place) (n - l.r) l.r;
      known : IfSome l.known (λ g. g ≡ glances_in l.lookup l.items l.origin l.set.subtable);
    }
