use Rattle.std.proofs.Common.{◌≡◌, ◌+◌, ◌-◌}
use Rattle.shape_font.specs.Bytes.{u16_of, fitting}
use Rattle.layout_matching.specs.Loops.{steps}
use Rattle.layout_matching.specs.Work.{part_counted, set_counted}
use Rattle.layout_matching.proofs.sets.set_counted.Given as goal

-- what is counted from here on is what is counted from the first rule on
abbrev pub invariant-loop-r : goal.invariant-loop-r
invariant-loop-r l =
    set_counted l.lookup l.subtable l.left l.set
    ≡ steps (part_counted l.lookup l.subtable l.set)
    (fitting l.lookup.table.now (u16_of l.lookup.table.now l.set) (l.set + 2) 2 - l.r) l.r l.count
