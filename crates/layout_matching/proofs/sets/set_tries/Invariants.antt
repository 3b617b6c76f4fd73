use Rattle.std.proofs.Common.{◌≡◌, ◌-◌, ◌+◌, ℕ}
use Rattle.shape_font.specs.Bytes.{u16_of, fitting}
use Rattle.layout_matching.specs.Loops.{along}
use Rattle.layout_matching.specs.Work.{tries_step, glances_at}
use Rattle.layout_matching.specs.declared.tally.Tries.{Tries}
use Rattle.layout_matching.proofs.sets.set_tries.Given as goal

-- what the rules from here on make of what is counted is what all of them make
abbrev pub invariant-loop-r : goal.invariant-loop-r
invariant-loop-r l =
    let n = fitting l.lookup.table.now (u16_of l.lookup.table.now l.set) (l.set + 2) 2 in
    let f : ℕ → Tries → Tries = tries_step l.lookup l.subtable (glances_at l.lookup l.items l.at l.subtable) l.set in
    along f n 0 (record { rules = 0; lookups = 0 }) ≡ along f (n - l.r) l.r l.tries
