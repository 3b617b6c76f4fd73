use Rattle.std.proofs.Common.{◌≡◌, ◌-◌, ℕ, Bool, length}
use Rattle.layout_matching.specs.Loops.{along}
use Rattle.layout_matching.specs.Skipping.{nth}
use Rattle.layout_matching.specs.Work.{passing_step, to_stops}
use Rattle.layout_matching.specs.declared.passing.Passing.{Passing}
use Rattle.layout_matching.proofs.passing.is_free_from.Given as goal

-- so far nothing is passed over
abbrev pub invariant-loop-j : goal.invariant-loop-j
invariant-loop-j l = (listed : Bool) →
    let f : ℕ → Passing → Passing = λ j. passing_step l.lookup listed (nth l.items j) in
    along f (length l.items - l.from) l.from (to_stops l.n) ≡ along f (length l.items - l.j) l.j (record { stops = l.stops; total = 0 })
