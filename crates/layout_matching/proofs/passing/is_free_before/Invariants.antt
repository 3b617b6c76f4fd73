use Rattle.std.proofs.Common.{◌≡◌, ◌-◌, ℕ, Bool}
use Rattle.layout_matching.specs.Loops.{along}
use Rattle.layout_matching.specs.Skipping.{nth}
use Rattle.layout_matching.specs.Work.{passing_step, to_stops}
use Rattle.layout_matching.specs.declared.passing.Passing.{Passing}
use Rattle.layout_matching.proofs.passing.is_free_before.Given as goal

-- so far nothing is passed over
abbrev pub invariant-loop-d : goal.invariant-loop-d
invariant-loop-d l = (listed : Bool) →
    let f : ℕ → Passing → Passing = λ d. passing_step l.lookup listed (nth l.items (l.at - 1 - d)) in
    along f l.at 0 (to_stops l.n) ≡ along f (l.at - l.d) l.d (record { stops = l.stops; total = 0 })
