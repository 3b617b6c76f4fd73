use Rattle.std.proofs.Common.{◌≡◌, ◌-◌, ℕ, length}
use Rattle.layout_matching.specs.Loops.{along}
use Rattle.layout_matching.specs.Skipping.{nth}
use Rattle.layout_matching.specs.Work.{passing_step, to_stops}
use Rattle.layout_matching.specs.declared.passing.Passing.{Passing}
use Rattle.layout_matching.proofs.passing.passed_from.Given as goal

-- what is passed over from here on is what is passed over from the start
abbrev pub invariant-loop-j : goal.invariant-loop-j
invariant-loop-j l =
    let f : ℕ → Passing → Passing = λ j. passing_step l.lookup l.listed (nth l.items j) in
    along f (length l.items - l.from) l.from (to_stops l.count) ≡ along f (length l.items - l.j) l.j l.passing
