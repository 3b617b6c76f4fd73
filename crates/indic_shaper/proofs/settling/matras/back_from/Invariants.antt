use Rattle.std.proofs.Common.{◌-◌, ◌≡◌, ◌≤◌}
use Rattle.indic_shaper.specs.Settling.Matras.{back_while, goes_on}
use Rattle.indic_shaper.proofs.settling.matras.back_from.Given as goal

abbrev pub invariant-loop-i : goal.invariant-loop-i
invariant-loop-i l = record {
  from : l.start ≤ l.i;
  to : l.i ≤ l.from;
  left : back_while (goes_on l.infos l.end) l.start l.i ≡ back_while (goes_on l.infos l.end) l.start l.from;
}

abbrev pub decreases-loop-i : goal.decreases-loop-i
decreases-loop-i l = l.i - l.start
