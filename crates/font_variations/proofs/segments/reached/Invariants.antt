use Rattle.std.proofs.Common.{◌≡◌, ◌-◌}
use Rattle.font_variations.specs.Segments.{reached}
use Rattle.font_variations.proofs.segments.reached.Given as goal

-- what is reached from here on is what is reached from the start
abbrev pub invariant-loop-i : goal.invariant-loop-i
invariant-loop-i l = reached l.avar l.at l.value (l.last - 1) 1 ≡ reached l.avar l.at l.value (l.last - l.i) l.i
