use Rattle.std.proofs.Common.{◌≡◌, ◌-◌}
use Rattle.layout_matching.specs.Loops.{first_some}
use Rattle.layout_substitution.specs.Ligatures.{ligature_in, ligature_found}
use Rattle.layout_substitution.proofs.ligature_sought.found_from.Given as goal

-- what those from here on give is what all give
abbrev pub invariant-loop-i : goal.invariant-loop-i
invariant-loop-i l = ligature_found l.lookup l.buffer l.at l.set ≡ first_some (ligature_in l.lookup l.buffer l.at l.set) (l.many - l.i) l.i
