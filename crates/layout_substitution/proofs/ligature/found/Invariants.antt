use Rattle.std.proofs.Common.{◌≡◌, ◌-◌}
use Rattle.layout_matching.specs.Loops.{first_some}
use Rattle.layout_substitution.specs.Ligatures.{ligature_in}
use Rattle.layout_substitution.specs.Substitutes.{listed_count}
use Rattle.layout_substitution.proofs.ligature.found.Given as goal

abbrev pub invariant-loop-i : goal.invariant-loop-i
invariant-loop-i l =
    first_some (ligature_in l.lookup l.buffer l.at l.set) (listed_count l.lookup.table.now l.set) 0
    ≡ first_some (ligature_in l.lookup l.buffer l.at l.set) (listed_count l.lookup.table.now l.set - l.i) l.i
