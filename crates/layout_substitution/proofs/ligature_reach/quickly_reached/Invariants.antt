use Rattle.std.proofs.Common.{◌≡◌, ◌-◌}
use Rattle.layout_matching.specs.Tried.{untried, until_matched}
use Rattle.layout_substitution.specs.Ligatures.{quick_reach_in}
use Rattle.layout_substitution.specs.Substitutes.{listed_count}
use Rattle.layout_substitution.proofs.ligature_reach.quickly_reached.Given as goal

abbrev pub invariant-loop-i : goal.invariant-loop-i
invariant-loop-i l =
    let n = listed_count l.lookup.table.now l.set in
    until_matched (quick_reach_in l.lookup l.buffer l.at l.set l.glyph) n 0 (untried l.at)
    ≡ until_matched (quick_reach_in l.lookup l.buffer l.at l.set l.glyph) (n - l.i) l.i l.reach
