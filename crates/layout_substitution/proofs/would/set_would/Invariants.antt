use Rattle.std.proofs.Common.{◌≡◌, ◌-◌}
use Rattle.layout_matching.specs.Loops.{some_passes}
use Rattle.layout_substitution.specs.Substitutes.{listed_count}
use Rattle.layout_substitution.specs.Would.{ligature_would_in}
use Rattle.layout_substitution.proofs.would.set_would.Given as goal

-- whether one of all ligatures is these glyphs is whether one from here on is
abbrev pub invariant-loop-i : goal.invariant-loop-i
invariant-loop-i l =
    let n = listed_count l.table l.set in
    some_passes (ligature_would_in l.table l.glyphs l.set) n 0 ≡ some_passes (ligature_would_in l.table l.glyphs l.set) (n - l.i) l.i
