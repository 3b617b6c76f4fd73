use Rattle.std.proofs.Common.{◌≡◌, ◌-◌}
use Rattle.layout_matching.specs.Loops.{first_some}
use Rattle.layout_substitution.specs.Kinds.{single_in}
use Rattle.layout_tables.specs.Lookups.{subtable_count_of}
use Rattle.layout_substitution.proofs.singles.first_glyph.Given as goal

abbrev pub invariant-loop-i : goal.invariant-loop-i
invariant-loop-i l =
    let n = subtable_count_of l.lookup.table.now l.lookup.place in
    first_some (single_in l.lookup l.glyph) n 0 ≡ first_some (single_in l.lookup l.glyph) (n - l.i) l.i
