use Rattle.std.proofs.Common.{◌<◌, sym, ◌∙◌, arith}
use Rattle.layout_matching.proofs.LoopLemmas.{first_some_found}
use Rattle.layout_substitution.specs.Kinds.{single_in}
use Rattle.layout_tables.specs.Lookups.{subtable_count_of}
use Rattle.layout_substitution.proofs.singles.first_glyph.Goals as goal

pub returns-in-Some : goal.returns-in-Some
returns-in-Some c =
    let l = c.args.lookup.now in
    let n = subtable_count_of l.table.now l.place in
    let more : c.loop-i.i < n = omega (arith, c.loop-i-test.true, c.subtable_count-i-end.ensures.value) in
    sym (c.loop-i.invariant ∙ first_some_found (single_in l c.args.glyph) n c.loop-i.i c.in-Some.other more (sym c.in-Some.ensures))
