use Rattle.std.proofs.Common.{◌≡◌, ◌≤◌, ◌<◌, ◌-◌, length, slice_index_or, refl, ap, ◌∙◌, arith}
use Rattle.std.proofs.lemmas.Bool.Decides.{nat_tests}
use Rattle.layout_matching.proofs.LigatureSetLemmas.{set_of_glyph}
use Rattle.layout_matching.proofs.ligature_sets.StoredSets.for_glyph.Goals as goal

pub returns-then-number-len : goal.returns-then-number-len
returns-then-number-len c = λ t place are.
    let stored = c.args.self.now in
    let n = c.in_ok-index.field-0 in
    let s = c.index-then-number-len.result.now in
    let from : stored.first ≤ c.args.glyph = grind (arith, nat_tests, c.if-glyph-self.false) in
    let inside : c.args.glyph - stored.first < length stored.numbers.items = grind (arith, nat_tests, c.if-len-i.false, c.len.ensures) in
    let held : n < length stored.sets.items =
    grind (arith, nat_tests, c.if-number-len.true, c.len-2.ensures, c.from-number.ensures) in
    set_of_glyph t place c.args.glyph (c.args.glyph - stored.first) n stored c.index.result.now s are from refl inside c.index.ensures
    c.in_ok-index.was held
    (c.index-then-number-len.ensures ∙ ap (λ k. slice_index_or stored.sets.items k s) c.from-number.ensures)
