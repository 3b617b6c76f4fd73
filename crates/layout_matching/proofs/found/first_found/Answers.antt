use Rattle.std.proofs.Common.{◌≡◌, ◌<◌, ◌+◌, Some, sym, ◌∙◌, arith}
use Rattle.shape_font.specs.Bytes.{u16_of, fitting}
use Rattle.layout_matching.specs.Found.{found_rule}
use Rattle.layout_matching.proofs.LoopLemmas.{first_some_found}
use Rattle.layout_matching.proofs.found.first_found.Goals as goal

pub returns-in-Some-found_at-clause-value : goal.returns-in-Some-found_at-clause-value
returns-in-Some-found_at-clause-value c =
    let t = c.args.lookup.now.table.now in
    let n = fitting t (u16_of t c.args.set.now.place) (c.args.set.now.place + 2) 2 in
    let f = found_rule c.args.lookup.now c.args.items.now c.args.origin c.args.set.now.subtable c.args.set.now.place in
    let more : c.loop-r.r < n = omega (arith, c.loop-r-test.true, c.records-r-end.ensures.value) in
    let is : f c.loop-r.r ≡ Some c.in-Some-found_at.found = c.in-Some.ensures.value ∙ sym c.in-Some-found_at.ensures.value in
    sym (c.loop-r.invariant.none ∙ first_some_found f n c.loop-r.r c.in-Some-found_at.found more is)
