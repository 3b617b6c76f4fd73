use Rattle.std.proofs.Common.{◌<◌, ◌+◌, sym, ◌∙◌, subst, arith}
use Rattle.std.proofs.lemmas.Bool.Decides.{nat_tests}
use Rattle.shape_items.specs.Items.{Item}
use Rattle.layout_matching.specs.Firsts.{AreOut}
use Rattle.layout_matching.specs.Found.{found_at_subtable}
use Rattle.layout_matching.proofs.FirstLemmas.{find_begun, find_next}
use Rattle.layout_matching.proofs.LoopLemmas.{first_some_found}
use Rattle.layout_matching.proofs.found.find.Goals as goal

pub loop-i-init : goal.loop-i-init
loop-i-init c =
    let l = c.args.indexed.now.lookup.now in
    record {
      within = c.next_begun-i.ensures.few;
      none = find_begun l c.args.items.now c.args.origin c.subtable_count-count.result c.next_begun-i.result
          c.subtable_count-count.ensures.value c.next_begun-i.ensures.few
          (subst (λ (there : Item). AreOut l 0 c.next_begun-i.result there.glyph_id) c.at.ensures c.next_begun-i.ensures.out);
    }

pub loop-i-preserved : goal.loop-i-preserved
loop-i-preserved c =
    let l = c.args.indexed.now.lookup.now in
    let more : c.loop-i.i < c.subtable_count-count.result = grind (arith, nat_tests, c.loop-i-test.true) in
    record {
      within = c.next_begun-i-in-loop-i.ensures.few;
      none = find_next l c.args.items.now c.args.origin c.subtable_count-count.result c.loop-i.i c.next_begun-i-in-loop-i.result more
          c.next_begun-i-in-loop-i.ensures.from c.next_begun-i-in-loop-i.ensures.few
          (subst (λ (there : Item). AreOut l (c.loop-i.i + 1) c.next_begun-i-in-loop-i.result there.glyph_id) c.at.ensures
          c.next_begun-i-in-loop-i.ensures.out)
          (sym c.in_default.ensures.value) c.loop-i.invariant.none;
    }

pub returns-in-Some-clause-value : goal.returns-in-Some-clause-value
returns-in-Some-clause-value c =
    let l = c.args.indexed.now.lookup.now in
    let n = c.subtable_count-count.result in
    let more : c.loop-i.i < n = grind (arith, nat_tests, c.loop-i-test.true) in
    sym (c.loop-i.invariant.none
    ∙ first_some_found (found_at_subtable l c.args.items.now c.args.origin) n c.loop-i.i c.in-Some.found more (sym c.in-Some.ensures.value))
