use Rattle.std.proofs.Common.{◌<◌, ◌+◌, sym, subst, arith}
use Rattle.std.proofs.lemmas.Bool.Decides.{nat_tests}
use Rattle.shape_items.specs.Items.{Item}
use Rattle.layout_matching.specs.Firsts.{AreOut}
use Rattle.layout_matching.proofs.FirstLemmas.{charge_begun, charge_next}
use Rattle.layout_matching.proofs.work.subtables_charged.Goals as goal

pub loop-i-init : goal.loop-i-init
loop-i-init c =
    let l = c.args.indexed.now.lookup.now in
    record {
      within = c.next_begun-i.ensures.few;
      made = charge_begun l c.args.items.now c.args.at c.subtable_count-count.result c.next_begun-i.result c.args.left
          c.subtable_count-count.ensures.value c.next_begun-i.ensures.few
          (subst (λ (there : Item). AreOut l 0 c.next_begun-i.result there.glyph_id) c.at.ensures c.next_begun-i.ensures.out);
    }

pub loop-i-preserved : goal.loop-i-preserved
loop-i-preserved c =
    let l = c.args.indexed.now.lookup.now in
    let more : c.loop-i.i < c.subtable_count-count.result = grind (arith, nat_tests, c.loop-i-test.true) in
    record {
      within = c.next_begun-i-in-loop-i.ensures.few;
      made = charge_next l c.args.items.now c.args.at c.subtable_count-count.result c.loop-i.i c.next_begun-i-in-loop-i.result
          c.args.left c.loop-i.left c.in-Some.less more
          c.next_begun-i-in-loop-i.ensures.from c.next_begun-i-in-loop-i.ensures.few
          (subst (λ (there : Item). AreOut l (c.loop-i.i + 1) c.next_begun-i-in-loop-i.result there.glyph_id) c.at.ensures
          c.next_begun-i-in-loop-i.ensures.out)
          (sym c.in-Some.ensures) c.loop-i.invariant.made;
    }
