use Rattle.std.proofs.Common.{◌≡◌, ◌≤◌, ◌+◌, length, ap, ◌∙◌, arith}
use Rattle.layout_digests.proofs.LigatureSetLemmas.{some_for}
use Rattle.layout_digests.proofs.ligature_sets.sets_of.Goals as goal

pub loop-i-preserved : goal.loop-i-preserved
loop-i-preserved c =
    let t = c.args.table.now in
    let stored = c.loop-i.stored in
    let inv = c.loop-i.invariant in
    let glyph : stored.first + length stored.numbers.items ≡ c.reach_of-reach.result.first + c.loop-i.i = omega (arith, inv.first, inv.count) in
    record {
      held = λ place is. c.in_ok-add_glyph.ensures.held t place inv.below (inv.held place is)
          (some_for t place c.args.start (c.reach_of-reach.result.first + c.loop-i.i) (stored.first + length stored.numbers.items)
          c.set_among-set.result is glyph c.set_among-set.ensures);
      below = c.in_ok-add_glyph.ensures.below inv.below;
      first = c.in_ok-add_glyph.ensures.first ∙ inv.first;
      count = c.in_ok-add_glyph.ensures.count ∙ ap (λ n. n + 1) inv.count;
      few = omega (arith, c.in_ok-add_glyph.ensures.few, inv.few);
    }
