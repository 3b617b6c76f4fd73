use Rattle.std.proofs.Common.{◌≡◌, ◌+◌, ◌++◌, ◌∷◌, [], length, ap, sym, subst, ◌∙◌, arith}
use Rattle.std.proofs.lemmas.List.{length-append}
use Rattle.layout_digests.specs.Stored.{HoldsFirsts, Extends}
use Rattle.layout_digests.proofs.StoredLemmas.{one_first, extended}
use Rattle.layout_digests.proofs.stored.push_subtables.Goals as goal

pub loop-i-preserved : goal.loop-i-preserved
loop-i-preserved c =
    let t = c.args.lookups.table.now in
    let positioning = c.args.lookups.positioning in
    let from = c.args.span.from in
    let firsts = c.loop-i.firsts.items in
    let x = c.words.result in
    let made : c.push.new.self.items ≡ firsts ++ x ∷ [] = c.in_ok-push.ensures.items in
    let count : length (firsts ++ x ∷ []) ≡ length firsts + 1 = length-append firsts (x ∷ []) in
    let so_far : length firsts ≡ from + c.loop-i.i = c.loop-i.invariant.so_far in
    let longer : length (firsts ++ x ∷ []) ≡ from + (c.loop-i.i + 1) = omega (arith, count, so_far) in
    record {
      so_far = ap length made ∙ longer;
      held = subst (λ fs. HoldsFirsts t positioning c.args.place fs from (c.loop-i.i + 1)) (sym made)
          (one_first t positioning c.args.place firsts from c.loop-i.i c.with_subtable-reading.result.digest x c.loop-i.invariant.held so_far
          c.with_subtable-reading.ensures.firsts c.words.ensures);
      kept = subst (Extends c.args.firsts.now.items) (sym made) (extended c.args.firsts.now.items firsts x c.loop-i.invariant.kept);
    }
