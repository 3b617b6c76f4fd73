use Rattle.std.proofs.Common.{◌≡◌, ◌∙◌, ◌+◌, ◌-◌, ◌<◌, ℕ, List, length, get_or, set, drop, sym, ap, arith}
use Rattle.std.proofs.lemmas.List.{length-set}
use Rattle.shape_items.specs.Buffer.{Buffer}
use Rattle.shape_items.specs.Items.{Item, new_item}
use Rattle.cluster_order.specs.Ordered.{joined_to}
use Rattle.cluster_order.proofs.OrderedLemmas.{joined_from, joined-next}
use Rattle.cluster_order.proofs.join_ahead.Goals as goal

pub loop-done-preserved : goal.loop-done-preserved
loop-done-preserved c =
    let old = c.args.buffer.now in
    let n = c.len-len.result in
    let done = c.loop-done.done in
    let kept = c.loop-done.invariant in
    let before : done < n = c.loop-done-test.true in
    let i = n - 1 - done in
    let next : n - done ≡ i + 1 = omega arith in
    let rest : n - (done + 1) ≡ i = omega arith in
    let within : i < length old.items = omega (arith, kept.len) in
    let joined_at : Buffer → Buffer = λ b. record b {
      items = set b.items i (joined_to (get_or b.items i (new_item 0 0)) (drop (i + 1) b.items));
    } in
    let was : c.loop-done.buffer ≡ record old { items = joined_from (i + 1) old.items } =
    kept.joined ∙ ap (λ (k : ℕ). record old { items = joined_from k old.items }) next in
    record {
      same_length = ap (λ (b : Buffer). length b.items) c.join_to_next.ensures ∙ length-set c.loop-done.buffer.items i _ ∙ kept.same_length;
      len = kept.len;
      joined = c.join_to_next.ensures ∙ ap joined_at was
          ∙ ap (λ (items : List Item). record old { items = items }) (joined-next old.items i (new_item 0 0) within)
          ∙ ap (λ (k : ℕ). record old { items = joined_from k old.items }) (sym rest);
    }
