use Rattle.std.proofs.Common.{◌≢◌, length, ap, ◌∙◌, rules}
use Rattle.shape_items.specs.Buffer.{Buffer}
use Rattle.shape_common.specs.declared.text_types.BufferClusterLevel.TheVariants.{Characters}
use Rattle.shape_items.proofs.MergingInOrder.EachSpanLemmas.{length-merge_each, length-all_merged, all_merged_preserve, merged_at_once}
use Rattle.shape_buffer.proofs.buffer.storage.hb_buffer_t.merge_spans.Goals as goal

pub returns-then-spans-le-FEW_SPANS-clause-len : goal.returns-then-spans-le-FEW_SPANS-clause-len
returns-then-spans-le-FEW_SPANS-clause-len c =
    ap (λ (b : Buffer). length b.items) c.merge_one_by_one.ensures ∙ length-all_merged c.args.spans.now c.args.self.now

pub returns-then-spans-le-FEW_SPANS-clause-preserves : goal.returns-then-spans-le-FEW_SPANS-clause-preserves
returns-then-spans-le-FEW_SPANS-clause-preserves c =
    all_merged_preserve 0 c.args.spans.now c.args.self.now _ c.requires.in_order c.merge_one_by_one.ensures

pub returns-then-eq-clause-len : goal.returns-then-eq-clause-len
returns-then-eq-clause-len c =
    ap (λ (b : Buffer). length b.items) c.merge_one_by_one-then-eq.ensures ∙ length-all_merged c.args.spans.now c.args.self.now

pub returns-then-eq-clause-preserves : goal.returns-then-eq-clause-preserves
returns-then-eq-clause-preserves c = all_merged_preserve 0 c.args.spans.now c.args.self.now _ c.requires.in_order c.merge_one_by_one-then-eq.ensures

pub returns-else-eq-clause-merged : goal.returns-else-eq-clause-merged
returns-else-eq-clause-merged c =
    let other : c.self.inside.cluster_level ≢ Characters = search rules in
    merged_at_once c.args.spans.now c.args.self.now _ (λ is. other (ap (λ (b : Buffer). b.cluster_level) c.self.view_is ∙ is))
    c.merge_at_once.ensures

pub returns-else-eq-clause-len : goal.returns-else-eq-clause-len
returns-else-eq-clause-len c =
    ap (λ (b : Buffer). length b.items) c.merge_at_once.ensures ∙ length-merge_each c.args.spans.now c.args.self.now.items

pub returns-else-eq-clause-preserves : goal.returns-else-eq-clause-preserves
returns-else-eq-clause-preserves c =
    all_merged_preserve 0 c.args.spans.now c.args.self.now _ c.requires.in_order (returns-else-eq-clause-merged c)
