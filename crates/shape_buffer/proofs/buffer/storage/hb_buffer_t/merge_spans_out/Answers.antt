use Rattle.std.proofs.Common.{◌≡◌, ◌≢◌, length, ap, sym, ◌∙◌, rules}
use Rattle.shape_items.specs.Buffer.{Buffer}
use Rattle.shape_common.specs.declared.text_types.BufferClusterLevel.TheVariants.{Characters}
use Rattle.shape_items.proofs.MergingInOrder.EachSpanLemmas.{length-merge_each, spans_merged_out_preserve, spans_merged_out-characters, merged_out_at_once}
use Rattle.shape_buffer.proofs.buffer.storage.hb_buffer_t.merge_spans_out.Goals as goal

pub returns-then-eq-clause-merged : goal.returns-then-eq-clause-merged
returns-then-eq-clause-merged c =
    let is : c.self.inside.cluster_level ≡ Characters = search rules in
    sym (spans_merged_out-characters c.args.spans.now c.args.self.now
    (sym (ap (λ (b : Buffer). b.cluster_level) c.self.view_is) ∙ is))

pub returns-clause-merged : goal.returns-clause-merged
returns-clause-merged c =
    let other : c.self.inside.cluster_level ≢ Characters = search rules in
    merged_out_at_once c.args.spans.now c.args.self.now _ (λ is. other (ap (λ (b : Buffer). b.cluster_level) c.self.view_is ∙ is))
    c.merge_at_once.ensures

pub returns-clause-len : goal.returns-clause-len
returns-clause-len c =
    ap (λ (b : Buffer). length b.items) c.merge_at_once.ensures ∙ length-merge_each c.args.spans.now c.args.self.now.items

pub returns-clause-preserves : goal.returns-clause-preserves
returns-clause-preserves c = spans_merged_out_preserve 0 c.args.spans.now c.args.self.now _ c.requires.in_order (returns-clause-merged c)
