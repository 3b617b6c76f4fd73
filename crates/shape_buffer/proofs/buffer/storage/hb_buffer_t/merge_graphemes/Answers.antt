use Rattle.std.proofs.Common.{◌≡◌, ◌≢◌, length, ap, sym, ◌∙◌, rules}
use Rattle.shape_items.specs.Buffer.{Buffer}
use Rattle.shape_items.specs.GraphemeSpans.{grapheme_spans}
use Rattle.shape_common.specs.declared.text_types.BufferClusterLevel.TheVariants.{Characters}
use Rattle.shape_items.proofs.MergingInOrder.EachSpanLemmas.{length-merge_each, spans_merged_out_preserve, spans_merged_out-characters, merged_out_at_once}
use Rattle.shape_items.proofs.MergingInOrder.GraphemeWalkLemmas.{grapheme_spans-in_order}
use Rattle.shape_buffer.proofs.buffer.storage.hb_buffer_t.merge_graphemes.Goals as goal

pub returns-then-eq-clause-merged : goal.returns-then-eq-clause-merged
returns-then-eq-clause-merged c =
    let is : c.self.inside.cluster_level ≡ Characters = search rules in
    sym (spans_merged_out-characters (grapheme_spans c.args.self.now.items) c.args.self.now
    (sym (ap (λ (b : Buffer). b.cluster_level) c.self.view_is) ∙ is))

pub returns-clause-merged : goal.returns-clause-merged
returns-clause-merged c =
    let other : c.self.inside.cluster_level ≢ Characters = search rules in
    merged_out_at_once (grapheme_spans c.args.self.now.items) c.args.self.now _ (λ is. other (ap (λ (b : Buffer). b.cluster_level) c.self.view_is ∙ is))
    c.merge_graphemes_at_once.ensures

pub returns-clause-len : goal.returns-clause-len
returns-clause-len c =
    ap (λ (b : Buffer). length b.items) c.merge_graphemes_at_once.ensures ∙ length-merge_each (grapheme_spans c.args.self.now.items) c.args.self.now.items

pub returns-clause-preserves : goal.returns-clause-preserves
returns-clause-preserves c = spans_merged_out_preserve 0 (grapheme_spans c.args.self.now.items) c.args.self.now _ (grapheme_spans-in_order c.args.self.now.items) (returns-clause-merged c)
