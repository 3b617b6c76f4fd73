use Rattle.std.proofs.Common.{ap, ◌∙◌, arith}
use Rattle.shape_items.specs.Buffer.{limit_of}
use Rattle.shape_items.specs.GraphemeSpans.{grapheme_spans}
use Rattle.shape_items.proofs.MergingInOrder.EachSpanLemmas.{spans_merged_out_is, spans_merged_out-merged}
use Rattle.shape_prepare.proofs.clusters.merge_graphemes.Goals as goal

pub returns : goal.returns
returns c =
    let b = c.args.buffer.now in
    let spans = grapheme_spans b.items in
    record {
      made = c.merge_graphemes.ensures.merged ∙ spans_merged_out-merged spans b c.requires;
      no_longer = omega (arith, c.merge_graphemes.ensures.len);
      same_limit = ap limit_of (c.merge_graphemes.ensures.merged ∙ spans_merged_out_is spans b);
    }
