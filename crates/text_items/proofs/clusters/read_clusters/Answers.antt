use Rattle.std.proofs.Common.{◌≡◌, ◌+◌, true, refl, ap, length, drop, arith, ◌∙◌, length-append}
use Rattle.std.specs.List.{concat}
use Rattle.unicode_segmentation.specs.Grapheme.{is_grapheme_break}
use Rattle.unicode_segmentation.specs.Iter.{graphemes_left}
use Rattle.unicode_segmentation.proofs.SegmentsLemmas.{concat-segments}
use Rattle.text_items.specs.Clusters.{cluster_by}
use Rattle.text_items.proofs.ClusterLemmas.{cluster_on}
use Rattle.text_items.proofs.clusters.read_clusters.Goals as goal

pub loop-piece-init : goal.loop-piece-init
loop-piece-init c =
    let whole = ap length (concat-segments (is_grapheme_break true) c.args.text.now c.utf8.text) in
    record {
      clusters_are = rw (c.new-clusters.ensures.items, c.into_iter-piece-iterator.ensures.into_iter_gives, c.graphemes-piece-items.ensures.left) refl;
      languages = λ at le. refl;
      features = λ at le. refl;
      bytes = rw (c.into_iter-piece-iterator.ensures.into_iter_gives, c.graphemes-piece-items.ensures.left) (omega arith);
    }

pub loop-piece-preserved : goal.loop-piece-preserved
loop-piece-preserved c =
    let piece = c.in-Some.piece.now in
    let sum = ap (λ l. length (concat l)) c.in-Some.ensures.steps in
    let long = length-append piece (concat (graphemes_left c.next.new.self)) in
    let start = c.loop-piece.place.offset in
    let left = drop c.loop-piece.place.levels c.args.options.now.levels.now in
    let is_count : c.len.result ≡ length c.read.new.letters.items = c.len.ensures ∙ c.read.new.letters.ok.0 in
    record {
      clusters_are = rw c.in_ok-push.ensures.items
          (cluster_on left _ c.args.options.now.languages.now _ c.args.options.now.features.now _
          start piece c.read.new.letters.items (graphemes_left c.loop-piece.piece-iterator) (graphemes_left c.next.new.self) c.cluster_at.result
          c.loop-piece.clusters.items c.in-Some.ensures.steps c.in_ok-read.ensures
          (c.past_levels.ensures ∙ ap (λ n. drop n left) is_count)
          (c.cluster_at.ensures ∙ ap (cluster_by left _ _ start (start + length piece)) c.deref.ensures.value)
          (c.loop-piece.invariant.languages start (omega arith)) (c.loop-piece.invariant.features start (omega arith))
          ∙ c.loop-piece.invariant.clusters_are);
      languages = λ at le. c.past_ended.ensures at le ∙ c.loop-piece.invariant.languages at (omega arith);
      features = λ at le. c.past_ended-in-loop-piece.ensures at le ∙ c.loop-piece.invariant.features at (omega arith);
      bytes = omega arith;
    }
