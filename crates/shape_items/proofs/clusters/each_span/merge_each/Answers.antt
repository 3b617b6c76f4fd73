use Rattle.std.proofs.Common.{◌≡◌, ◌<◌, ◌+◌, ◌++◌, [], length, take, drop, slice_range, slice_index_or, arith, ap, sym, subst, ◌∙◌}
use Rattle.std.proofs.lemmas.List.{take-take, length-take-le, drop_all}
use Rattle.shape_items.specs.Clusters.{merge}
use Rattle.shape_items.specs.Spans.{AreSpansInOrder, merge_each}
use Rattle.shape_items.specs.Unwritten.{StandsFor}
use Rattle.shape_items.proofs.MergingInOrder.EachSpanLemmas.{AreSpansInOrder-next, merge_each-next}
use Rattle.shape_items.proofs.MergingInOrder.StandingLemmas.{front-longer}
use Rattle.shape_items.proofs.clusters.each_span.merge_each.Goals as goal

pub loop-start-preserved : goal.loop-start-preserved
loop-start-preserved c =
    let spans = c.args.spans.now in
    let i = c.loop-start.start-index in
    let xs = c.loop-start.infos in
    let kept = c.loop-start.kept in
    let start = (slice_index_or spans i (0, 0)).0 in
    let end = (slice_index_or spans i (0, 0)).1 in
    let lt : i < length spans = omega arith in
    let ordered = AreSpansInOrder-next kept (length xs) spans i (0, 0) lt c.loop-start.invariant.in_order in
    let given = c.loop-start.invariant.left.0 in
    let opened = c.open_runs-runs.ensures.stands given c.loop-start.invariant.left.1 in
    let merged = c.merge_after-runs.ensures.merged (given ++ slice_range xs kept start) opened in
    let runs = c.merge_after-runs.result in
    let starts = c.open_runs-runs.new.starts in
    let counted : length (take c.open_runs-runs.result starts) ≡ c.open_runs-runs.result = length-take-le c.open_runs-runs.result starts
    (omega (arith, c.open_runs-runs.ensures.runs, c.open_runs-runs.ensures.as_many, ordered.1, ordered.2)) in
    let fewer : take runs (take c.open_runs-runs.result starts) ≡ take runs starts =
    take-take runs c.open_runs-runs.result starts (omega (arith, c.merge_after-runs.ensures.runs)) in
    let made : merged.0 ++ drop start c.merge_after-runs.new.infos ≡ merge start end (given ++ drop kept xs) = merged.2
    ∙ ap (merge start end) (front-longer xs given kept start ordered.0) in
    record {
      runs = omega (arith, c.merge_after-runs.ensures.runs, c.open_runs-runs.ensures.runs);
      within = omega (arith, c.merge_after-runs.ensures.as_many, ordered.1, ordered.2);
      as_many = c.merge_after-runs.ensures.as_many ∙ c.loop-start.invariant.as_many;
      room = c.open_runs-runs.ensures.as_many ∙ c.loop-start.invariant.room;
      in_order = subst (λ n. AreSpansInOrder start n (drop (i + 1) spans)) (sym c.merge_after-runs.ensures.as_many) ordered.3;
      left = (
        merged.0,
        subst (λ z. StandsFor (take start c.merge_after-runs.new.infos) z merged.0) fewer merged.1,
        merge_each-next spans i (0, 0) (given ++ drop kept xs) _ lt made ∙ c.loop-start.invariant.left.2,
      );
    }

pub returns-clause-merged : goal.returns-clause-merged
returns-clause-merged c =
    let spans = c.args.spans.now in
    let xs = c.loop-start.infos in
    let given = c.loop-start.invariant.left.0 in
    let none : drop c.loop-start.start-index spans ≡ [] = drop_all c.loop-start.start-index spans (omega arith) in
    ap (λ z. z ++ drop c.loop-start.kept xs) (c.write_runs.ensures given c.loop-start.invariant.left.1)
    ∙ sym (ap (λ ss. merge_each ss (given ++ drop c.loop-start.kept xs)) none) ∙ c.loop-start.invariant.left.2
