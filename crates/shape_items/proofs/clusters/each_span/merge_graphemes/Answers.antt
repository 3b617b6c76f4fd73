use Rattle.std.proofs.Common.{◌≡◌, ◌<◌, ◌+◌, ◌++◌, [], length, map, take, drop, slice_range, arith, refl, ap, sym, subst, ◌∙◌}
use Rattle.std.proofs.lemmas.List.{take-take, length-take-le, length-map, drop_all, drop-drop, drop-map}
use Rattle.shape_items.specs.Clusters.{merge}
use Rattle.shape_items.specs.GraphemeSpans.{is_continuation, ends}
use Rattle.shape_items.specs.Unwritten.{StandsFor}
use Rattle.shape_items.proofs.Merging.ClusterLemmas.{merge_short}
use Rattle.shape_items.proofs.MergingInOrder.GraphemeWalkLemmas.{walk-spans, walk_ends, walk_goes_on, left_to_do, merged-continuations}
use Rattle.shape_items.proofs.MergingInOrder.StandingLemmas.{front-longer}
use Rattle.shape_items.proofs.Unwritten.GivenLemmas.{length-given}
use Rattle.shape_items.proofs.Unwritten.UnwrittenLemmas.{StandsFor-none}
use Rattle.shape_items.proofs.clusters.each_span.merge_graphemes.Goals as goal
use Rattle.shape_items.proofs.clusters.each_span.merge_graphemes.Goals.{then-ends_grapheme+then-start-last, then-ends_grapheme+else-start-last, else-ends_grapheme}

pub loop-last-init : goal.loop-last-init
loop-last-init c =
    let items = c.args.infos.now in
    record {
      runs = omega arith;
      within = omega arith;
      ordered = omega arith;
      as_many = refl;
      room = refl;
      bits = refl;
      left = ([], StandsFor-none, walk-spans is_continuation merge items items);
    }

pub merge_after-runs-requires-clause-stands : goal.merge_after-runs-requires-clause-stands
merge_after-runs-requires-clause-stands c =
    let given = c.loop-last.invariant.left.0 in (
      given ++ slice_range c.loop-last.infos c.loop-last.kept c.loop-last.start,
      c.open_runs-runs.ensures.stands given c.loop-last.invariant.left.1,
    )

pub loop-last-preserved : goal.loop-last-preserved
loop-last-preserved c =
    let bits = map is_continuation c.args.infos.now in
    let last = c.loop-last.last in
    let start = c.loop-last.start in
    let kept = c.loop-last.kept in
    let xs = c.loop-last.infos in
    let so_far = c.loop-last.invariant in
    let given = so_far.left.0 in
    let further : drop (last + 1) (map is_continuation xs) ≡ drop (last + 1) bits =
    sym (drop-drop 1 last (map is_continuation xs)) ∙ ap (drop 1) so_far.bits ∙ drop-drop 1 last bits in
    let told : ends (drop (last + 1) bits) ≡ c.ends_grapheme.result =
    sym (c.ends_grapheme.ensures ∙ ap ends (sym (drop-map is_continuation (last + 1) xs) ∙ further)) in
    let inside : last < length bits = rw (length-map c.args.infos.now is_continuation) (omega (arith, so_far.as_many)) in
    elim c.if-ends_grapheme.branch [
      | then-ends_grapheme+then-start-last w ↦
          let new = w.merge_after-runs.new.infos in
          let starts = w.open_runs-runs.new.starts in
          let opened = w.open_runs-runs.ensures.stands given so_far.left.1 in
          let merged = w.merge_after-runs.ensures.merged (given ++ slice_range xs kept start) opened in
          let runs = w.merge_after-runs.result in
          let counted : length (take w.open_runs-runs.result starts) ≡ w.open_runs-runs.result = length-take-le w.open_runs-runs.result starts
          (omega (arith, w.open_runs-runs.ensures.runs, w.open_runs-runs.ensures.as_many, so_far.ordered, so_far.as_many, so_far.room)) in
          let fewer : take runs (take w.open_runs-runs.result starts) ≡ take runs starts =
          take-take runs w.open_runs-runs.result starts (omega (arith, w.merge_after-runs.ensures.runs)) in
          let made : merged.0 ++ drop start new ≡ merge start (last + 1) (given ++ drop kept xs) = merged.2
          ∙ ap (merge start (last + 1)) (front-longer xs given kept start so_far.within) in
          let size : length given ≡ kept = length-given _ _ given so_far.left.1
          ∙ length-take-le kept xs (omega (arith, so_far.within, so_far.ordered)) in
          let size' : length merged.0 ≡ start = length-given _ _ merged.0 merged.1
          ∙ length-take-le start new (omega (arith, so_far.ordered, w.merge_after-runs.ensures.as_many)) in
          rw (w.infos-is, w.starts-is, w.kept-is, w.runs-is, w.start-is) (record {
            runs = omega (arith, w.merge_after-runs.ensures.runs, w.open_runs-runs.ensures.runs);
            within = omega (arith, so_far.ordered);
            ordered = omega arith;
            as_many = w.merge_after-runs.ensures.as_many ∙ so_far.as_many;
            room = w.open_runs-runs.ensures.as_many ∙ so_far.room;
            bits = merged-continuations xs new given merged.0 kept start (last + 1) so_far.within (omega (arith, so_far.ordered)) size size' made
                ∙ further;
            left = (
              merged.0,
              subst (λ z. StandsFor (take start new) z merged.0) fewer merged.1,
              ap (left_to_do merge (last + 1) (last + 1) (drop (last + 1) bits)) made
                  ∙ walk_ends merge start last bits (given ++ drop kept xs) inside (told ∙ w.if-ends_grapheme.true) ∙ so_far.left.2,
            );
          })
      | then-ends_grapheme+else-start-last w ↦
          let alone : merge start (last + 1) (given ++ drop kept xs) ≡ given ++ drop kept xs =
          merge_short start (last + 1) (given ++ drop kept xs) (grind (arith, w.if-start-last.false)) in
          rw (w.infos-is, w.starts-is, w.kept-is, w.runs-is, w.start-is) (record {
            runs = so_far.runs;
            within = omega (arith, so_far.within, so_far.ordered);
            ordered = omega arith;
            as_many = so_far.as_many;
            room = so_far.room;
            bits = further;
            left = (
              given,
              so_far.left.1,
              ap (left_to_do merge (last + 1) (last + 1) (drop (last + 1) bits)) (sym alone)
                  ∙ walk_ends merge start last bits (given ++ drop kept xs) inside (told ∙ w.if-ends_grapheme.true) ∙ so_far.left.2,
            );
          })
      | else-ends_grapheme w ↦
          rw (w.infos-is, w.starts-is, w.kept-is, w.runs-is, w.start-is) (record {
            runs = so_far.runs;
            within = so_far.within;
            ordered = omega (arith, so_far.ordered);
            as_many = so_far.as_many;
            room = so_far.room;
            bits = further;
            left = (
              given,
              so_far.left.1,
              walk_goes_on merge start last bits (given ++ drop kept xs) inside (told ∙ w.if-ends_grapheme.false) ∙ so_far.left.2,
            );
          })
    ]

pub returns-clause-merged : goal.returns-clause-merged
returns-clause-merged c =
    let bits = map is_continuation c.args.infos.now in
    let kept = c.loop-last.kept in
    let xs = c.loop-last.infos in
    let given = c.loop-last.invariant.left.0 in
    let none : drop c.loop-last.last bits ≡ [] =
    drop_all c.loop-last.last bits (rw (length-map c.args.infos.now is_continuation) (omega (arith, c.loop-last.invariant.as_many))) in
    ap (λ z. z ++ drop kept xs) (c.write_runs.ensures given c.loop-last.invariant.left.1)
    ∙ sym (ap (λ bs. left_to_do merge c.loop-last.start c.loop-last.last bs (given ++ drop kept xs)) none) ∙ c.loop-last.invariant.left.2
