use Rattle.std.proofs.Common.{◌≡◌, ◌+◌, ◌∷◌, [], ◌++◌, take, slice_range, arith, ap, sym, ◌∙◌, append_assoc}
use Rattle.std.proofs.lemmas.List.{take_more}
use Rattle.shape_items.specs.Items.{Item}
use Rattle.shape_items.proofs.MergingInOrder.StandingLemmas.{slice_range-more}
use Rattle.shape_items.proofs.clusters.each_span.open_runs.Goals as goal

pub loop-i-preserved : goal.loop-i-preserved
loop-i-preserved c =
    let xs = c.args.infos.now in
    let i = c.loop-i.i in
    let x = c.index-infos-i.result in
    record {
      runs = omega (arith, c.open_run-count.ensures.at_most, c.loop-i.invariant.runs);
      as_many = c.open_run-count.ensures.as_many ∙ c.loop-i.invariant.as_many;
      stands = λ given s.
          let front : take (i + 1) xs ≡ take i xs ++ x ∷ [] = take_more xs i x (omega arith)
          ∙ ap (λ y. take i xs ++ y ∷ []) (sym c.index-infos-i.is) in
          let part : slice_range xs c.args.kept (i + 1)
          ≡ slice_range xs c.args.kept i ++ x ∷ [] = slice_range-more xs c.args.kept i x (omega arith) (omega arith) c.index-infos-i.is in
          let more : given ++ slice_range xs c.args.kept (i + 1) ≡ (given ++ slice_range xs c.args.kept i) ++ x ∷ [] =
          ap (λ z. given ++ z) part ∙ sym (append_assoc given (slice_range xs c.args.kept i) (x ∷ [])) in
          rw (front, more)
          (c.open_run-count.ensures.stands x (ap (λ (y : Item). y.cluster) c.index-infos-i.is) (given ++ slice_range xs c.args.kept i) (c.loop-i.invariant.stands given s));
    }
