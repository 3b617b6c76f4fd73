use Rattle.std.proofs.Common.{◌≡◌, ◌+◌, ◌-◌, ◌++◌, length, get_or, take, drop, slice_index, arith, ap, sym, subst, ◌∙◌}
use Rattle.std.proofs.lemmas.List.{take_all, take_at, drop_at, length-take-le, get_or-map}
use Rattle.std.proofs.lemmas.Slice.{take-put_mid_below}
use borrow.Rule.Slice.PartMut.{put_mid}
use Rattle.shape_items.specs.Items.{Item, put_in}
use Rattle.shape_items.specs.Clusters.{clusters, put_range}
use Rattle.shape_items.specs.Spans.{grown_left}
use Rattle.shape_items.specs.Unwritten.{StandsFor}
use Rattle.shape_items.proofs.Merging.ClusterLemmas.{put_mid-map_range, merge_short}
use Rattle.shape_items.proofs.MergingInOrder.StandingLemmas.{merge-standing}
use Rattle.shape_items.proofs.Unwritten.GivenLemmas.{length-given}
use Rattle.shape_items.proofs.clusters.each_span.merge_after.Goals as goal

pub returns-then-end-start-lt2-clause-merged : goal.returns-then-end-start-lt2-clause-merged
returns-then-end-start-lt2-clause-merged c = λ given s. (
  given,
  rw (take_all (length c.args.starts.now) c.args.starts.now (omega arith)) s,
  sym (merge_short c.args.start c.args.end (given ++ drop c.args.start c.args.infos.now) (grind arith)),
)

pub returns-clause-merged : goal.returns-clause-merged
returns-clause-merged c = λ given s.
    let xs = c.args.infos.now in
    let start = c.args.start in
    let to = c.args.end + c.growth_right.result in
    let x : Item = get_or xs start c.index-items-start.result in
    let least = c.least_cluster-least.result in
    let mid = put_mid start (to - start) xs c.put_all_in.new.infos in
    let kept = c.grow_left.new.kept in
    let written : mid ≡ put_range start to least xs = put_mid-map_range (put_in least) start to xs c.put_all_in.new.infos (omega arith) c.put_all_in.ensures in
    let before : take start mid ≡ take start xs = take-put_mid_below start (to - start) xs c.put_all_in.new.infos start (omega arith)
    (omega arith) in
    let front : length (take start xs) ≡ start = length-take-le start xs (omega arith) in
    let size : length given ≡ start = length-given _ _ given s ∙ front in
    let kept_size : length kept ≡ start = c.grow_left.ensures.as_many ∙ ap length before ∙ front in
    let stands = c.grow_left.ensures.stands given (subst (λ z. StandsFor z c.args.starts.now given) (sym before) s) in
    let first : x.cluster
    ≡ slice_index (clusters xs) start = sym (get_or-map (λ (y : Item). y.cluster) xs start c.index-items-start.result 0 (omega arith)) in
    let head : take start (kept ++ drop start mid) ≡ kept = take_at kept (drop start mid) start kept_size in
    let tail : drop start (kept ++ drop start mid) ≡ drop start mid = drop_at kept (drop start mid) start kept_size in (
      grown_left x.cluster least given,
      rw head stands,
      ap (λ z. grown_left x.cluster least given ++ z) (tail ∙ ap (drop start) written)
          ∙ merge-standing xs given start c.args.end x.cluster least to (omega (arith, c.if-end-start-lt2.false)) c.requires.within size first
          c.least_cluster-least.ensures (ap (λ n. c.args.end + n) c.growth_right.ensures.value),
    )
