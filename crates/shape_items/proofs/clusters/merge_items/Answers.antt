use Rattle.std.proofs.Common.{◌≡◌, arith, sym}
use Rattle.std.proofs.lemmas.Grind.{common_steps}
use Rattle.shape_items.specs.Clusters.{merge}
use Rattle.shape_items.proofs.Merging.ClusterLemmas.{put_mid-map_range, merge_short, merge_long}
use Rattle.shape_items.proofs.Merging.MergeOrder.{merge_preserves}
use Rattle.shape_items.proofs.clusters.merge_items.Goals as goal

pub returns-then-end-start-lt2 : goal.returns-then-end-start-lt2
returns-then-end-start-lt2 c =
    let e : c.args.infos.now ≡ merge c.args.start c.args.end c.args.infos.now = sym (merge_short _ _ _ (grind arith)) in
    record { merged = e; order = merge_preserves c.args.start c.args.end c.args.infos.now _ c.requires.within e }

pub returns : goal.returns
returns c = record {
  merged = grind (arith, common_steps, put_mid-map_range, merge_long);
  order = merge_preserves c.args.start c.args.end c.args.infos.now _ c.requires.within
      (grind (arith, common_steps, put_mid-map_range, merge_long));
}
