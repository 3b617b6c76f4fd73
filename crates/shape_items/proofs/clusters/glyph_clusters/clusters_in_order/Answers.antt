use Rattle.std.proofs.Common.{◌≡◌, ◌≤◌, ◌<◌, ◌++◌, ◌∷◌, [], ◌+◌, drop, length, arith, ap, ◌∙◌}
use Rattle.std.proofs.lemmas.Grind.{common_steps}
use Rattle.shape_items.specs.Flags.{cluster_runs}
use Rattle.shape_items.specs.GlyphClusters.{clusters_of, run_length}
use Rattle.shape_items.proofs.Flags.GlyphClusterLemmas.{clusters-more, run_length-some}
use Rattle.shape_items.proofs.clusters.glyph_clusters.clusters_in_order.Goals as goal

pub loop-preserved : goal.loop-preserved
loop-preserved c =
    let infos = c.args.infos.now in
    let end = c.loop.start + c.run_length.result in
    let inside : c.loop.start < length infos = grind (arith, common_steps) in
    let fits : end ≤ length infos = grind (arith, common_steps) in
    let counted : c.run_length.result ≡ run_length (drop c.loop.start infos) = grind (arith, common_steps) in
    record {
      within = fits;
      gone = grind (arith, common_steps, run_length-some);
      rest = ap (λ items. items ++ clusters_of c.args.direction c.args.positions.now end (cluster_runs (drop end infos)))
          (c.in_ok-push.ensures.items ∙ ap (λ cluster. c.loop.clusters.items ++ cluster ∷ []) c.cluster_between.ensures)
          ∙ clusters-more c.args.direction c.args.positions.now infos c.loop.start end c.loop.clusters.items inside
          (ap (λ n. c.loop.start + n) counted) fits
          ∙ c.loop.invariant.rest;
    }
