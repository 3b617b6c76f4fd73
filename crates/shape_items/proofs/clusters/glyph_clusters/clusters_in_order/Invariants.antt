use Rattle.std.proofs.Common.{◌≡◌, ◌≤◌, ◌++◌, length, drop}
use Rattle.shape_items.specs.Flags.{cluster_runs}
use Rattle.shape_items.specs.GlyphClusters.{clusters_of}
use Rattle.shape_items.proofs.clusters.glyph_clusters.clusters_in_order.Given as goal

abbrev pub invariant-loop : goal.invariant-loop
invariant-loop l = record {
  within : l.start ≤ length l.infos;
  gone : l.counter ≤ l.start;
  rest : l.clusters.items ++ clusters_of l.direction l.positions l.start (cluster_runs (drop l.start l.infos))
      ≡ clusters_of l.direction l.positions 0 (cluster_runs l.infos);
}
