use Rattle.std.proofs.Common.{◌≡◌, map, take}
use Rattle.line_carets.specs.LineCarets.{cluster_of}
use Rattle.line_carets.proofs.clusters_of.Given as goal

abbrev pub invariant-loop-place : goal.invariant-loop-place
invariant-loop-place l = l.clusters.items ≡ map cluster_of (take l.place l.run.glyphs.items)
