use Rattle.std.proofs.lemmas.List.Sums.{prefix_len-le-length}
use Rattle.shape_items.proofs.clusters.glyph_clusters.run_length.Goals as goal

pub returns-in-Some-clause-within : goal.returns-in-Some-clause-within
returns-in-Some-clause-within c = rw c.count_at_start.ensures (prefix_len-le-length _ _)
