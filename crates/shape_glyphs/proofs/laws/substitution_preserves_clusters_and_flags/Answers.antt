use Rattle.shape_glyphs.proofs.SubstitutionPreservation.{substitution-preserves_clusters, substitution-preserves_flags}
use Rattle.shape_glyphs.proofs.laws.substitution_preserves_clusters_and_flags.Goals as goal

pub returns : goal.returns
returns c = record { clusters = substitution-preserves_clusters; flags = substitution-preserves_flags }
